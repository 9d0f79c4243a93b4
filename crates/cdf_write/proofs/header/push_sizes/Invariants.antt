use Rattle.std.proofs.Common.{◌≡◌, ◌-◌, ◌++◌, length, map, take}
use Rattle.std.specs.List.{concat}
use Rattle.cdf_write.specs.Layout.{slowest_first, size_dimensions}
use Rattle.cdf_write.proofs.header.push_sizes.Given as goal

abbrev pub invariant-loop-i : goal.invariant-loop-i
invariant-loop-i l =
    l.out.items ++ concat (size_dimensions l.i (slowest_first (map (λ d. d.size) (take (length l.dims - l.i) l.dims))))
    ≡ l.initial.out.items ++ concat (size_dimensions 0 (slowest_first (map (λ d. d.size) l.dims)))
