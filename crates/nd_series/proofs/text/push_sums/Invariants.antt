use Rattle.std.proofs.Common.{◌≡◌, ◌++◌, string_bytes, take, codes}
use Rattle.std.specs.List.{flat_map}
use Rattle.std.specs.Fmt.{signed_decimal}
use Rattle.nd_series.proofs.text.push_sums.Given as goal

abbrev pub invariant-loop-sum : goal.invariant-loop-sum
invariant-loop-sum l =
    string_bytes l.text ≡ string_bytes l.fn.text ++ codes "sum" ++ flat_map (λ s. codes " " ++ signed_decimal s) (take l.sum-index l.sums)
