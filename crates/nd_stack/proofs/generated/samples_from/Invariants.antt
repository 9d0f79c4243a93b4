use Rattle.std.proofs.Common.{◌≡◌, map}
use Rattle.std.specs.List.{range_with_len}
use Rattle.nd_base.specs.Samples.{bytes_of}
use Rattle.nd_stack.specs.Generated.{number_after, sample_for}
use Rattle.nd_stack.proofs.generated.samples_from.Given as goal

-- the samples of the numbers so far, and the next number
abbrev pub invariant-loop : goal.invariant-loop
invariant-loop l =
    (l.bytes.items ≡ bytes_of l.kind (map (λ j. sample_for l.kind (number_after l.first j)) (range_with_len 0 l.counter)))
    × (l.number ≡ number_after l.first l.counter)
