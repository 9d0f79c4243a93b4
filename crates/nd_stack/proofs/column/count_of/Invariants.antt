use Rattle.std.proofs.Common.{◌≡◌, ◌*◌, drop}
use Rattle.cdf_read.specs.Places.{value_count}
use Rattle.nd_stack.proofs.column.count_of.Given as goal

-- the values that are left to count, times those so far, are all
abbrev pub invariant-loop-number : goal.invariant-loop-number
invariant-loop-number l = value_count l.dims (drop l.number-index l.numbers) * l.count ≡ value_count l.dims l.numbers
