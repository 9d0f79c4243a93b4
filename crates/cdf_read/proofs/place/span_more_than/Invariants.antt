use Rattle.std.proofs.Common.{◌≡◌, ◌≤◌, ◌*◌, ◌^◌, drop}
use Rattle.cdf_read.specs.Places.{value_count}
use Rattle.cdf_read.proofs.place.span_more_than.Given as goal

-- the values of what is left, so many times
abbrev pub invariant-loop-number : goal.invariant-loop-number
invariant-loop-number l = record {
  whole : value_count l.dims (drop l.number-index l.numbers) * l.count ≡ value_count l.dims l.numbers;
  small : l.count ≤ 2 ^ 96;
}
