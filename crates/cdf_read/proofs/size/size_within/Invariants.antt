use Rattle.std.proofs.Common.{◌≡◌, ◌≤◌, ◌*◌, drop}
use Rattle.cdf_read.specs.Places.{value_count, size_of}
use Rattle.cdf_read.proofs.size.size_within.Given as goal

-- the values of what is left, each of so many bytes, are the bytes of all
abbrev pub invariant-loop-number : goal.invariant-loop-number
invariant-loop-number l = record {
  whole : value_count l.dims (drop l.number-index l.numbers) * l.size ≡ size_of l.dims l.numbers l.kind;
  within : l.size ≤ 4294967296;
}
