use Rattle.std.proofs.Common.{◌≡◌, ◌-◌, []}
use Rattle.cdf_read.specs.HeaderReading.{dim_at, many_at}
use Rattle.cdf_read.proofs.parts.read_so_many_dims.Given as goal

-- what is left to read, after the dimensions so far, is all
abbrev pub invariant-loop : goal.invariant-loop
invariant-loop l = many_at (dim_at l.total) (l.count - l.counter) l.dims.items l.rest ≡ many_at (dim_at l.fn.total) l.fn.count [] l.fn.rest
