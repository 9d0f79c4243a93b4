use Rattle.std.proofs.Common.{◌≡◌, ◌-◌, []}
use Rattle.cdf_read.specs.HeaderReading.{dim_number_at, many_at}
use Rattle.cdf_read.proofs.parts.read_so_many_dim_numbers.Given as goal

-- what is left to read, after the numbers so far, is all
abbrev pub invariant-loop : goal.invariant-loop
invariant-loop l = many_at (dim_number_at l.total l.dims l.var) (l.count - l.counter) l.numbers.items l.rest
    ≡ many_at (dim_number_at l.fn.total l.fn.dims l.fn.var) l.fn.count [] l.fn.rest
