use Rattle.std.proofs.Common.{arith}
use Rattle.nd_stats.proofs.Bins.{bin_product, bin_below}
use Rattle.nd_stats.proofs.tally.bin_at.Goals as goal

pub overflow_mul-result-2 : goal.overflow_mul-result-2
overflow_mul-result-2 c = let p = bin_product c.args.above c.from.result (omega arith) (omega (arith, c.from.ensures)) in omega (arith, p)

pub overflow_add-result : goal.overflow_add-result
overflow_add-result c = let p = bin_product c.args.above c.from.result (omega arith) (omega (arith, c.from.ensures)) in omega (arith, p)

pub returns-clause-below : goal.returns-clause-below
returns-clause-below c = rw c.from.ensures (bin_below c.args.above c.args.range c.args.size c.requires.within c.requires.some c.requires.size)
