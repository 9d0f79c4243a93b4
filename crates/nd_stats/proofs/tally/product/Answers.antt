use Rattle.std.proofs.Common.{arith, to_z, of_z, w64}
use Rattle.std.proofs.lemmas.Int.{ints}
use Rattle.nd_stats.proofs.Bins.{fits_product}
use Rattle.nd_stats.proofs.tally.product.Goals as goal

pub overflow_mul-result : goal.overflow_mul-result
overflow_mul-result c =
    fits_product c.args.index (to_z w64 (of_z w64 c.from.result)) (to_z w64 (of_z w64 c.args.weight)) c.args.weight (omega (arith, ints, c.from.ensures))
    (omega (arith, ints)) c.requires.index c.requires.weight
