use Rattle.std.proofs.Common.{arith}
use Rattle.nd_stats.proofs.Places.{index_below}
use Rattle.nd_stats.proofs.spot.next_spot.Goals as goal

pub later_spot-requires-clause-line : goal.later_spot-requires-clause-line
later_spot-requires-clause-line c =
    omega (arith, c.requires.spot.x, index_below c.args.dims.now 0 c.args.spot.place c.requires.sizes)
