use Rattle.std.proofs.Common.{length}
use Rattle.chain_plain.proofs.Depths.{depth}
use Rattle.plain_saver.proofs.rooms.Rooms.+cut.Given as goal

abbrev pub decreases-cut : goal.decreases-cut
decreases-cut l = depth l.plan.now.graph.nodes (length l.plan.now.graph.nodes) l.node
