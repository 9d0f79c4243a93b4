use Rattle.std.proofs.Common.{length}
use Rattle.chain_plain.proofs.Depths.{depth}
use Rattle.plain_saver.proofs.passing.+passed.Given as goal

abbrev pub decreases-passed : goal.decreases-passed
decreases-passed l = depth l.plan.now.graph.nodes (length l.plan.now.graph.nodes) l.node
