use Rattle.std.proofs.Common.{length}
use Rattle.chain_plain.proofs.Depths.{depth}
use Rattle.chain_plain.proofs.plans.+maker_number.Given as goal

abbrev pub decreases-maker_number : goal.decreases-maker_number
decreases-maker_number l = depth l.graph.now.nodes (length l.graph.now.nodes) l.node
