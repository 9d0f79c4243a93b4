use Rattle.std.proofs.Common.{length}
use Rattle.chain_plain.proofs.Depths.{depth}
use Rattle.chain_plain.proofs.contents.+array_out_of.Given as goal

abbrev pub decreases-array_out_of : goal.decreases-array_out_of
decreases-array_out_of l = depth l.graph.now.nodes (length l.graph.now.nodes) l.node
