use Rattle.std.proofs.Common.{length}
use Rattle.chain_plain.proofs.Depths.{depth}
use Rattle.chain_plain.proofs.shape.+shape_at.Given as goal

abbrev pub decreases-shape_at : goal.decreases-shape_at
decreases-shape_at l = depth l.graph.now.nodes (length l.graph.now.nodes) l.node
