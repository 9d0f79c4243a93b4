-- Each side of a fork has fewer keys than the fork.
use Rattle.std.specs.Prelude.{◌≤◌, max, length}
use Rattle.std.proofs.Common.{arith, length-append}
use Rattle.pool_ledger.specs.declared.key_tree.Node.{Node}
use Rattle.pool_ledger.specs.declared.key_tree.Node.TheVariants.{Leaf, Fork}
use Rattle.pool_ledger.specs.declared.key_tree.KeyTree.TheDeep.{deep-Node}
use Rattle.pool_ledger.specs.KeyTrees.{keys}

-- no side is deeper than the node has keys
pub depth_le-length-keys : (n : Node) → max (deep-Node n) 0 ≤ length (keys n)
depth_le-length-keys Leaf = omega arith
depth_le-length-keys (Fork low least split high) = omega (arith, length-append low.value high.value)
