use Rattle.board_rules.specs.RunMeasures.{run_measure, run_setting}
use Rattle.course_parts.proofs.Starts.{NodesUpTo}
use Rattle.course_parts.proofs.node.start_nodes.Given as goal

-- the nodes so far
abbrev pub invariant-loop-node : goal.invariant-loop-node
invariant-loop-node g l = NodesUpTo (run_measure g.R.Run.graph g.R.Run.stack) (run_setting g.R.Run.graph g.R.Run.stack) l.node-index l.nodes.items
