use Rattle.board_rules.specs.RunMeasures.{run_setting}
use Rattle.flow_drain.proofs.Rounds.{WorksBelow}
use Rattle.flow_drain.proofs.working.work_round.Given as goal

abbrev pub invariant-loop-node : goal.invariant-loop-node
invariant-loop-node g l = WorksBelow (run_setting g.R.Run.graph g.R.Run.stack) l.node (g.B.BoardCalls.shown l.fn.board) (g.B.BoardCalls.shown l.board)
