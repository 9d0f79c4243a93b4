use Rattle.std.proofs.Common.{◌-◌, length}
use Rattle.flow_journal.specs.LengthLaws.{most_entries}
use Rattle.board_rules.specs.States.{past}
use Rattle.board_rules.specs.RunMeasures.{run_setting}
use Rattle.flow_drain.proofs.Rounds.{WorksOff}
use Rattle.flow_drain.proofs.working.finish_node.Given as goal

abbrev pub invariant-queue : goal.invariant-queue
invariant-queue g l = WorksOff (run_setting g.R.Run.graph g.R.Run.stack) l.node (g.B.BoardCalls.shown l.fn.board) (g.B.BoardCalls.shown l.board)

abbrev pub decreases-queue : goal.decreases-queue
decreases-queue g l = most_entries (run_setting g.R.Run.graph g.R.Run.stack) - length (past (g.B.BoardCalls.shown l.board))
