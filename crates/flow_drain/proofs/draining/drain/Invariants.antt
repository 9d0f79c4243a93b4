use Rattle.std.proofs.Common.{◌-◌, length}
use Rattle.flow_journal.specs.LengthLaws.{most_entries}
use Rattle.board_rules.specs.States.{past}
use Rattle.board_rules.specs.RunMeasures.{run_setting}
use Rattle.flow_roles.specs.Feeder.{name_of}
use Rattle.flow_drain.specs.Drains.{taken_back}
use Rattle.flow_drain.proofs.Quiet.{Drains}
use Rattle.flow_drain.proofs.draining.drain.Given as goal

abbrev pub invariant-rounds : goal.invariant-rounds
invariant-rounds g l =
    Drains (run_setting g.R.Run.graph g.R.Run.stack) l.tick
    (taken_back name_of (run_setting g.R.Run.graph g.R.Run.stack) 0 l.fn.ends.items (g.B.BoardCalls.shown l.fn.board))
    (g.B.BoardCalls.shown l.board)

abbrev pub decreases-rounds : goal.decreases-rounds
decreases-rounds g l = most_entries (run_setting g.R.Run.graph g.R.Run.stack) - length (past (g.B.BoardCalls.shown l.board))
