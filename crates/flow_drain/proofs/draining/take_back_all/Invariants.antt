use Rattle.std.proofs.Common.{length}
use Rattle.board_rules.specs.RunMeasures.{run_setting}
use Rattle.flow_roles.specs.Feeder.{name_of, parts_of}
use Rattle.flow_drain.proofs.TakingBack.{HasLeft}
use Rattle.flow_drain.proofs.draining.take_back_all.Given as goal

abbrev pub invariant-loop-left : goal.invariant-loop-left
invariant-loop-left g l =
    HasLeft name_of parts_of length (run_setting g.R.Run.graph g.R.Run.stack) l.fn.ends.items l.left-iterator.rest.items l.role
    (g.B.BoardCalls.shown l.fn.board) (g.B.BoardCalls.shown l.board)
