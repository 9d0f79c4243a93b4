use Rattle.board_cases.specs.Seats.{AreSeated}
use Rattle.board_cases.proofs.calls.make_all.Given as goal

abbrev pub invariant-loop-line : goal.invariant-loop-line
invariant-loop-line g l = AreSeated (g.D.Desk.ours l.desk) g.D.Desk.knows g.R.Run.graph g.R.Run.stack l.seats
