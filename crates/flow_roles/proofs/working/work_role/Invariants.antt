use Rattle.std.specs.Prelude.{◌≡◌, true}
use Rattle.board_rules.specs.RunMeasures.{run_setting}
use Rattle.flow_roles.specs.Worker.{HasAskedTake}
use Rattle.flow_roles.proofs.working.work_role.Given as goal

abbrev pub invariant-loop : goal.invariant-loop
invariant-loop g l =
    g.D.Desk.ours l.desk l.pass × HasAskedTake (run_setting g.R.Run.graph g.R.Run.stack) l.role l.node l.answer (g.D.Desk.knows l.pass)
    × ((g.D.Desk.knows l.pass).said.owned ≡ true)
