use Rattle.std.specs.Prelude.{◌≡◌, true}
use Rattle.board_rules.specs.RunMeasures.{run_setting}
use Rattle.flow_roles.specs.FeederTicks.{FeedsUpTo}
use Rattle.flow_roles.proofs.feeding.feed_role.Given as goal

abbrev pub invariant-loop : goal.invariant-loop
invariant-loop g l =
    g.D.Desk.ours l.desk l.pass
    × ((g.D.Desk.knows l.pass).said.owned ≡ true)
    × FeedsUpTo (run_setting g.R.Run.graph g.R.Run.stack) (g.D.Desk.knows l.fn.pass) l.answer (g.D.Desk.knows l.pass)
    (g.C.Clock.coming l.fn.clock) (g.C.Clock.coming l.clock)
