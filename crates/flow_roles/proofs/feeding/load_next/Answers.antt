use Rattle.board_rules.specs.RunMeasures.{run_setting}
use Rattle.flow_roles.proofs.FeederRounds.{loads-next}
use Rattle.flow_roles.proofs.feeding.load_next.Goals as goal

pub returns-clause-fed : goal.returns-clause-fed
returns-clause-fed g c =
    λ first old f. loads-next (run_setting g.R.Run.graph g.R.Run.stack) first _ _ old _ _ c.tick-tick.result c.load.result f c.tick-tick.ensures
    c.requires.nothing c.requires.active c.load.ensures.called c.load.ensures.room
