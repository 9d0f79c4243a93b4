use Rattle.board_rules.specs.RunMeasures.{run_setting}
use Rattle.flow_roles.proofs.RoleCalls.{feeder-quiet}
use Rattle.board_cases.proofs.Staying.{frame-left}
use Rattle.board_cases.proofs.feeding.leave.Goals as goal

pub returns : goal.returns
returns g c =
    record {
      ours_ = c.leave.ensures.ours;
      holds = frame-left g.R.Run.graph g.R.Run.stack (run_setting g.R.Run.graph g.R.Run.stack) _ _ _ feeder-quiet c.leave.ensures.called c.requires.holds;
    }
