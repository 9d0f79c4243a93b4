use Rattle.board_rules.specs.RunMeasures.{run_setting}
use Rattle.flow_roles.proofs.RoleCalls.{worker-quiet}
use Rattle.board_cases.proofs.Staying.{job-left}
use Rattle.board_cases.proofs.working.leave.Goals as goal

pub returns : goal.returns
returns g c =
    let v = c.args.worker.now.node in
    record {
      ours_ = c.leave.ensures.ours;
      node = c.requires.working.node;
      holds =
          job-left g.R.Run.graph g.R.Run.stack (run_setting g.R.Run.graph g.R.Run.stack) c.args.role v _ _ _
          (worker-quiet v) c.leave.ensures.called c.requires.working.holds;
    }
