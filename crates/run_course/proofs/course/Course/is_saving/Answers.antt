use Rattle.board_rules.specs.RunMeasures.{run_setting, run_measure}
use Rattle.board_rules.specs.States.{past}
use Rattle.run_course.proofs.Asking.{saving-read}
use Rattle.run_course.proofs.course.Course.is_saving.Goals as goal

pub returns : goal.returns
returns g c =
    let m = run_measure g.F.Of.Run.graph g.F.Of.Run.stack in
    let s = run_setting g.F.Of.Run.graph g.F.Of.Run.stack in
    saving-read m s c.args.node (past c.args.self.now.told) c.state.result.now c.state.ensures.kept
