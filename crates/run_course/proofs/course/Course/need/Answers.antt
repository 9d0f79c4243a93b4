use Rattle.board_rules.specs.RunMeasures.{run_setting, run_measure}
use Rattle.run_course.specs.Courses.{IsCourse}
use Rattle.run_course.proofs.Opening.{parts}
use Rattle.run_course.proofs.Finding.{need-at}
use Rattle.run_course.proofs.course.Course.need.Goals as goal

pub returns : goal.returns
returns g c =
    let m = run_measure g.F.Of.Run.graph g.F.Of.Run.stack in
    let s = run_setting g.F.Of.Run.graph g.F.Of.Run.stack in
    let k = parts c.self.inside in
    let i : IsCourse m s k = c.self.invariant in
    let v = c.args.node in
    need-at m s k v _ c.as_slice.result.now i c.if-node-eq0.false c.requires c.as_slice.ensures
