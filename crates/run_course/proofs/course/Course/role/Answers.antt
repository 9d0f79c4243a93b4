use Rattle.std.proofs.Common.{◌∙◌, ap}
use Rattle.board_rules.specs.RunMeasures.{run_setting, run_measure}
use Rattle.board_rules.specs.States.{past}
use Rattle.run_course.specs.Courses.{IsCourse, Coursed}
use Rattle.course_parts.specs.RoleStates.{role_of}
use Rattle.run_course.proofs.Opening.{parts}
use Rattle.run_course.proofs.Finding.{role-found}
use Rattle.run_course.proofs.course.Course.role.Goals as goal

pub returns : goal.returns
returns g c =
    let m = run_measure g.F.Of.Run.graph g.F.Of.Run.stack in
    let s = run_setting g.F.Of.Run.graph g.F.Of.Run.stack in
    let k = parts c.self.inside in
    let i : IsCourse m s k = c.self.invariant in
    let x = c.index.result.now in
    i.roles.each c.args.role x (role-found m s k c.args.role x i c.requires c.index.ensures)
    ∙ ap (λ (w : Coursed). role_of (past w.told) c.args.role) c.self.view_is
