use Rattle.std.proofs.Common.{◌∙◌, ap}
use Rattle.board_rules.specs.RunMeasures.{run_setting, run_measure}
use Rattle.board_rules.specs.States.{past}
use Rattle.run_course.specs.Courses.{IsCourse, Coursed}
use Rattle.run_course.proofs.Opening.{parts}
use Rattle.board_rules.specs.Ends.{measured}
use Rattle.run_course.specs.Courses.{log_of}
use Rattle.run_course.proofs.Ending.{nodes-measured}
use Rattle.run_course.proofs.course.Course.into_parts.Goals as goal

pub returns-clause-measures : goal.returns-clause-measures
returns-clause-measures g c =
    let m = run_measure g.F.Of.Run.graph g.F.Of.Run.stack in
    let s = run_setting g.F.Of.Run.graph g.F.Of.Run.stack in
    let k = parts c.self.inside in
    let i : IsCourse m s k = c.self.invariant in
    c.all_measures.ensures ∙ (nodes-measured m s (log_of k) k.nodes i.nodes ∙ ap (λ (w : Coursed). measured m s (past w.told)) c.self.view_is)
