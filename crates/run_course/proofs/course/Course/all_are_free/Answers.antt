use Rattle.std.proofs.Common.{◌∙◌, ap}
use Rattle.board_rules.specs.RunMeasures.{run_setting, run_measure}
use Rattle.board_rules.specs.States.{past}
use Rattle.run_course.specs.Courses.{IsCourse, Coursed}
use Rattle.run_course.proofs.Opening.{parts}
use Rattle.flow_journal.specs.Finished.{none_left}
use Rattle.flow_journal.specs.Hands.{hands}
use Rattle.std.specs.List.{list_all}
use Rattle.run_course.specs.Courses.{log_of}
use Rattle.course_parts.specs.Endings.{has_free_hand}
use Rattle.run_course.proofs.Ending.{hands-free}
use Rattle.run_course.proofs.course.Course.all_are_free.Goals as goal

pub returns : goal.returns
returns g c =
    let m = run_measure g.F.Of.Run.graph g.F.Of.Run.stack in
    let s = run_setting g.F.Of.Run.graph g.F.Of.Run.stack in
    let k = parts c.self.inside in
    let i : IsCourse m s k = c.self.invariant in
    c.all_have_free_hands.ensures
    ∙ (ap (list_all has_free_hand) c.deref.ensures.value
    ∙ (hands-free s (log_of k) k.roles i.roles i.legal ∙ ap (λ (w : Coursed). none_left (hands (past w.told))) c.self.view_is))
