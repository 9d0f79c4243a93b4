use Rattle.std.proofs.Common.{◌≡◌, ◌∙◌, true, ap}
use Rattle.board_rules.specs.RunMeasures.{run_setting, run_measure}
use Rattle.board_rules.specs.States.{past}
use Rattle.run_course.specs.Courses.{IsCourse, Coursed}
use Rattle.run_course.proofs.Opening.{parts}
use Rattle.std.specs.List.{list_all}
use Rattle.flow_journal.specs.Finished.{is_done}
use Rattle.flow_journal.specs.Histories.{is_history}
use Rattle.flow_journal.specs.Setting.{node_numbers}
use Rattle.run_course.specs.Courses.{log_of}
use Rattle.course_parts.specs.Endings.{is_over}
use Rattle.run_course.proofs.Ending.{nodes-over}
use Rattle.run_course.proofs.course.Course.all_are_done.Goals as goal

pub returns : goal.returns
returns g c =
    let m = run_measure g.F.Of.Run.graph g.F.Of.Run.stack in
    let s = run_setting g.F.Of.Run.graph g.F.Of.Run.stack in
    let k = parts c.self.inside in
    let i : IsCourse m s k = c.self.invariant in
    let legal : is_history s (log_of k) ≡ true = ap (λ (w : Coursed). is_history s (past w.told)) c.self.view_is ∙ c.requires in
    c.all_are_over.ensures
    ∙ (ap (list_all is_over) c.deref.ensures.value
    ∙ (nodes-over m s (log_of k) k.nodes legal i.nodes ∙ ap (λ (w : Coursed). list_all (is_done s (past w.told)) (node_numbers s)) c.self.view_is))
