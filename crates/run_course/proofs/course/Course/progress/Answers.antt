use Rattle.std.proofs.Common.{◌≡◌, ◌∙◌, length, sym, ap, arith}
use Rattle.board_rules.specs.RunMeasures.{run_setting, run_measure}
use Rattle.board_rules.specs.States.{past}
use Rattle.board_rules.proofs.Pasts.{past-length}
use Rattle.run_course.specs.Courses.{IsCourse, Coursed}
use Rattle.run_course.proofs.Opening.{parts}
use Rattle.run_course.specs.Courses.{log_of}
use Rattle.course_parts.specs.Facts.{facts_of}
use Rattle.course_parts.specs.declared.facts.Facts.{Facts}
use Rattle.run_course.proofs.Ending.{log-fits, progress_with}
use Rattle.run_course.proofs.course.Course.progress.Goals as goal

pub overflow_cast-result : goal.overflow_cast-result
overflow_cast-result g c =
    let m = run_measure g.F.Of.Run.graph g.F.Of.Run.stack in
    let s = run_setting g.F.Of.Run.graph g.F.Of.Run.stack in
    let k = parts c.self.inside in
    let i : IsCourse m s k = c.self.invariant in
    omega (arith, log-fits s k.rules (log_of k) i.ruled i.legal, past-length k.log.told, c.len.ensures)

pub returns : goal.returns
returns g c =
    let m = run_measure g.F.Of.Run.graph g.F.Of.Run.stack in
    let s = run_setting g.F.Of.Run.graph g.F.Of.Run.stack in
    let k = parts c.self.inside in
    let i : IsCourse m s k = c.self.invariant in
    let P = past c.args.self.now.told in
    let facts : k.facts ≡ facts_of P = i.facts ∙ ap (λ (w : Coursed). facts_of (past w.told)) c.self.view_is in
    let many : c.len.result ≡ length P = c.len.ensures ∙ (sym (past-length k.log.told) ∙ ap (λ (w : Coursed). length (past w.told)) c.self.view_is) in
    ap (λ n. progress_with n k.facts c.finished.result) many
    ∙ (ap (λ (f : Facts). progress_with (length P) f c.finished.result) facts ∙ ap (λ b. progress_with (length P) (facts_of P) b) c.finished.ensures)
