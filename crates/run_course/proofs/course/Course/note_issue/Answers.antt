use Rattle.std.proofs.Common.{◌≡◌, ◌∷◌, ◌++◌, ◌∙◌, [], refl, sym, ap, set, true, false, List}
use Rattle.nd_base.specs.declared.frame.FrameName.{FrameName}
use Rattle.board_rules.specs.RunMeasures.{run_setting, run_measure}
use Rattle.board_rules.specs.States.{plain}
use Rattle.flow_journal.specs.declared.entry.Entry.TheVariants.{Issue}
use Rattle.flow_journal.specs.Pasts.{frame}
use Rattle.flow_journal.specs.Histories.{is_legal}
use Rattle.course_parts.specs.declared.hand.Hand.TheVariants.{Free}
use Rattle.run_course.specs.Courses.{IsCourse, Coursed, log_of}
use Rattle.run_course.proofs.Opening.{parts}
use Rattle.run_course.proofs.Coursing.{room-for}
use Rattle.run_course.proofs.Finding.{role-found, course-as}
use Rattle.run_course.proofs.Begins.{may-issue}
use Rattle.run_course.proofs.Finding.{load-held}
use Rattle.run_course.proofs.Coursing.{issued}
use Rattle.run_course.proofs.course.Course.note_issue.Goals as goal

pub push-requires-clause-room : goal.push-requires-clause-room
push-requires-clause-room g c =
    let m = run_measure g.F.Of.Run.graph g.F.Of.Run.stack in
    let s = run_setting g.F.Of.Run.graph g.F.Of.Run.stack in
    let k = parts c.self.inside in
    let h = c.requires in
    let i : IsCourse m s k = c.self.invariant in
    let still : k.transit ≡ [] = ap (λ (w : Coursed). w.transit) c.self.view_is ∙ h.still in
    let r = c.args.role in
    let j = c.args.index in
    let legal : is_legal s (Issue r j ∷ log_of k) ≡ true = may-issue s k c.args.self.now r j c.self.view_is h.history h.hand in
    room-for m s k (Issue r j) i legal

pub invariant_of-self : goal.invariant_of-self
invariant_of-self g c =
    let m = run_measure g.F.Of.Run.graph g.F.Of.Run.stack in
    let s = run_setting g.F.Of.Run.graph g.F.Of.Run.stack in
    let k = parts c.self.inside in
    let h = c.requires in
    let i : IsCourse m s k = c.self.invariant in
    let still : k.transit ≡ [] = ap (λ (w : Coursed). w.transit) c.self.view_is ∙ h.still in
    let r = c.args.role in
    let j = c.args.index in
    let legal : is_legal s (Issue r j ∷ log_of k) ≡ true = may-issue s k c.args.self.now r j c.self.view_is h.history h.hand in
    let x = c.index_mut.result.now in
    let a = frame 0 j in
    let p = load-held s k c.args.self.now r j c.self.view_is h.hand in
    course-as m s (record k {
      log = record k.log { told = plain (Issue r j) ∷ k.log.told };
      roles = set k.roles r (record x { hand = Free });
      facts = record k.facts { loaded = false };
      transit = a ∷ [];
    })
    _ _ _ _ _ _ _ _ (sym c.push.ensures) refl refl refl refl refl
    (sym (c.push_back_reserved.ensures.items ∙ ap (λ (ts : List FrameName). ts ++ a ∷ []) still)) (sym c.push_back_reserved.ensures.capacity)
    (issued m s k r j x r p.0 p.1 p.2 p.3 p.4 i legal (role-found m s k r x i h.role c.index_mut.ensures.value) still p.5)
