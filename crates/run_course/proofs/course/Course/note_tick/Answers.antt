use Rattle.std.proofs.Common.{◌≡◌, ◌≤◌, ◌∷◌, ◌∙◌, ℕ, max, refl, sym, ap, subst, true, arith}
use Rattle.told_log.specs.ToldLogs.{ToldState}
use Rattle.board_rules.specs.RunMeasures.{run_setting, run_measure}
use Rattle.board_rules.specs.States.{past, plain}
use Rattle.flow_journal.specs.declared.entry.Entry.TheVariants.{Tick}
use Rattle.flow_journal.specs.Pasts.{Past}
use Rattle.flow_journal.specs.Ended.{now}
use Rattle.flow_journal.specs.Histories.{is_legal}
use Rattle.course_parts.specs.declared.facts.Facts.{Facts}
use Rattle.run_course.specs.Courses.{IsCourse, Coursed, log_of}
use Rattle.run_course.proofs.Opening.{parts}
use Rattle.run_course.proofs.Coursing.{room-for, ticked}
use Rattle.run_course.proofs.Finding.{course-as, coursed-as}
use Rattle.run_course.proofs.course.Course.note_tick.Goals as goal

pub push-requires-clause-room : goal.push-requires-clause-room
push-requires-clause-room g c =
    let m = run_measure g.F.Of.Run.graph g.F.Of.Run.stack in
    let s = run_setting g.F.Of.Run.graph g.F.Of.Run.stack in
    let k = parts c.self.inside in
    let i : IsCourse m s k = c.self.invariant in
    let P : Past = past c.args.self.now.told in
    let same : log_of k ≡ P = ap (λ (w : Coursed). past w.told) c.self.view_is in
    let kept : k.facts.tick ≡ now P = ap (λ (f : Facts). f.tick) i.facts ∙ ap now same in
    let here : c.max-tick.result ≡ max (now P) c.args.tick = c.max-tick.ensures ∙ ap (λ (t : ℕ). max t c.args.tick) kept in
    let legal : is_legal s (Tick c.max-tick.result ∷ log_of k) ≡ true =
    subst (λ (t : ℕ). is_legal s (Tick t ∷ log_of k) ≡ true) (sym here)
    (subst (λ (Q : Past). is_legal s (Tick (max (now P) c.args.tick) ∷ Q) ≡ true) (sym same) c.requires) in
    room-for m s k (Tick c.max-tick.result) i legal

pub invariant_of-self : goal.invariant_of-self
invariant_of-self g c =
    let m = run_measure g.F.Of.Run.graph g.F.Of.Run.stack in
    let s = run_setting g.F.Of.Run.graph g.F.Of.Run.stack in
    let k = parts c.self.inside in
    let i : IsCourse m s k = c.self.invariant in
    let P : Past = past c.args.self.now.told in
    let same : log_of k ≡ P = ap (λ (w : Coursed). past w.told) c.self.view_is in
    let kept : k.facts.tick ≡ now P = ap (λ (f : Facts). f.tick) i.facts ∙ ap now same in
    let here : c.max-tick.result ≡ max (now P) c.args.tick = c.max-tick.ensures ∙ ap (λ (t : ℕ). max t c.args.tick) kept in
    let legal : is_legal s (Tick c.max-tick.result ∷ log_of k) ≡ true =
    subst (λ (t : ℕ). is_legal s (Tick t ∷ log_of k) ≡ true) (sym here)
    (subst (λ (Q : Past). is_legal s (Tick (max (now P) c.args.tick) ∷ Q) ≡ true) (sym same) c.requires) in
    let least : now (log_of k) ≤ c.max-tick.result = omega (arith, here, ap now same) in
    course-as m s (record k { log = record k.log { told = plain (Tick c.max-tick.result) ∷ k.log.told }; facts = record k.facts { tick = c.max-tick.result } })
    _ _ _ _ _ _ _ _ (sym c.push.ensures) refl refl refl refl refl refl refl
    (ticked m s k c.max-tick.result i legal least)

pub returns : goal.returns
returns g c =
    let m = run_measure g.F.Of.Run.graph g.F.Of.Run.stack in
    let s = run_setting g.F.Of.Run.graph g.F.Of.Run.stack in
    let k = parts c.self.inside in
    let i : IsCourse m s k = c.self.invariant in
    let P : Past = past c.args.self.now.told in
    let same : log_of k ≡ P = ap (λ (w : Coursed). past w.told) c.self.view_is in
    let kept : k.facts.tick ≡ now P = ap (λ (f : Facts). f.tick) i.facts ∙ ap now same in
    let here : c.max-tick.result ≡ max (now P) c.args.tick = c.max-tick.ensures ∙ ap (λ (t : ℕ). max t c.args.tick) kept in
    coursed-as (ap (λ (l : ToldState). l.told) c.push.ensures
    ∙ (ap (λ (t : ℕ). plain (Tick t) ∷ k.log.told) here
    ∙ ap (λ (w : Coursed). plain (Tick (max (now P) c.args.tick)) ∷ w.told) c.self.view_is))
    (ap (λ (w : Coursed). w.transit) c.self.view_is)
