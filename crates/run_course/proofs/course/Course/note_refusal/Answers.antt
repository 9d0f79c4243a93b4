use Rattle.std.proofs.Common.{◌≡◌, ◌∷◌, ◌+◌, ◌∙◌, [], refl, sym, ap, subst, true, ℕ}
use Rattle.told_log.specs.ToldLogs.{ToldState}
use Rattle.board_rules.specs.RunMeasures.{run_setting, run_measure}
use Rattle.board_rules.specs.States.{past, plain}
use Rattle.flow_journal.specs.declared.entry.Entry.TheVariants.{LoadRefused}
use Rattle.flow_journal.specs.Pasts.{Past}
use Rattle.flow_journal.specs.Accounts.{held}
use Rattle.flow_journal.specs.Offered.{next_index}
use Rattle.flow_journal.specs.Histories.{is_legal}
use Rattle.course_parts.specs.declared.facts.Facts.{Facts}
use Rattle.run_course.specs.Courses.{IsCourse, Coursed, log_of}
use Rattle.run_course.proofs.Opening.{parts}
use Rattle.run_course.proofs.Coursing.{room-for}
use Rattle.run_course.proofs.Finding.{held-is, course-as, coursed-as}
use Rattle.std.proofs.Common.{inl}
use Rattle.run_course.proofs.Begins.{may-refuse}
use Rattle.run_course.proofs.Coursing.{refused}
use Rattle.run_course.proofs.course.Course.note_refusal.Goals as goal

pub push-requires-clause-room : goal.push-requires-clause-room
push-requires-clause-room g c =
    let m = run_measure g.F.Of.Run.graph g.F.Of.Run.stack in
    let s = run_setting g.F.Of.Run.graph g.F.Of.Run.stack in
    let k = parts c.self.inside in
    let h = c.requires in
    let i : IsCourse m s k = c.self.invariant in
    let still : k.transit ≡ [] = ap (λ (w : Coursed). w.transit) c.self.view_is ∙ h.still in
    let r = c.args.role in
    let P : Past = past c.args.self.now.told in
    let same : log_of k ≡ P = ap (λ (w : Coursed). past w.told) c.self.view_is in
    let turn : k.facts.offered ≡ next_index P = ap (λ (f : Facts). f.offered) i.facts ∙ ap next_index same in
    let need : k.rules.need ≡ s.need 0 = i.ruled.needs 0 (inl refl) in
    let there : c.held-held.result ≡ held s P = c.held-held.ensures ∙ (held-is m s k i still ∙ ap (held s) same) in
    let legal : is_legal s (LoadRefused r k.facts.offered k.rules.need c.held-held.result ∷ log_of k) ≡ true =
    subst (λ (j : ℕ). is_legal s (LoadRefused r j k.rules.need c.held-held.result ∷ log_of k) ≡ true) (sym turn)
    (subst (λ (j : ℕ). is_legal s (LoadRefused r (next_index P) j c.held-held.result ∷ log_of k) ≡ true) (sym need)
    (subst (λ (j : ℕ). is_legal s (LoadRefused r (next_index P) (s.need 0) j ∷ log_of k) ≡ true) (sym there)
    (may-refuse {B = g.row.F-Blank.Denot} s k c.args.self.now r c.self.view_is i.ruled.pooled h.history h.role h.allowed h.refused))) in
    room-for m s k (LoadRefused r k.facts.offered k.rules.need c.held-held.result) i legal

pub invariant_of-self : goal.invariant_of-self
invariant_of-self g c =
    let m = run_measure g.F.Of.Run.graph g.F.Of.Run.stack in
    let s = run_setting g.F.Of.Run.graph g.F.Of.Run.stack in
    let k = parts c.self.inside in
    let h = c.requires in
    let i : IsCourse m s k = c.self.invariant in
    let still : k.transit ≡ [] = ap (λ (w : Coursed). w.transit) c.self.view_is ∙ h.still in
    let r = c.args.role in
    let P : Past = past c.args.self.now.told in
    let same : log_of k ≡ P = ap (λ (w : Coursed). past w.told) c.self.view_is in
    let turn : k.facts.offered ≡ next_index P = ap (λ (f : Facts). f.offered) i.facts ∙ ap next_index same in
    let need : k.rules.need ≡ s.need 0 = i.ruled.needs 0 (inl refl) in
    let there : c.held-held.result ≡ held s P = c.held-held.ensures ∙ (held-is m s k i still ∙ ap (held s) same) in
    let legal : is_legal s (LoadRefused r k.facts.offered k.rules.need c.held-held.result ∷ log_of k) ≡ true =
    subst (λ (j : ℕ). is_legal s (LoadRefused r j k.rules.need c.held-held.result ∷ log_of k) ≡ true) (sym turn)
    (subst (λ (j : ℕ). is_legal s (LoadRefused r (next_index P) j c.held-held.result ∷ log_of k) ≡ true) (sym need)
    (subst (λ (j : ℕ). is_legal s (LoadRefused r (next_index P) (s.need 0) j ∷ log_of k) ≡ true) (sym there)
    (may-refuse {B = g.row.F-Blank.Denot} s k c.args.self.now r c.self.view_is i.ruled.pooled h.history h.role h.allowed h.refused))) in
    course-as m s (record k {
      log = record k.log { told = plain (LoadRefused r k.facts.offered k.rules.need c.held-held.result) ∷ k.log.told };
      facts = record k.facts { offered = k.facts.offered + 1 };
    })
    _ _ _ _ _ _ _ _ (sym c.push.ensures) refl refl refl refl refl refl refl
    (refused m s k r k.facts.offered k.rules.need c.held-held.result i legal)

pub returns : goal.returns
returns g c =
    let m = run_measure g.F.Of.Run.graph g.F.Of.Run.stack in
    let s = run_setting g.F.Of.Run.graph g.F.Of.Run.stack in
    let k = parts c.self.inside in
    let h = c.requires in
    let i : IsCourse m s k = c.self.invariant in
    let still : k.transit ≡ [] = ap (λ (w : Coursed). w.transit) c.self.view_is ∙ h.still in
    let r = c.args.role in
    let P : Past = past c.args.self.now.told in
    let same : log_of k ≡ P = ap (λ (w : Coursed). past w.told) c.self.view_is in
    let turn : k.facts.offered ≡ next_index P = ap (λ (f : Facts). f.offered) i.facts ∙ ap next_index same in
    let need : k.rules.need ≡ s.need 0 = i.ruled.needs 0 (inl refl) in
    let there : c.held-held.result ≡ held s P = c.held-held.ensures ∙ (held-is m s k i still ∙ ap (held s) same) in
    let legal : is_legal s (LoadRefused r k.facts.offered k.rules.need c.held-held.result ∷ log_of k) ≡ true =
    subst (λ (j : ℕ). is_legal s (LoadRefused r j k.rules.need c.held-held.result ∷ log_of k) ≡ true) (sym turn)
    (subst (λ (j : ℕ). is_legal s (LoadRefused r (next_index P) j c.held-held.result ∷ log_of k) ≡ true) (sym need)
    (subst (λ (j : ℕ). is_legal s (LoadRefused r (next_index P) (s.need 0) j ∷ log_of k) ≡ true) (sym there)
    (may-refuse {B = g.row.F-Blank.Denot} s k c.args.self.now r c.self.view_is i.ruled.pooled h.history h.role h.allowed h.refused))) in
    coursed-as (ap (λ (l : ToldState). l.told) c.push.ensures
    ∙ (ap (λ (j : ℕ). plain (LoadRefused r j k.rules.need c.held-held.result) ∷ k.log.told) turn
    ∙ (ap (λ (j : ℕ). plain (LoadRefused r (next_index P) j c.held-held.result) ∷ k.log.told) need
    ∙ (ap (λ (j : ℕ). plain (LoadRefused r (next_index P) (s.need 0) j) ∷ k.log.told) there
    ∙ ap (λ (w : Coursed). plain (LoadRefused r (next_index P) (s.need 0) (held s P)) ∷ w.told) c.self.view_is))))
    (ap (λ (w : Coursed). w.transit) c.self.view_is)
