use Rattle.std.proofs.Common.{◌≡◌, ◌∷◌, ◌+◌, ◌∙◌, [], refl, sym, ap, subst, set, true, arith, ℕ, List}
use Rattle.board_rules.specs.RunMeasures.{run_setting, run_measure}
use Rattle.board_rules.specs.States.{past, plain}
use Rattle.flow_journal.specs.declared.entry.Entry.TheVariants.{Load}
use Rattle.flow_journal.specs.Pasts.{Past, frame}
use Rattle.flow_journal.specs.Offered.{next_index}
use Rattle.flow_journal.specs.Histories.{is_legal}
use Rattle.course_parts.specs.declared.facts.Facts.{Facts}
use Rattle.course_parts.specs.declared.hand.Hand.TheVariants.{Loaded}
use Rattle.run_course.specs.Courses.{IsCourse, Coursed, log_of}
use Rattle.run_course.proofs.Opening.{parts}
use Rattle.run_course.proofs.Coursing.{room-for}
use Rattle.run_course.proofs.Finding.{role-found, course-as}
use Rattle.std.proofs.Common.{inl}
use Rattle.pool_ledger.specs.Ledger.{Ledger}
use Rattle.flow_journal.specs.Accounts.{grant}
use Rattle.run_course.specs.FrameBlocks.{place_of}
use Rattle.run_course.proofs.Finding.{grant-is}
use Rattle.frame_table.specs.Kept.{without_kept}
use Rattle.run_course.proofs.Granting.{few-known, loaded, load-account, still-named, given-is}
use Rattle.run_course.proofs.Begins.{may-load-block}
use Rattle.run_course.proofs.course.Course.note_load.Goals as goal

pub take_grant-requires-clause-few : goal.take_grant-requires-clause-few
take_grant-requires-clause-few g c =
    let m = run_measure g.F.Of.Run.graph g.F.Of.Run.stack in
    let s = run_setting g.F.Of.Run.graph g.F.Of.Run.stack in
    let k = parts c.self.inside in
    let h = c.requires in
    let i : IsCourse m s k = c.self.invariant in
    let still : k.transit ≡ [] = ap (λ (w : Coursed). w.transit) c.self.view_is ∙ h.still in
    few-known m s k i still

pub take_grant-requires-clause-granted : goal.take_grant-requires-clause-granted
take_grant-requires-clause-granted g c =
    let m = run_measure g.F.Of.Run.graph g.F.Of.Run.stack in
    let s = run_setting g.F.Of.Run.graph g.F.Of.Run.stack in
    let k = parts c.self.inside in
    let h = c.requires in
    let i : IsCourse m s k = c.self.invariant in
    let still : k.transit ≡ [] = ap (λ (w : Coursed). w.transit) c.self.view_is ∙ h.still in
    let r = c.args.role in
    let b = c.args.grant.block in
    let z = c.args.grant.size in
    let f = c.args.grant.fresh in
    let y = c.args.grant.given_up in
    let w = c.args.regrown in
    let j = k.facts.offered in
    let P : Past = past c.args.self.now.told in
    let same : log_of k ≡ P = ap (λ (u : Coursed). past u.told) c.self.view_is in
    let turn : j ≡ next_index P = ap (λ (u : Facts). u.offered) i.facts ∙ ap next_index same in
    let need : k.rules.need ≡ s.need 0 = i.ruled.needs 0 (inl refl) in
    let legal : is_legal s (Load r j b z f y w ∷ log_of k) ≡ true = subst (λ (l : ℕ). is_legal s (Load r l b z f y w ∷ log_of k) ≡ true) (sym turn)
    (may-load-block {B = g.row.F-Blank.Denot} s k c.args.self.now r b z f y w c.self.view_is i.ruled.pooled h.history h.role h.allowed h.granted h.stale) in
    grant-is m s k k.rules.need i still ∙ (ap (λ (Q : Past). grant s Q k.rules.need) same ∙ (ap (grant s P) need ∙ h.granted))

pub push-requires-clause-room : goal.push-requires-clause-room
push-requires-clause-room g c =
    let m = run_measure g.F.Of.Run.graph g.F.Of.Run.stack in
    let s = run_setting g.F.Of.Run.graph g.F.Of.Run.stack in
    let k = parts c.self.inside in
    let h = c.requires in
    let i : IsCourse m s k = c.self.invariant in
    let still : k.transit ≡ [] = ap (λ (w : Coursed). w.transit) c.self.view_is ∙ h.still in
    let r = c.args.role in
    let b = c.args.grant.block in
    let z = c.args.grant.size in
    let f = c.args.grant.fresh in
    let y = c.args.grant.given_up in
    let w = c.args.regrown in
    let j = k.facts.offered in
    let P : Past = past c.args.self.now.told in
    let same : log_of k ≡ P = ap (λ (u : Coursed). past u.told) c.self.view_is in
    let turn : j ≡ next_index P = ap (λ (u : Facts). u.offered) i.facts ∙ ap next_index same in
    let need : k.rules.need ≡ s.need 0 = i.ruled.needs 0 (inl refl) in
    let legal : is_legal s (Load r j b z f y w ∷ log_of k) ≡ true = subst (λ (l : ℕ). is_legal s (Load r l b z f y w ∷ log_of k) ≡ true) (sym turn)
    (may-load-block {B = g.row.F-Blank.Denot} s k c.args.self.now r b z f y w c.self.view_is i.ruled.pooled h.history h.role h.allowed h.granted h.stale) in
    room-for m s k (Load r j b z f y w) i legal

pub invariant_of-self-2 : goal.invariant_of-self-2
invariant_of-self-2 g c =
    let m = run_measure g.F.Of.Run.graph g.F.Of.Run.stack in
    let s = run_setting g.F.Of.Run.graph g.F.Of.Run.stack in
    let k = parts c.self.inside in
    let h = c.requires in
    let i : IsCourse m s k = c.self.invariant in
    let still : k.transit ≡ [] = ap (λ (w : Coursed). w.transit) c.self.view_is ∙ h.still in
    let r = c.args.role in
    let b = c.args.grant.block in
    let z = c.args.grant.size in
    let f = c.args.grant.fresh in
    let y = c.args.grant.given_up in
    let w = c.args.regrown in
    let j = k.facts.offered in
    let P : Past = past c.args.self.now.told in
    let same : log_of k ≡ P = ap (λ (u : Coursed). past u.told) c.self.view_is in
    let turn : j ≡ next_index P = ap (λ (u : Facts). u.offered) i.facts ∙ ap next_index same in
    let need : k.rules.need ≡ s.need 0 = i.ruled.needs 0 (inl refl) in
    let legal : is_legal s (Load r j b z f y w ∷ log_of k) ≡ true = subst (λ (l : ℕ). is_legal s (Load r l b z f y w ∷ log_of k) ≡ true) (sym turn)
    (may-load-block {B = g.row.F-Blank.Denot} s k c.args.self.now r b z f y w c.self.view_is i.ruled.pooled h.history h.role h.allowed h.granted h.stale) in
    let x = c.index_mut-2.result.now in
    let p : Ledger = c.take_grant.new.pool in
    let place : place_of s (frame 0 j) ≡ j = omega arith in
    course-as m s (record k {
      log = record k.log { told = plain (Load r j b z f y w) ∷ k.log.told };
      roles = set k.roles r (record x { hand = Loaded j (record { number = b; size = z }) });
      pool = p;
      blocks = set k.blocks (place_of s (frame 0 j)) b;
      facts = record k.facts { offered = k.facts.offered + 1; loaded = true };
      transit = [];
    })
    _ _ _ _ _ _ _ _ (sym c.push.ensures) refl refl refl (ap (λ (l : ℕ). set k.blocks l b) place) refl (sym still) refl
    (loaded m s k r j b z f y w x p i legal (role-found m s k r x i h.role c.index_mut-2.ensures.value) still
    (load-account m s k r j b z f y w p i still legal c.in_ok-take_grant.ensures.taken))

pub take_grant-requires-clause-named : goal.take_grant-requires-clause-named
take_grant-requires-clause-named g c =
    still-named (run_measure g.F.Of.Run.graph g.F.Of.Run.stack) (run_setting g.F.Of.Run.graph g.F.Of.Run.stack) (parts c.self.inside) c.self.invariant

pub returns-clause-given : goal.returns-clause-given
returns-clause-given g c =
    let m = run_measure g.F.Of.Run.graph g.F.Of.Run.stack in
    let s = run_setting g.F.Of.Run.graph g.F.Of.Run.stack in
    let k = parts c.self.inside in
    let still : k.transit ≡ [] = ap (λ (w : Coursed). w.transit) c.self.view_is ∙ c.requires.still in
    let same : log_of k ≡ past c.args.self.now.told = ap (λ (u : Coursed). past u.told) c.self.view_is in
    c.in_ok-take_grant.ensures.given
    ∙ ap (λ (bs : List ℕ). without_kept bs c.args.table.now)
    (given-is m s k (past c.args.self.now.told) c.args.grant.block c.args.grant.size c.args.grant.fresh c.args.grant.given_up c.self.invariant still same)
