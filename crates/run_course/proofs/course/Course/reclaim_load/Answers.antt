use Rattle.std.proofs.Common.{◌≡◌, ◌∷◌, ◌-◌, ◌∙◌, [], refl, sym, ap, set, true, false, arith}
use Rattle.board_rules.specs.RunMeasures.{run_setting, run_measure}
use Rattle.board_rules.specs.States.{loses}
use Rattle.flow_journal.specs.declared.entry.Entry.TheVariants.{Reclaim}
use Rattle.flow_journal.specs.Hands.{hand}
use Rattle.flow_journal.specs.Histories.{is_legal}
use Rattle.course_parts.specs.declared.facts.Facts.{Facts}
use Rattle.course_parts.specs.declared.hand.Hand.TheVariants.{Free, Loaded}
use Rattle.run_course.specs.Courses.{IsCourse, Coursed, log_of}
use Rattle.run_course.proofs.Opening.{parts}
use Rattle.run_course.proofs.Coursing.{room-for}
use Rattle.run_course.proofs.Finding.{role-found, course-as}
use Rattle.pool_ledger.specs.Ledger.{with_refs}
use Rattle.pool_ledger.specs.Ledger as ledger
use Rattle.run_course.proofs.Begins.{may-reclaim}
use Rattle.run_course.proofs.Reclaiming.{back_loaded, hand-loaded, hand-there, few-reclaims, granted-held, load-carried}
use Rattle.flow_journal.proofs.Indices.{index_laws}
use Rattle.run_course.proofs.course.Course.reclaim_load.Goals as goal

pub overflow_sub-self : goal.overflow_sub-self
overflow_sub-self g c =
    let m = run_measure g.F.Of.Run.graph g.F.Of.Run.stack in
    let s = run_setting g.F.Of.Run.graph g.F.Of.Run.stack in
    let k = parts c.self.inside in
    let h = c.requires in
    let i : IsCourse m s k = c.self.invariant in
    let still : k.transit ≡ [] = ap (λ (w : Coursed). w.transit) c.self.view_is ∙ h.still in
    let r = c.args.role in
    let legal : is_legal s (Reclaim r ∷ log_of k) ≡ true = may-reclaim s k c.args.self.now r c.self.view_is h.history h.allowed in
    let b = c.args.block.number in
    let p =
    hand-loaded (hand r (log_of k)) c.args.index c.args.block (hand-there k c.args.self.now r (Loaded c.args.index c.args.block) c.self.view_is h.hand) in
    omega (arith, ap (λ (f : Facts). f.offered) i.facts, index_laws.reclaim s r p.0 c.args.index b p.1 p.2 p.3 p.4 (log_of k) legal p.5)

pub drop_hold-requires : goal.drop_hold-requires
drop_hold-requires g c =
    let m = run_measure g.F.Of.Run.graph g.F.Of.Run.stack in
    let s = run_setting g.F.Of.Run.graph g.F.Of.Run.stack in
    let k = parts c.self.inside in
    let h = c.requires in
    let i : IsCourse m s k = c.self.invariant in
    let still : k.transit ≡ [] = ap (λ (w : Coursed). w.transit) c.self.view_is ∙ h.still in
    let r = c.args.role in
    let legal : is_legal s (Reclaim r ∷ log_of k) ≡ true = may-reclaim s k c.args.self.now r c.self.view_is h.history h.allowed in
    let b = c.args.block.number in
    let p =
    hand-loaded (hand r (log_of k)) c.args.index c.args.block (hand-there k c.args.self.now r (Loaded c.args.index c.args.block) c.self.view_is h.hand) in
    granted-held s (Reclaim r ∷ log_of k) k b (load-carried m s k r p.0 c.args.index b p.1 p.2 p.3 p.4 i still legal p.5)

pub push_reclaim-requires-clause-room : goal.push_reclaim-requires-clause-room
push_reclaim-requires-clause-room g c =
    let m = run_measure g.F.Of.Run.graph g.F.Of.Run.stack in
    let s = run_setting g.F.Of.Run.graph g.F.Of.Run.stack in
    let k = parts c.self.inside in
    let h = c.requires in
    let i : IsCourse m s k = c.self.invariant in
    let still : k.transit ≡ [] = ap (λ (w : Coursed). w.transit) c.self.view_is ∙ h.still in
    let r = c.args.role in
    let legal : is_legal s (Reclaim r ∷ log_of k) ≡ true = may-reclaim s k c.args.self.now r c.self.view_is h.history h.allowed in
    room-for m s k (Reclaim r) i legal

pub push_reclaim-requires-clause-few : goal.push_reclaim-requires-clause-few
push_reclaim-requires-clause-few g c =
    let m = run_measure g.F.Of.Run.graph g.F.Of.Run.stack in
    let s = run_setting g.F.Of.Run.graph g.F.Of.Run.stack in
    let k = parts c.self.inside in
    let h = c.requires in
    let i : IsCourse m s k = c.self.invariant in
    let still : k.transit ≡ [] = ap (λ (w : Coursed). w.transit) c.self.view_is ∙ h.still in
    let r = c.args.role in
    let legal : is_legal s (Reclaim r ∷ log_of k) ≡ true = may-reclaim s k c.args.self.now r c.self.view_is h.history h.allowed in
    few-reclaims m s k r i legal

pub invariant_of-self : goal.invariant_of-self
invariant_of-self g c =
    let m = run_measure g.F.Of.Run.graph g.F.Of.Run.stack in
    let s = run_setting g.F.Of.Run.graph g.F.Of.Run.stack in
    let k = parts c.self.inside in
    let h = c.requires in
    let i : IsCourse m s k = c.self.invariant in
    let still : k.transit ≡ [] = ap (λ (w : Coursed). w.transit) c.self.view_is ∙ h.still in
    let r = c.args.role in
    let legal : is_legal s (Reclaim r ∷ log_of k) ≡ true = may-reclaim s k c.args.self.now r c.self.view_is h.history h.allowed in
    let b = c.args.block.number in
    let p =
    hand-loaded (hand r (log_of k)) c.args.index c.args.block (hand-there k c.args.self.now r (Loaded c.args.index c.args.block) c.self.view_is h.hand) in
    let x = c.index_mut-state.result.now in
    course-as m s
    (record k {
      log = record k.log { told = loses r c.args.lost ∷ k.log.told };
      roles = set k.roles r (record x { hand = Free; was_reclaimed = true });
      pool = with_refs b (ledger.refs k.pool b - 1) k.pool;
      facts = record k.facts { offered = k.facts.offered - 1; loaded = false };
      transit = [];
    })
    _ _ _ _ _ _ _ _ (sym c.push_reclaim.ensures) refl refl (sym c.drop_hold.ensures.after) refl refl (sym still) refl
    (back_loaded m s k r p.0 c.args.index b p.1 p.2 p.3 p.4 x c.args.lost i legal (role-found m s k r x i h.role c.index_mut-state.ensures.value) still p.5)
