use Rattle.std.proofs.Common.{◌≡◌, ◌∷◌, ◌++◌, ◌+◌, ◌-◌, ◌∙◌, [], refl, sym, ap, subst, set, true, false, arith, List, ℕ}
use Rattle.nd_base.specs.declared.frame.FrameName.{FrameName}
use Rattle.board_rules.specs.RunMeasures.{run_setting, run_measure}
use Rattle.board_rules.specs.States.{plain}
use Rattle.flow_journal.specs.declared.entry.Entry.TheVariants.{Saved}
use Rattle.flow_journal.specs.Setting.{is_node}
use Rattle.flow_journal.specs.Histories.{is_legal}
use Rattle.flow_journal.specs.Notes.{saves}
use Rattle.course_parts.specs.declared.facts.Facts.{Facts}
use Rattle.course_parts.specs.declared.hand.Hand.TheVariants.{Free}
use Rattle.run_course.specs.Courses.{IsCourse, Coursed, log_of}
use Rattle.run_course.proofs.Opening.{parts}
use Rattle.run_course.proofs.Reading.{place-of}
use Rattle.run_course.proofs.Coursing.{room-for, few-there}
use Rattle.run_course.proofs.Finding.{node-found, role-found, course-as, piece-held, piece-node}
use Rattle.run_course.proofs.Begins.{may-saved}
use Rattle.run_course.proofs.Coursing.{saved_one_at}
use Rattle.run_course.proofs.course.Course.note_saved.Goals as goal

pub overflow_sub-node : goal.overflow_sub-node
overflow_sub-node g c =
    let m = run_measure g.F.Of.Run.graph g.F.Of.Run.stack in
    let s = run_setting g.F.Of.Run.graph g.F.Of.Run.stack in
    let k = parts c.self.inside in
    let h = c.requires in
    let i : IsCourse m s k = c.self.invariant in
    let still : k.transit ≡ [] = ap (λ (w : Coursed). w.transit) c.self.view_is ∙ h.still in
    let r = c.args.role in
    let v = c.args.node in
    let a = c.args.name in
    let p = piece-held s k c.args.self.now r v a c.self.view_is h.hand h.node in
    let here : is_node s v ≡ true = piece-node m s k r v a.maker a.index p.0 i p.1 in
    let legal : is_legal s (Saved r v a.maker a.index ∷ log_of k) ≡ true =
    subst (λ (u : ℕ). is_legal s (Saved r u a.maker a.index ∷ log_of k) ≡ true) (sym h.node)
    (may-saved s k c.args.self.now r a c.self.view_is h.history h.hand) in
    let at = place-of s v here in omega (arith, at.0)

pub index_mut-requires : goal.index_mut-requires
index_mut-requires g c =
    let m = run_measure g.F.Of.Run.graph g.F.Of.Run.stack in
    let s = run_setting g.F.Of.Run.graph g.F.Of.Run.stack in
    let k = parts c.self.inside in
    let h = c.requires in
    let i : IsCourse m s k = c.self.invariant in
    let still : k.transit ≡ [] = ap (λ (w : Coursed). w.transit) c.self.view_is ∙ h.still in
    let r = c.args.role in
    let v = c.args.node in
    let a = c.args.name in
    let p = piece-held s k c.args.self.now r v a c.self.view_is h.hand h.node in
    let here : is_node s v ≡ true = piece-node m s k r v a.maker a.index p.0 i p.1 in
    let legal : is_legal s (Saved r v a.maker a.index ∷ log_of k) ≡ true =
    subst (λ (u : ℕ). is_legal s (Saved r u a.maker a.index ∷ log_of k) ≡ true) (sym h.node)
    (may-saved s k c.args.self.now r a c.self.view_is h.history h.hand) in
    let at = place-of s v here in omega (arith, at.1, i.nodes.all)

pub overflow_add-self : goal.overflow_add-self
overflow_add-self g c =
    let m = run_measure g.F.Of.Run.graph g.F.Of.Run.stack in
    let s = run_setting g.F.Of.Run.graph g.F.Of.Run.stack in
    let k = parts c.self.inside in
    let h = c.requires in
    let i : IsCourse m s k = c.self.invariant in
    omega (arith, few-there m s k saves i, ap (λ (f : Facts). f.saved) i.facts)

pub push-requires-clause-room : goal.push-requires-clause-room
push-requires-clause-room g c =
    let m = run_measure g.F.Of.Run.graph g.F.Of.Run.stack in
    let s = run_setting g.F.Of.Run.graph g.F.Of.Run.stack in
    let k = parts c.self.inside in
    let h = c.requires in
    let i : IsCourse m s k = c.self.invariant in
    let still : k.transit ≡ [] = ap (λ (w : Coursed). w.transit) c.self.view_is ∙ h.still in
    let r = c.args.role in
    let v = c.args.node in
    let a = c.args.name in
    let p = piece-held s k c.args.self.now r v a c.self.view_is h.hand h.node in
    let here : is_node s v ≡ true = piece-node m s k r v a.maker a.index p.0 i p.1 in
    let legal : is_legal s (Saved r v a.maker a.index ∷ log_of k) ≡ true =
    subst (λ (u : ℕ). is_legal s (Saved r u a.maker a.index ∷ log_of k) ≡ true) (sym h.node)
    (may-saved s k c.args.self.now r a c.self.view_is h.history h.hand) in
    room-for m s k (Saved r v a.maker a.index) i legal

pub invariant_of-self : goal.invariant_of-self
invariant_of-self g c =
    let m = run_measure g.F.Of.Run.graph g.F.Of.Run.stack in
    let s = run_setting g.F.Of.Run.graph g.F.Of.Run.stack in
    let k = parts c.self.inside in
    let h = c.requires in
    let i : IsCourse m s k = c.self.invariant in
    let still : k.transit ≡ [] = ap (λ (w : Coursed). w.transit) c.self.view_is ∙ h.still in
    let r = c.args.role in
    let v = c.args.node in
    let a = c.args.name in
    let p = piece-held s k c.args.self.now r v a c.self.view_is h.hand h.node in
    let here : is_node s v ≡ true = piece-node m s k r v a.maker a.index p.0 i p.1 in
    let legal : is_legal s (Saved r v a.maker a.index ∷ log_of k) ≡ true =
    subst (λ (u : ℕ). is_legal s (Saved r u a.maker a.index ∷ log_of k) ≡ true) (sym h.node)
    (may-saved s k c.args.self.now r a c.self.view_is h.history h.hand) in
    let x = c.index_mut-2.result.now in
    let n = c.index_mut.result.now in
    course-as m s
    (record k {
      log = record k.log { told = plain (Saved r v a.maker a.index) ∷ k.log.told };
      nodes = set k.nodes (v - 1) (record n { saving = false });
      roles = set k.roles r (record x { hand = Free });
      facts = record k.facts { saved = k.facts.saved + 1 };
      transit = a ∷ [];
    })
    _ _ _ _ _ _ _ _ (sym c.push.ensures) refl refl refl refl refl
    (sym (c.push_back_reserved.ensures.items ∙ ap (λ (ts : List FrameName). ts ++ a ∷ []) still)) (sym c.push_back_reserved.ensures.capacity)
    (saved_one_at m s k v r (v - 1) a.maker a.index r p.0 x n (place-of s v here).0 i legal (role-found m s k r x i h.role c.index_mut-2.ensures.value)
    (node-found m s k v n i here c.index_mut.ensures.value) still p.1)
