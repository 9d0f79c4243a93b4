use Rattle.std.proofs.Common.{◌≡◌, ◌∷◌, ◌-◌, ◌∙◌, [], refl, sym, ap, subst, set, true, false, Some, arith, ℕ}
use Rattle.std.specs.Prelude.{slice_get}
use Rattle.board_rules.specs.RunMeasures.{run_setting, run_measure}
use Rattle.board_rules.specs.States.{loses}
use Rattle.flow_journal.specs.declared.entry.Entry.TheVariants.{Save, Reclaim}
use Rattle.flow_journal.specs.Hands.{hand}
use Rattle.flow_journal.specs.Setting.{is_node}
use Rattle.flow_journal.specs.Histories.{is_legal}
use Rattle.course_parts.specs.declared.hand.Hand.TheVariants.{Free, Piece}
use Rattle.run_course.specs.Courses.{IsCourse, Coursed, log_of}
use Rattle.run_course.proofs.Opening.{parts}
use Rattle.run_course.proofs.Reading.{place-of}
use Rattle.run_course.proofs.Coursing.{room-for}
use Rattle.run_course.proofs.Finding.{node-found, role-found, course-as, piece-node}
use Rattle.run_course.proofs.Begins.{may-reclaim}
use Rattle.run_course.proofs.Finding.{node-is}
use Rattle.course_parts.specs.declared.node.NodeState.{NodeState}
use Rattle.run_course.proofs.Reclaiming.{back_piece_at, hand-piece, hand-there, few-reclaims, piece-there, unsaved-room}
use Rattle.run_course.proofs.Reclaiming.{role-named}
use Rattle.flow_journal.proofs.Pieces.{piece-file}
use Rattle.run_course.proofs.course.Course.reclaim_piece.Goals as goal

pub overflow_sub-node : goal.overflow_sub-node
overflow_sub-node g c =
    let m = run_measure g.F.Of.Run.graph g.F.Of.Run.stack in
    let s = run_setting g.F.Of.Run.graph g.F.Of.Run.stack in
    let k = parts c.self.inside in
    let h = c.requires in
    let i : IsCourse m s k = c.self.invariant in
    let still : k.transit ≡ [] = ap (λ (w : Coursed). w.transit) c.self.view_is ∙ h.still in
    let r = c.args.role in
    let legal : is_legal s (Reclaim r ∷ log_of k) ≡ true = may-reclaim s k c.args.self.now r c.self.view_is h.history h.allowed in
    let v = c.args.node in
    let a = c.args.name in
    let p = hand-piece (hand r (log_of k)) v a (hand-there k c.args.self.now r (Piece v a) c.self.view_is h.hand) in
    let here : is_node s v ≡ true =
    piece-node m s k r v a.maker a.index p.1 i
    (subst (λ (q : ℕ). hand r (log_of k) ≡ Some (Save q v a.maker a.index p.1)) (role-named r p.0 v a.maker a.index p.1 (log_of k) p.2) p.2) in
    let z = place-of s v here in omega (arith, z.0)

pub index_mut-state-requires : goal.index_mut-state-requires
index_mut-state-requires g c =
    let m = run_measure g.F.Of.Run.graph g.F.Of.Run.stack in
    let s = run_setting g.F.Of.Run.graph g.F.Of.Run.stack in
    let k = parts c.self.inside in
    let h = c.requires in
    let i : IsCourse m s k = c.self.invariant in
    let still : k.transit ≡ [] = ap (λ (w : Coursed). w.transit) c.self.view_is ∙ h.still in
    let r = c.args.role in
    let legal : is_legal s (Reclaim r ∷ log_of k) ≡ true = may-reclaim s k c.args.self.now r c.self.view_is h.history h.allowed in
    let v = c.args.node in
    let a = c.args.name in
    let p = hand-piece (hand r (log_of k)) v a (hand-there k c.args.self.now r (Piece v a) c.self.view_is h.hand) in
    let here : is_node s v ≡ true =
    piece-node m s k r v a.maker a.index p.1 i
    (subst (λ (q : ℕ). hand r (log_of k) ≡ Some (Save q v a.maker a.index p.1)) (role-named r p.0 v a.maker a.index p.1 (log_of k) p.2) p.2) in
    let z = place-of s v here in omega (arith, z.1, i.nodes.all)

pub push_front_reserved-requires : goal.push_front_reserved-requires
push_front_reserved-requires g c =
    let m = run_measure g.F.Of.Run.graph g.F.Of.Run.stack in
    let s = run_setting g.F.Of.Run.graph g.F.Of.Run.stack in
    let k = parts c.self.inside in
    let h = c.requires in
    let i : IsCourse m s k = c.self.invariant in
    let still : k.transit ≡ [] = ap (λ (w : Coursed). w.transit) c.self.view_is ∙ h.still in
    let r = c.args.role in
    let legal : is_legal s (Reclaim r ∷ log_of k) ≡ true = may-reclaim s k c.args.self.now r c.self.view_is h.history h.allowed in
    let v = c.args.node in
    let a = c.args.name in
    let p = hand-piece (hand r (log_of k)) v a (hand-there k c.args.self.now r (Piece v a) c.self.view_is h.hand) in
    let here : is_node s v ≡ true =
    piece-node m s k r v a.maker a.index p.1 i
    (subst (λ (q : ℕ). hand r (log_of k) ≡ Some (Save q v a.maker a.index p.1)) (role-named r p.0 v a.maker a.index p.1 (log_of k) p.2) p.2) in
    let n = c.index_mut-state.result.now in
    let at : slice_get k.nodes (v - 1) ≡ Some n = node-found m s k v n i here c.index_mut-state.ensures.value in
    omega (arith, unsaved-room m s k v r p.0 a.maker a.index p.1 n i here at p.2)

pub overflow_sub-state : goal.overflow_sub-state
overflow_sub-state g c =
    let m = run_measure g.F.Of.Run.graph g.F.Of.Run.stack in
    let s = run_setting g.F.Of.Run.graph g.F.Of.Run.stack in
    let k = parts c.self.inside in
    let h = c.requires in
    let i : IsCourse m s k = c.self.invariant in
    let still : k.transit ≡ [] = ap (λ (w : Coursed). w.transit) c.self.view_is ∙ h.still in
    let r = c.args.role in
    let legal : is_legal s (Reclaim r ∷ log_of k) ≡ true = may-reclaim s k c.args.self.now r c.self.view_is h.history h.allowed in
    let v = c.args.node in
    let a = c.args.name in
    let p = hand-piece (hand r (log_of k)) v a (hand-there k c.args.self.now r (Piece v a) c.self.view_is h.hand) in
    let here : is_node s v ≡ true =
    piece-node m s k r v a.maker a.index p.1 i
    (subst (λ (q : ℕ). hand r (log_of k) ≡ Some (Save q v a.maker a.index p.1)) (role-named r p.0 v a.maker a.index p.1 (log_of k) p.2) p.2) in
    let n = c.index_mut-state.result.now in
    let at : slice_get k.nodes (v - 1) ≡ Some n = node-found m s k v n i here c.index_mut-state.ensures.value in
    omega (arith, piece-there m s k v r p.0 a.maker a.index p.1 n i here at p.2)

pub push_reclaim-requires-clause-room : goal.push_reclaim-requires-clause-room
push_reclaim-requires-clause-room g c =
    let m = run_measure g.F.Of.Run.graph g.F.Of.Run.stack in
    let s = run_setting g.F.Of.Run.graph g.F.Of.Run.stack in
    let k = parts c.self.inside in
    let h = c.requires in
    let i : IsCourse m s k = c.self.invariant in
    let still : k.transit ≡ [] = ap (λ (w : Coursed). w.transit) c.self.view_is ∙ h.still in
    let r = c.args.role in
    let legal : is_legal s (Reclaim r ∷ log_of k) ≡ true = may-reclaim s k c.args.self.now r c.self.view_is h.history h.allowed in
    room-for m s k (Reclaim r) i legal

pub push_reclaim-requires-clause-few : goal.push_reclaim-requires-clause-few
push_reclaim-requires-clause-few g c =
    let m = run_measure g.F.Of.Run.graph g.F.Of.Run.stack in
    let s = run_setting g.F.Of.Run.graph g.F.Of.Run.stack in
    let k = parts c.self.inside in
    let h = c.requires in
    let i : IsCourse m s k = c.self.invariant in
    let still : k.transit ≡ [] = ap (λ (w : Coursed). w.transit) c.self.view_is ∙ h.still in
    let r = c.args.role in
    let legal : is_legal s (Reclaim r ∷ log_of k) ≡ true = may-reclaim s k c.args.self.now r c.self.view_is h.history h.allowed in
    few-reclaims m s k r i legal

pub invariant_of-self : goal.invariant_of-self
invariant_of-self g c =
    let m = run_measure g.F.Of.Run.graph g.F.Of.Run.stack in
    let s = run_setting g.F.Of.Run.graph g.F.Of.Run.stack in
    let k = parts c.self.inside in
    let h = c.requires in
    let i : IsCourse m s k = c.self.invariant in
    let still : k.transit ≡ [] = ap (λ (w : Coursed). w.transit) c.self.view_is ∙ h.still in
    let r = c.args.role in
    let legal : is_legal s (Reclaim r ∷ log_of k) ≡ true = may-reclaim s k c.args.self.now r c.self.view_is h.history h.allowed in
    let v = c.args.node in
    let a = c.args.name in
    let p = hand-piece (hand r (log_of k)) v a (hand-there k c.args.self.now r (Piece v a) c.self.view_is h.hand) in
    let here : is_node s v ≡ true =
    piece-node m s k r v a.maker a.index p.1 i
    (subst (λ (q : ℕ). hand r (log_of k) ≡ Some (Save q v a.maker a.index p.1)) (role-named r p.0 v a.maker a.index p.1 (log_of k) p.2) p.2) in
    let n = c.index_mut-state.result.now in
    let at : slice_get k.nodes (v - 1) ≡ Some n = node-found m s k v n i here c.index_mut-state.ensures.value in
    let x = c.index_mut-state-2.result.now in
    let y : NodeState = record n { unsaved = c.push_front_reserved.new.self } in
    course-as m s (record k {
      log = record k.log { told = loses r c.args.lost ∷ k.log.told };
      nodes = set k.nodes (v - 1) (record n {
        unsaved = y.unsaved;
        saves = n.saves - 1;
        saving = false;
      });
      roles = set k.roles r (record x { hand = Free; was_reclaimed = true });
      transit = [];
    })
    _ _ _ _ _ _ _ _ (sym c.push_reclaim.ensures) refl refl refl refl refl (sym still) refl
    (back_piece_at m s k v r p.0 (v - 1) a.maker a.index p.1 x n y c.args.lost (place-of s v here).0 i legal
    (role-found m s k r x i h.role c.index_mut-state-2.ensures.value) at still p.2 c.push_front_reserved.ensures.items (omega (
      arith,
      c.push_front_reserved.ensures.capacity,
      (node-is m s k v n i here at).unsaved_room (piece-file s r p.0 v a.maker a.index p.1 (log_of k) i.legal p.2),
    )))
