use Rattle.std.proofs.Common.{◌≡◌, ◌∷◌, ◌+◌, ◌-◌, refl, sym, subst, set, true, Some, arith, ℕ}
use Rattle.std.specs.Prelude.{slice_get}
use Rattle.nd_base.specs.declared.frame.FrameName.{FrameName}
use Rattle.board_rules.specs.RunMeasures.{run_setting, run_measure}
use Rattle.board_rules.specs.States.{lends}
use Rattle.flow_journal.specs.declared.entry.Entry.TheVariants.{Save}
use Rattle.flow_journal.specs.Histories.{is_legal}
use Rattle.course_parts.specs.declared.hand.Hand.TheVariants.{Piece}
use Rattle.run_course.specs.Courses.{IsCourse, log_of}
use Rattle.run_course.proofs.Opening.{parts}
use Rattle.run_course.proofs.Reading.{place-of}
use Rattle.run_course.proofs.Coursing.{room-for}
use Rattle.run_course.proofs.Finding.{node-found, role-found, course-as}
use Rattle.run_course.proofs.Begins.{may-save}
use Rattle.run_course.proofs.Finding.{few-saves, node-is}
use Rattle.course_parts.specs.declared.node.NodeState.{NodeState}
use Rattle.run_course.proofs.Coursing.{saving_one_at}
use Rattle.run_course.proofs.course.Course.save.Goals as goal

pub overflow_add-state : goal.overflow_add-state
overflow_add-state g c =
    let m = run_measure g.F.Of.Run.graph g.F.Of.Run.stack in
    let s = run_setting g.F.Of.Run.graph g.F.Of.Run.stack in
    let k = parts c.self.inside in
    let h = c.requires in
    let i : IsCourse m s k = c.self.invariant in
    let r = c.args.role in
    let v = c.args.node in
    let n = c.index_mut-state.result.now in
    let a = c.name-name.result in
    let z = c.next_group-group.result in
    let at : slice_get k.nodes (v - 1) ≡ Some n = node-found m s k v n i h.node c.index_mut-state.ensures.value in
    omega (arith, few-saves m s k v n i h.node at)

pub push_lent-requires-clause-room : goal.push_lent-requires-clause-room
push_lent-requires-clause-room g c =
    let m = run_measure g.F.Of.Run.graph g.F.Of.Run.stack in
    let s = run_setting g.F.Of.Run.graph g.F.Of.Run.stack in
    let k = parts c.self.inside in
    let h = c.requires in
    let i : IsCourse m s k = c.self.invariant in
    let r = c.args.role in
    let v = c.args.node in
    let n = c.index_mut-state.result.now in
    let a = c.name-name.result in
    let z = c.next_group-group.result in
    let at : slice_get k.nodes (v - 1) ≡ Some n = node-found m s k v n i h.node c.index_mut-state.ensures.value in
    let legal : is_legal s (Save r v a.maker a.index z ∷ log_of k) ≡ true =
    subst (λ (b : FrameName). is_legal s (Save r v b.maker b.index z ∷ log_of k) ≡ true) (sym c.name-name.ensures)
    (subst (λ (j : ℕ). is_legal s (Save r v (g.F.Named.name_of c.args.part.now).maker (g.F.Named.name_of c.args.part.now).index j ∷ log_of k) ≡ true)
    (sym c.next_group-group.ensures)
    (may-save g.F.Named.name_of c.args.part.now s k c.args.self.now r v c.self.view_is h.history h.role h.allowed h.next)) in
    room-for m s k (Save r v a.maker a.index z) i legal

pub invariant_of-self : goal.invariant_of-self
invariant_of-self g c =
    let m = run_measure g.F.Of.Run.graph g.F.Of.Run.stack in
    let s = run_setting g.F.Of.Run.graph g.F.Of.Run.stack in
    let k = parts c.self.inside in
    let h = c.requires in
    let i : IsCourse m s k = c.self.invariant in
    let r = c.args.role in
    let v = c.args.node in
    let n = c.index_mut-state.result.now in
    let a = c.name-name.result in
    let z = c.next_group-group.result in
    let at : slice_get k.nodes (v - 1) ≡ Some n = node-found m s k v n i h.node c.index_mut-state.ensures.value in
    let legal : is_legal s (Save r v a.maker a.index z ∷ log_of k) ≡ true =
    subst (λ (b : FrameName). is_legal s (Save r v b.maker b.index z ∷ log_of k) ≡ true) (sym c.name-name.ensures)
    (subst (λ (j : ℕ). is_legal s (Save r v (g.F.Named.name_of c.args.part.now).maker (g.F.Named.name_of c.args.part.now).index j ∷ log_of k) ≡ true)
    (sym c.next_group-group.ensures)
    (may-save g.F.Named.name_of c.args.part.now s k c.args.self.now r v c.self.view_is h.history h.role h.allowed h.next)) in
    let x = c.index_mut.result.now in
    let y : NodeState = record n { unsaved = c.pop_front.new.self } in
    let part = g.F.Held.parts c.args.part.now in
    course-as m s (record k {
      log = record k.log { told = lends (Save r v a.maker a.index z) part ∷ k.log.told };
      nodes = set k.nodes (v - 1) (record n { unsaved = y.unsaved; saves = n.saves + 1; saving = true });
      roles = set k.roles r (record x { hand = Piece v a });
    })
    _ _ _ _ _ _ _ _ (sym c.push_lent.ensures) refl refl refl refl refl refl refl
    (saving_one_at m s k v r (v - 1) a.maker a.index z x n y part (place-of s v h.node).0 i legal (role-found m s k r x i h.role
    c.index_mut.ensures.value) at c.pop_front.ensures.rest (omega (arith, c.pop_front.ensures.capacity, (node-is m s k v n i h.node at).unsaved_room)))
