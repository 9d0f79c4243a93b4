use Rattle.std.proofs.Common.{◌≡◌, ◌≤◌, ◌∷◌, ◌∙◌, ◌-◌, [], refl, sym, ap, subst, set, Some, true, false, arith, length}
use Rattle.std.specs.Prelude.{slice_get}
use Rattle.nd_base.specs.declared.frame.FrameName.{FrameName}
use Rattle.told_log.specs.ToldLogs.{ToldState}
use Rattle.board_rules.specs.RunMeasures.{run_setting, run_measure}
use Rattle.board_rules.specs.States.{past, plain}
use Rattle.flow_journal.specs.declared.entry.Entry.TheVariants.{Settle}
use Rattle.flow_journal.specs.Ended.{is_settled}
use Rattle.flow_journal.specs.Rings.{ring}
use Rattle.flow_journal.specs.Histories.{is_legal}
use Rattle.run_course.specs.Courses.{IsCourse, Coursed, log_of}
use Rattle.run_course.proofs.Opening.{parts}
use Rattle.run_course.proofs.Reading.{read-at, place-of}
use Rattle.run_course.proofs.Coursing.{room-for, settled_with_at}
use Rattle.run_course.proofs.Finding.{course-as, coursed-as}
use Rattle.run_course.proofs.Rings.{has-ring}
use Rattle.run_course.proofs.course.Course.note_ring.Goals as goal

pub give_up_ring-requires-clause-pending : goal.give_up_ring-requires-clause-pending
give_up_ring-requires-clause-pending g c =
    let m = run_measure g.F.Of.Run.graph g.F.Of.Run.stack in
    let s = run_setting g.F.Of.Run.graph g.F.Of.Run.stack in
    let k = parts c.self.inside in
    let i : IsCourse m s k = c.self.invariant in
    let r = c.args.role in
    let v = c.args.node in
    let legal : is_legal s (Settle r v ∷ log_of k) ≡ true =
    subst (λ (w : Coursed). is_legal s (Settle r v ∷ past w.told) ≡ true) (sym c.self.view_is) c.requires.legal in
    let unsettled : is_settled v (log_of k) ≡ false = ap (λ (w : Coursed). is_settled v (past w.told)) c.self.view_is ∙ c.requires.unsettled in
    let still : k.transit ≡ [] = ap (λ (w : Coursed). w.transit) c.self.view_is ∙ c.requires.still in
    let q = place-of s v c.requires.node in
    let n = c.index_mut-state.result.now in
    let at : slice_get k.nodes (v - 1) ≡ Some n = read-at k.nodes (v - 1) n (omega (arith, q.1, i.nodes.all)) c.index_mut-state.ensures.value in
    let has = has-ring m s k v n i c.requires.node at c.requires.kind unsettled in
    has.pending

pub give_up_ring-requires-clause-still : goal.give_up_ring-requires-clause-still
give_up_ring-requires-clause-still g c =
    let m = run_measure g.F.Of.Run.graph g.F.Of.Run.stack in
    let s = run_setting g.F.Of.Run.graph g.F.Of.Run.stack in
    let k = parts c.self.inside in
    let i : IsCourse m s k = c.self.invariant in
    let r = c.args.role in
    let v = c.args.node in
    let legal : is_legal s (Settle r v ∷ log_of k) ≡ true =
    subst (λ (w : Coursed). is_legal s (Settle r v ∷ past w.told) ≡ true) (sym c.self.view_is) c.requires.legal in
    let unsettled : is_settled v (log_of k) ≡ false = ap (λ (w : Coursed). is_settled v (past w.told)) c.self.view_is ∙ c.requires.unsettled in
    let still : k.transit ≡ [] = ap (λ (w : Coursed). w.transit) c.self.view_is ∙ c.requires.still in
    let q = place-of s v c.requires.node in
    let n = c.index_mut-state.result.now in
    let at : slice_get k.nodes (v - 1) ≡ Some n = read-at k.nodes (v - 1) n (omega (arith, q.1, i.nodes.all)) c.index_mut-state.ensures.value in
    let has = has-ring m s k v n i c.requires.node at c.requires.kind unsettled in
    still

pub give_up_ring-requires-clause-room : goal.give_up_ring-requires-clause-room
give_up_ring-requires-clause-room g c =
    let m = run_measure g.F.Of.Run.graph g.F.Of.Run.stack in
    let s = run_setting g.F.Of.Run.graph g.F.Of.Run.stack in
    let k = parts c.self.inside in
    let i : IsCourse m s k = c.self.invariant in
    let r = c.args.role in
    let v = c.args.node in
    let legal : is_legal s (Settle r v ∷ log_of k) ≡ true =
    subst (λ (w : Coursed). is_legal s (Settle r v ∷ past w.told) ≡ true) (sym c.self.view_is) c.requires.legal in
    let unsettled : is_settled v (log_of k) ≡ false = ap (λ (w : Coursed). is_settled v (past w.told)) c.self.view_is ∙ c.requires.unsettled in
    let still : k.transit ≡ [] = ap (λ (w : Coursed). w.transit) c.self.view_is ∙ c.requires.still in
    let q = place-of s v c.requires.node in
    let n = c.index_mut-state.result.now in
    let at : slice_get k.nodes (v - 1) ≡ Some n = read-at k.nodes (v - 1) n (omega (arith, q.1, i.nodes.all)) c.index_mut-state.ensures.value in
    let has = has-ring m s k v n i c.requires.node at c.requires.kind unsettled in
    omega (arith, has.few, i.transit_room)

pub push-requires-clause-room : goal.push-requires-clause-room
push-requires-clause-room g c =
    let m = run_measure g.F.Of.Run.graph g.F.Of.Run.stack in
    let s = run_setting g.F.Of.Run.graph g.F.Of.Run.stack in
    let k = parts c.self.inside in
    let i : IsCourse m s k = c.self.invariant in
    let r = c.args.role in
    let v = c.args.node in
    let legal : is_legal s (Settle r v ∷ log_of k) ≡ true =
    subst (λ (w : Coursed). is_legal s (Settle r v ∷ past w.told) ≡ true) (sym c.self.view_is) c.requires.legal in
    let unsettled : is_settled v (log_of k) ≡ false = ap (λ (w : Coursed). is_settled v (past w.told)) c.self.view_is ∙ c.requires.unsettled in
    let still : k.transit ≡ [] = ap (λ (w : Coursed). w.transit) c.self.view_is ∙ c.requires.still in
    let q = place-of s v c.requires.node in
    let n = c.index_mut-state.result.now in
    let at : slice_get k.nodes (v - 1) ≡ Some n = read-at k.nodes (v - 1) n (omega (arith, q.1, i.nodes.all)) c.index_mut-state.ensures.value in
    let has = has-ring m s k v n i c.requires.node at c.requires.kind unsettled in
    room-for m s k (Settle r v) i legal

pub invariant_of-self : goal.invariant_of-self
invariant_of-self g c =
    let m = run_measure g.F.Of.Run.graph g.F.Of.Run.stack in
    let s = run_setting g.F.Of.Run.graph g.F.Of.Run.stack in
    let k = parts c.self.inside in
    let i : IsCourse m s k = c.self.invariant in
    let r = c.args.role in
    let v = c.args.node in
    let legal : is_legal s (Settle r v ∷ log_of k) ≡ true =
    subst (λ (w : Coursed). is_legal s (Settle r v ∷ past w.told) ≡ true) (sym c.self.view_is) c.requires.legal in
    let unsettled : is_settled v (log_of k) ≡ false = ap (λ (w : Coursed). is_settled v (past w.told)) c.self.view_is ∙ c.requires.unsettled in
    let still : k.transit ≡ [] = ap (λ (w : Coursed). w.transit) c.self.view_is ∙ c.requires.still in
    let q = place-of s v c.requires.node in
    let n = c.index_mut-state.result.now in
    let at : slice_get k.nodes (v - 1) ≡ Some n = read-at k.nodes (v - 1) n (omega (arith, q.1, i.nodes.all)) c.index_mut-state.ensures.value in
    let has = has-ring m s k v n i c.requires.node at c.requires.kind unsettled in
    let y = record n { window = c.give_up_ring.new.window } in
    let few : length (ring s v (log_of k)) ≤ 4097 = omega (arith, ap (length {A = FrameName}) has.same, has.few) in
    course-as m s (record k {
      log = record k.log { told = plain (Settle r v) ∷ k.log.told };
      nodes = set k.nodes (v - 1) (record n { settled = true; window = y.window });
      transit = ring s v (log_of k);
    })
    _ _ _ _ _ _ _ _ (sym c.push.ensures) refl refl refl refl refl (sym (c.give_up_ring.ensures.items ∙ has.same)) (sym c.give_up_ring.ensures.capacity)
    (settled_with_at m s k v r (v - 1) n y q.0 i legal at still c.give_up_ring.ensures.ring c.give_up_ring.ensures.pending few)

pub returns : goal.returns
returns g c =
    let m = run_measure g.F.Of.Run.graph g.F.Of.Run.stack in
    let s = run_setting g.F.Of.Run.graph g.F.Of.Run.stack in
    let k = parts c.self.inside in
    let i : IsCourse m s k = c.self.invariant in
    let r = c.args.role in
    let v = c.args.node in
    let legal : is_legal s (Settle r v ∷ log_of k) ≡ true =
    subst (λ (w : Coursed). is_legal s (Settle r v ∷ past w.told) ≡ true) (sym c.self.view_is) c.requires.legal in
    let unsettled : is_settled v (log_of k) ≡ false = ap (λ (w : Coursed). is_settled v (past w.told)) c.self.view_is ∙ c.requires.unsettled in
    let still : k.transit ≡ [] = ap (λ (w : Coursed). w.transit) c.self.view_is ∙ c.requires.still in
    let q = place-of s v c.requires.node in
    let n = c.index_mut-state.result.now in
    let at : slice_get k.nodes (v - 1) ≡ Some n = read-at k.nodes (v - 1) n (omega (arith, q.1, i.nodes.all)) c.index_mut-state.ensures.value in
    let has = has-ring m s k v n i c.requires.node at c.requires.kind unsettled in
    coursed-as (ap (λ (l : ToldState). l.told) c.push.ensures ∙ ap (λ (w : Coursed). plain (Settle r v) ∷ w.told) c.self.view_is)
    (c.give_up_ring.ensures.items ∙ (has.same ∙ ap (λ (w : Coursed). ring s v (past w.told)) c.self.view_is))
