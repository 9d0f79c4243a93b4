use Rattle.std.proofs.Common.{◌≡◌, ◌∷◌, ◌-◌, ◌∙◌, [], refl, sym, ap, set, true, Some, arith}
use Rattle.std.specs.Prelude.{slice_get}
use Rattle.nd_base.specs.declared.frame.FrameName.{FrameName}
use Rattle.board_rules.specs.RunMeasures.{run_setting, run_measure}
use Rattle.board_rules.specs.States.{loses}
use Rattle.flow_journal.specs.declared.entry.Entry.TheVariants.{TakeBlock, Reclaim}
use Rattle.flow_journal.specs.Hands.{hand}
use Rattle.flow_journal.specs.Setting.{is_node}
use Rattle.flow_journal.specs.Histories.{is_legal}
use Rattle.course_parts.specs.declared.hand.Hand.TheVariants.{Free, Job}
use Rattle.queue_sort.specs.Inboxes.{InboxState}
use Rattle.run_course.specs.Courses.{IsCourse, Coursed, log_of}
use Rattle.run_course.proofs.Opening.{parts}
use Rattle.run_course.proofs.Reading.{place-of}
use Rattle.run_course.proofs.Coursing.{room-for}
use Rattle.run_course.proofs.Finding.{node-found, role-found, course-as}
use Rattle.queue_sort.specs.Inboxes.{with_front}
use Rattle.pool_ledger.specs.Ledger.{with_refs}
use Rattle.pool_ledger.specs.Ledger as ledger
use Rattle.run_course.proofs.Begins.{may-reclaim}
use Rattle.std.proofs.lemmas.Bool.{eq-eqb}
use Rattle.run_course.proofs.Reclaiming.{back_making_at, hand-making, hand-there, few-reclaims, job-there, job-node, back-room, granted-held, block-carried}
use Rattle.run_course.proofs.course.Course.reclaim_making.Goals as goal

pub overflow_sub-node : goal.overflow_sub-node
overflow_sub-node g c =
    let m = run_measure g.F.Of.Run.graph g.F.Of.Run.stack in
    let s = run_setting g.F.Of.Run.graph g.F.Of.Run.stack in
    let k = parts c.self.inside in
    let h = c.requires in
    let i : IsCourse m s k = c.self.invariant in
    let still : k.transit ≡ [] = ap (λ (w : Coursed). w.transit) c.self.view_is ∙ h.still in
    let r = c.args.role in
    let legal : is_legal s (Reclaim r ∷ log_of k) ≡ true = may-reclaim s k c.args.self.now r c.self.view_is h.history h.allowed in
    let v = c.args.node in
    let a = c.args.name in
    let p = hand-making (hand r (log_of k)) v a c.args.block (hand-there k c.args.self.now r (Job v a (Some c.args.block)) c.self.view_is h.hand) in
    let held : hand r (log_of k) ≡ Some (TakeBlock p.2 p.4 p.0 v a.maker a.index c.args.block.number p.1 p.3) = p.5 in
    let here : is_node s v ≡ true = job-node s r v (TakeBlock p.2 p.4 p.0 v a.maker a.index c.args.block.number p.1 p.3) (log_of k) i.legal held refl in
    let z = place-of s v here in omega (arith, z.0)

pub index_mut-state-requires : goal.index_mut-state-requires
index_mut-state-requires g c =
    let m = run_measure g.F.Of.Run.graph g.F.Of.Run.stack in
    let s = run_setting g.F.Of.Run.graph g.F.Of.Run.stack in
    let k = parts c.self.inside in
    let h = c.requires in
    let i : IsCourse m s k = c.self.invariant in
    let still : k.transit ≡ [] = ap (λ (w : Coursed). w.transit) c.self.view_is ∙ h.still in
    let r = c.args.role in
    let legal : is_legal s (Reclaim r ∷ log_of k) ≡ true = may-reclaim s k c.args.self.now r c.self.view_is h.history h.allowed in
    let v = c.args.node in
    let a = c.args.name in
    let p = hand-making (hand r (log_of k)) v a c.args.block (hand-there k c.args.self.now r (Job v a (Some c.args.block)) c.self.view_is h.hand) in
    let held : hand r (log_of k) ≡ Some (TakeBlock p.2 p.4 p.0 v a.maker a.index c.args.block.number p.1 p.3) = p.5 in
    let here : is_node s v ≡ true = job-node s r v (TakeBlock p.2 p.4 p.0 v a.maker a.index c.args.block.number p.1 p.3) (log_of k) i.legal held refl in
    let z = place-of s v here in omega (arith, z.1, i.nodes.all)

pub put_back-requires : goal.put_back-requires
put_back-requires g c =
    let m = run_measure g.F.Of.Run.graph g.F.Of.Run.stack in
    let s = run_setting g.F.Of.Run.graph g.F.Of.Run.stack in
    let k = parts c.self.inside in
    let h = c.requires in
    let i : IsCourse m s k = c.self.invariant in
    let still : k.transit ≡ [] = ap (λ (w : Coursed). w.transit) c.self.view_is ∙ h.still in
    let r = c.args.role in
    let legal : is_legal s (Reclaim r ∷ log_of k) ≡ true = may-reclaim s k c.args.self.now r c.self.view_is h.history h.allowed in
    let v = c.args.node in
    let a = c.args.name in
    let p = hand-making (hand r (log_of k)) v a c.args.block (hand-there k c.args.self.now r (Job v a (Some c.args.block)) c.self.view_is h.hand) in
    let held : hand r (log_of k) ≡ Some (TakeBlock p.2 p.4 p.0 v a.maker a.index c.args.block.number p.1 p.3) = p.5 in
    let here : is_node s v ≡ true = job-node s r v (TakeBlock p.2 p.4 p.0 v a.maker a.index c.args.block.number p.1 p.3) (log_of k) i.legal held refl in
    let n = c.index_mut-state.result.now in
    let at : slice_get k.nodes (v - 1) ≡ Some n = node-found m s k v n i here c.index_mut-state.ensures.value in
    let some = job-there m s k v r (TakeBlock p.2 p.4 p.0 v a.maker a.index c.args.block.number p.1 p.3) n i here at held (eq-eqb v v refl) in
    back-room m s k v n i here at some

pub overflow_sub-state : goal.overflow_sub-state
overflow_sub-state g c =
    let m = run_measure g.F.Of.Run.graph g.F.Of.Run.stack in
    let s = run_setting g.F.Of.Run.graph g.F.Of.Run.stack in
    let k = parts c.self.inside in
    let h = c.requires in
    let i : IsCourse m s k = c.self.invariant in
    let still : k.transit ≡ [] = ap (λ (w : Coursed). w.transit) c.self.view_is ∙ h.still in
    let r = c.args.role in
    let legal : is_legal s (Reclaim r ∷ log_of k) ≡ true = may-reclaim s k c.args.self.now r c.self.view_is h.history h.allowed in
    let v = c.args.node in
    let a = c.args.name in
    let p = hand-making (hand r (log_of k)) v a c.args.block (hand-there k c.args.self.now r (Job v a (Some c.args.block)) c.self.view_is h.hand) in
    let held : hand r (log_of k) ≡ Some (TakeBlock p.2 p.4 p.0 v a.maker a.index c.args.block.number p.1 p.3) = p.5 in
    let here : is_node s v ≡ true = job-node s r v (TakeBlock p.2 p.4 p.0 v a.maker a.index c.args.block.number p.1 p.3) (log_of k) i.legal held refl in
    let n = c.index_mut-state.result.now in
    let at : slice_get k.nodes (v - 1) ≡ Some n = node-found m s k v n i here c.index_mut-state.ensures.value in
    let some = job-there m s k v r (TakeBlock p.2 p.4 p.0 v a.maker a.index c.args.block.number p.1 p.3) n i here at held (eq-eqb v v refl) in
    omega (arith, some)

pub drop_hold-requires : goal.drop_hold-requires
drop_hold-requires g c =
    let m = run_measure g.F.Of.Run.graph g.F.Of.Run.stack in
    let s = run_setting g.F.Of.Run.graph g.F.Of.Run.stack in
    let k = parts c.self.inside in
    let h = c.requires in
    let i : IsCourse m s k = c.self.invariant in
    let still : k.transit ≡ [] = ap (λ (w : Coursed). w.transit) c.self.view_is ∙ h.still in
    let r = c.args.role in
    let legal : is_legal s (Reclaim r ∷ log_of k) ≡ true = may-reclaim s k c.args.self.now r c.self.view_is h.history h.allowed in
    let v = c.args.node in
    let a = c.args.name in
    let p = hand-making (hand r (log_of k)) v a c.args.block (hand-there k c.args.self.now r (Job v a (Some c.args.block)) c.self.view_is h.hand) in
    let held : hand r (log_of k) ≡ Some (TakeBlock p.2 p.4 p.0 v a.maker a.index c.args.block.number p.1 p.3) = p.5 in
    let here : is_node s v ≡ true = job-node s r v (TakeBlock p.2 p.4 p.0 v a.maker a.index c.args.block.number p.1 p.3) (log_of k) i.legal held refl in
    granted-held s (Reclaim r ∷ log_of k) k c.args.block.number
    (block-carried m s k r p.0 v a.maker a.index c.args.block.number p.1 p.2 p.3 p.4 i still legal held)

pub push_reclaim-requires-clause-room : goal.push_reclaim-requires-clause-room
push_reclaim-requires-clause-room g c =
    let m = run_measure g.F.Of.Run.graph g.F.Of.Run.stack in
    let s = run_setting g.F.Of.Run.graph g.F.Of.Run.stack in
    let k = parts c.self.inside in
    let h = c.requires in
    let i : IsCourse m s k = c.self.invariant in
    let still : k.transit ≡ [] = ap (λ (w : Coursed). w.transit) c.self.view_is ∙ h.still in
    let r = c.args.role in
    let legal : is_legal s (Reclaim r ∷ log_of k) ≡ true = may-reclaim s k c.args.self.now r c.self.view_is h.history h.allowed in
    room-for m s k (Reclaim r) i legal

pub push_reclaim-requires-clause-few : goal.push_reclaim-requires-clause-few
push_reclaim-requires-clause-few g c =
    let m = run_measure g.F.Of.Run.graph g.F.Of.Run.stack in
    let s = run_setting g.F.Of.Run.graph g.F.Of.Run.stack in
    let k = parts c.self.inside in
    let h = c.requires in
    let i : IsCourse m s k = c.self.invariant in
    let still : k.transit ≡ [] = ap (λ (w : Coursed). w.transit) c.self.view_is ∙ h.still in
    let r = c.args.role in
    let legal : is_legal s (Reclaim r ∷ log_of k) ≡ true = may-reclaim s k c.args.self.now r c.self.view_is h.history h.allowed in
    few-reclaims m s k r i legal

pub invariant_of-self : goal.invariant_of-self
invariant_of-self g c =
    let m = run_measure g.F.Of.Run.graph g.F.Of.Run.stack in
    let s = run_setting g.F.Of.Run.graph g.F.Of.Run.stack in
    let k = parts c.self.inside in
    let h = c.requires in
    let i : IsCourse m s k = c.self.invariant in
    let still : k.transit ≡ [] = ap (λ (w : Coursed). w.transit) c.self.view_is ∙ h.still in
    let r = c.args.role in
    let legal : is_legal s (Reclaim r ∷ log_of k) ≡ true = may-reclaim s k c.args.self.now r c.self.view_is h.history h.allowed in
    let v = c.args.node in
    let a = c.args.name in
    let p = hand-making (hand r (log_of k)) v a c.args.block (hand-there k c.args.self.now r (Job v a (Some c.args.block)) c.self.view_is h.hand) in
    let held : hand r (log_of k) ≡ Some (TakeBlock p.2 p.4 p.0 v a.maker a.index c.args.block.number p.1 p.3) = p.5 in
    let here : is_node s v ≡ true = job-node s r v (TakeBlock p.2 p.4 p.0 v a.maker a.index c.args.block.number p.1 p.3) (log_of k) i.legal held refl in
    let n = c.index_mut-state.result.now in
    let at : slice_get k.nodes (v - 1) ≡ Some n = node-found m s k v n i here c.index_mut-state.ensures.value in
    let some = job-there m s k v r (TakeBlock p.2 p.4 p.0 v a.maker a.index c.args.block.number p.1 p.3) n i here at held (eq-eqb v v refl) in
    let x = c.index_mut-state-2.result.now in
    let bn = c.args.block.number in
    course-as m s (record k {
      log = record k.log { told = loses r c.args.lost ∷ k.log.told };
      nodes = set k.nodes (v - 1) (record n { inbox = with_front n.inbox a; jobs = n.jobs - 1 });
      roles = set k.roles r (record x { hand = Free; was_reclaimed = true });
      pool = with_refs bn (ledger.refs k.pool bn - 1) k.pool;
      transit = [];
    })
    _ _ _ _ _ _ _ _ (sym c.push_reclaim.ensures) (ap (λ (b : InboxState FrameName). set k.nodes (v - 1) (record n { inbox = b; jobs = n.jobs - 1 }))
    (sym c.put_back.ensures)) refl (sym c.drop_hold.ensures.after) refl refl (sym still) refl
    (back_making_at m s k v r p.0 (v - 1) a.maker a.index bn p.1 p.2 p.3 p.4 x n c.args.lost (place-of s v here).0 i legal
    (role-found m s k r x i h.role c.index_mut-state-2.ensures.value) at still held)
