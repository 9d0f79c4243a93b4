use Rattle.std.proofs.Common.{◌≡◌, ◌∷◌, ◌++◌, ◌+◌, ◌-◌, ◌∙◌, [], refl, sym, ap, subst, set, true, Some, arith, List, ℕ, get_or}
use Rattle.std.specs.Prelude.{slice_get}
use Rattle.nd_base.specs.declared.frame.FrameName.{FrameName}
use Rattle.told_log.specs.ToldLogs.{ToldState}
use Rattle.board_rules.specs.RunMeasures.{run_setting, run_measure}
use Rattle.board_rules.specs.States.{past, plain}
use Rattle.flow_journal.specs.declared.entry.Entry.TheVariants.{PoolDrop}
use Rattle.flow_journal.specs.Pasts.{Past}
use Rattle.flow_journal.specs.Accounts.{held}
use Rattle.flow_journal.specs.Queued.{queued}
use Rattle.flow_journal.specs.FirstEntries.{is_next}
use Rattle.flow_journal.specs.Finished.{none_left}
use Rattle.flow_journal.specs.Histories.{is_legal}
use Rattle.flow_journal.specs.Notes.{drops}
use Rattle.course_parts.specs.declared.facts.Facts.{Facts}
use Rattle.course_parts.specs.declared.rules.NodeRules.{NodeRules}
use Rattle.queue_sort.specs.Inboxes.{InboxState, without_front}
use Rattle.run_course.specs.Courses.{IsCourse, Coursed, log_of}
use Rattle.run_course.proofs.Opening.{parts}
use Rattle.run_course.proofs.Reading.{place-of}
use Rattle.run_course.proofs.Coursing.{room-for, few-there}
use Rattle.std.proofs.lemmas.Bool.{true≢false}
use Rattle.board_rules.proofs.Legal.{may_take}
use Rattle.run_course.proofs.Finding.{node-found, need-is, held-is, next-popped, none-popped, course-as, coursed-as}
use Rattle.run_course.proofs.Begins.{may-drop}
use Rattle.run_course.proofs.Coursing.{dropped_by_pool_at}
use Rattle.run_course.proofs.course.Course.note_drop.Goals as goal

pub unreachable-requires : goal.unreachable-requires
unreachable-requires g c =
    let m = run_measure g.F.Of.Run.graph g.F.Of.Run.stack in
    let s = run_setting g.F.Of.Run.graph g.F.Of.Run.stack in
    let k = parts c.self.inside in
    let h = c.requires in
    let i : IsCourse m s k = c.self.invariant in
    let r = c.args.role in
    let v = c.args.node in
    let n = c.index_mut.result.now in
    let at : slice_get k.nodes (v - 1) ≡ Some n = node-found m s k v n i h.node c.index_mut.ensures.value in
    let none : queued v (log_of k) ≡ [] = none-popped m s k v n i h.node at (c.in_default.ensures.empty.0 refl) in
    true≢false (sym (ap none_left (sym (ap (λ (w : Coursed). queued v (past w.told)) c.self.view_is) ∙ none))
    ∙ (may_take {F = g.row.F.Denot} {B = g.row.F-Blank.Denot} {O = g.row.F-Of.Denot} s r v (past c.args.self.now.told) h.allowed).some)

pub overflow_add-self : goal.overflow_add-self
overflow_add-self g c =
    let m = run_measure g.F.Of.Run.graph g.F.Of.Run.stack in
    let s = run_setting g.F.Of.Run.graph g.F.Of.Run.stack in
    let k = parts c.self.inside in
    let h = c.requires in
    let i : IsCourse m s k = c.self.invariant in
    omega (arith, few-there m s k drops i, ap (λ (f : Facts). f.dropped) i.facts)

pub push-requires-clause-room : goal.push-requires-clause-room
push-requires-clause-room g c =
    let m = run_measure g.F.Of.Run.graph g.F.Of.Run.stack in
    let s = run_setting g.F.Of.Run.graph g.F.Of.Run.stack in
    let k = parts c.self.inside in
    let h = c.requires in
    let i : IsCourse m s k = c.self.invariant in
    let r = c.args.role in
    let v = c.args.node in
    let n = c.index_mut.result.now in
    let at : slice_get k.nodes (v - 1) ≡ Some n = node-found m s k v n i h.node c.index_mut.ensures.value in
    let still : k.transit ≡ [] = ap (λ (w : Coursed). w.transit) c.self.view_is ∙ h.still in
    let a = c.in-Some.name in
    let P : Past = past c.args.self.now.told in
    let same : log_of k ≡ P = ap (λ (w : Coursed). past w.told) c.self.view_is in
    let next : is_next a (queued v P) ≡ true =
    subst (λ (Q : Past). is_next a (queued v Q) ≡ true) same (next-popped m s k v n a i h.node at (sym c.pop.ensures.front ∙ c.in-Some.is)) in
    let read = c.index-as_slice-place.result in
    let rule : NodeRules = get_or c.as_slice.result.now (v - 1) read in
    let need : rule.need ≡ s.need v =
    ap (λ (z : NodeRules). z.need) (sym c.index-as_slice-place.is)
    ∙ need-is m s k v read i h.node h.makes (subst (λ (rs : List NodeRules). read ≡ get_or rs (v - 1) read) c.as_slice.ensures c.index-as_slice-place.is) in
    let there : c.held-held.result ≡ held s P = c.held-held.ensures ∙ (held-is m s k i still ∙ ap (held s) same) in
    let drop_legal : is_legal s (PoolDrop r v a.maker a.index (s.need v) (held s P) ∷ log_of k) ≡ true =
    may-drop {F = g.row.F.Denot} {B = g.row.F-Blank.Denot} {O = g.row.F-Of.Denot} s k c.args.self.now r v a c.self.view_is i.ruled.pooled h.history h.role
    h.allowed h.makes h.refused next in
    let legal : is_legal s (PoolDrop r v a.maker a.index rule.need c.held-held.result ∷ log_of k) ≡ true =
    subst (λ (j : ℕ). is_legal s (PoolDrop r v a.maker a.index j c.held-held.result ∷ log_of k) ≡ true) (sym need)
    (subst (λ (j : ℕ). is_legal s (PoolDrop r v a.maker a.index (s.need v) j ∷ log_of k) ≡ true) (sym there) drop_legal) in
    room-for m s k (PoolDrop r v a.maker a.index rule.need c.held-held.result) i legal

pub invariant_of-self : goal.invariant_of-self
invariant_of-self g c =
    let m = run_measure g.F.Of.Run.graph g.F.Of.Run.stack in
    let s = run_setting g.F.Of.Run.graph g.F.Of.Run.stack in
    let k = parts c.self.inside in
    let h = c.requires in
    let i : IsCourse m s k = c.self.invariant in
    let r = c.args.role in
    let v = c.args.node in
    let n = c.index_mut.result.now in
    let at : slice_get k.nodes (v - 1) ≡ Some n = node-found m s k v n i h.node c.index_mut.ensures.value in
    let still : k.transit ≡ [] = ap (λ (w : Coursed). w.transit) c.self.view_is ∙ h.still in
    let a = c.in-Some.name in
    let P : Past = past c.args.self.now.told in
    let same : log_of k ≡ P = ap (λ (w : Coursed). past w.told) c.self.view_is in
    let next : is_next a (queued v P) ≡ true =
    subst (λ (Q : Past). is_next a (queued v Q) ≡ true) same (next-popped m s k v n a i h.node at (sym c.pop.ensures.front ∙ c.in-Some.is)) in
    let read = c.index-as_slice-place.result in
    let rule : NodeRules = get_or c.as_slice.result.now (v - 1) read in
    let need : rule.need ≡ s.need v =
    ap (λ (z : NodeRules). z.need) (sym c.index-as_slice-place.is)
    ∙ need-is m s k v read i h.node h.makes (subst (λ (rs : List NodeRules). read ≡ get_or rs (v - 1) read) c.as_slice.ensures c.index-as_slice-place.is) in
    let there : c.held-held.result ≡ held s P = c.held-held.ensures ∙ (held-is m s k i still ∙ ap (held s) same) in
    let drop_legal : is_legal s (PoolDrop r v a.maker a.index (s.need v) (held s P) ∷ log_of k) ≡ true =
    may-drop {F = g.row.F.Denot} {B = g.row.F-Blank.Denot} {O = g.row.F-Of.Denot} s k c.args.self.now r v a c.self.view_is i.ruled.pooled h.history h.role
    h.allowed h.makes h.refused next in
    let legal : is_legal s (PoolDrop r v a.maker a.index rule.need c.held-held.result ∷ log_of k) ≡ true =
    subst (λ (j : ℕ). is_legal s (PoolDrop r v a.maker a.index j c.held-held.result ∷ log_of k) ≡ true) (sym need)
    (subst (λ (j : ℕ). is_legal s (PoolDrop r v a.maker a.index (s.need v) j ∷ log_of k) ≡ true) (sym there) drop_legal) in
    course-as m s (record k {
      log = record k.log { told = plain (PoolDrop r v a.maker a.index rule.need c.held-held.result) ∷ k.log.told };
      nodes = set k.nodes (v - 1) (record n { inbox = without_front n.inbox });
      facts = record k.facts { dropped = k.facts.dropped + 1 };
      transit = a ∷ [];
    })
    _ _ _ _ _ _ _ _ (sym c.push.ensures)
    (ap (λ (b : InboxState FrameName). set k.nodes (v - 1) (record n { inbox = b })) (sym c.pop.ensures.rest)) refl refl refl refl
    (sym (c.push_back_reserved.ensures.items ∙ ap (λ (ts : List FrameName). ts ++ a ∷ []) still)) (sym c.push_back_reserved.ensures.capacity)
    (dropped_by_pool_at m s k v r (v - 1) a.maker a.index rule.need c.held-held.result n (place-of s v h.node).0 i legal at still)

pub returns-clause-next : goal.returns-clause-next
returns-clause-next g c =
    let m = run_measure g.F.Of.Run.graph g.F.Of.Run.stack in
    let s = run_setting g.F.Of.Run.graph g.F.Of.Run.stack in
    let k = parts c.self.inside in
    let h = c.requires in
    let i : IsCourse m s k = c.self.invariant in
    let r = c.args.role in
    let v = c.args.node in
    let n = c.index_mut.result.now in
    let at : slice_get k.nodes (v - 1) ≡ Some n = node-found m s k v n i h.node c.index_mut.ensures.value in
    let still : k.transit ≡ [] = ap (λ (w : Coursed). w.transit) c.self.view_is ∙ h.still in
    let a = c.in-Some.name in
    let P : Past = past c.args.self.now.told in
    let same : log_of k ≡ P = ap (λ (w : Coursed). past w.told) c.self.view_is in
    let next : is_next a (queued v P) ≡ true =
    subst (λ (Q : Past). is_next a (queued v Q) ≡ true) same (next-popped m s k v n a i h.node at (sym c.pop.ensures.front ∙ c.in-Some.is)) in
    let read = c.index-as_slice-place.result in
    let rule : NodeRules = get_or c.as_slice.result.now (v - 1) read in
    let need : rule.need ≡ s.need v =
    ap (λ (z : NodeRules). z.need) (sym c.index-as_slice-place.is)
    ∙ need-is m s k v read i h.node h.makes (subst (λ (rs : List NodeRules). read ≡ get_or rs (v - 1) read) c.as_slice.ensures c.index-as_slice-place.is) in
    let there : c.held-held.result ≡ held s P = c.held-held.ensures ∙ (held-is m s k i still ∙ ap (held s) same) in
    let drop_legal : is_legal s (PoolDrop r v a.maker a.index (s.need v) (held s P) ∷ log_of k) ≡ true =
    may-drop {F = g.row.F.Denot} {B = g.row.F-Blank.Denot} {O = g.row.F-Of.Denot} s k c.args.self.now r v a c.self.view_is i.ruled.pooled h.history h.role
    h.allowed h.makes h.refused next in
    let legal : is_legal s (PoolDrop r v a.maker a.index rule.need c.held-held.result ∷ log_of k) ≡ true =
    subst (λ (j : ℕ). is_legal s (PoolDrop r v a.maker a.index j c.held-held.result ∷ log_of k) ≡ true) (sym need)
    (subst (λ (j : ℕ). is_legal s (PoolDrop r v a.maker a.index (s.need v) j ∷ log_of k) ≡ true) (sym there) drop_legal) in
    next

pub returns-clause-told : goal.returns-clause-told
returns-clause-told g c =
    let m = run_measure g.F.Of.Run.graph g.F.Of.Run.stack in
    let s = run_setting g.F.Of.Run.graph g.F.Of.Run.stack in
    let k = parts c.self.inside in
    let h = c.requires in
    let i : IsCourse m s k = c.self.invariant in
    let r = c.args.role in
    let v = c.args.node in
    let n = c.index_mut.result.now in
    let at : slice_get k.nodes (v - 1) ≡ Some n = node-found m s k v n i h.node c.index_mut.ensures.value in
    let still : k.transit ≡ [] = ap (λ (w : Coursed). w.transit) c.self.view_is ∙ h.still in
    let a = c.in-Some.name in
    let P : Past = past c.args.self.now.told in
    let same : log_of k ≡ P = ap (λ (w : Coursed). past w.told) c.self.view_is in
    let next : is_next a (queued v P) ≡ true =
    subst (λ (Q : Past). is_next a (queued v Q) ≡ true) same (next-popped m s k v n a i h.node at (sym c.pop.ensures.front ∙ c.in-Some.is)) in
    let read = c.index-as_slice-place.result in
    let rule : NodeRules = get_or c.as_slice.result.now (v - 1) read in
    let need : rule.need ≡ s.need v =
    ap (λ (z : NodeRules). z.need) (sym c.index-as_slice-place.is)
    ∙ need-is m s k v read i h.node h.makes (subst (λ (rs : List NodeRules). read ≡ get_or rs (v - 1) read) c.as_slice.ensures c.index-as_slice-place.is) in
    let there : c.held-held.result ≡ held s P = c.held-held.ensures ∙ (held-is m s k i still ∙ ap (held s) same) in
    let drop_legal : is_legal s (PoolDrop r v a.maker a.index (s.need v) (held s P) ∷ log_of k) ≡ true =
    may-drop {F = g.row.F.Denot} {B = g.row.F-Blank.Denot} {O = g.row.F-Of.Denot} s k c.args.self.now r v a c.self.view_is i.ruled.pooled h.history h.role
    h.allowed h.makes h.refused next in
    let legal : is_legal s (PoolDrop r v a.maker a.index rule.need c.held-held.result ∷ log_of k) ≡ true =
    subst (λ (j : ℕ). is_legal s (PoolDrop r v a.maker a.index j c.held-held.result ∷ log_of k) ≡ true) (sym need)
    (subst (λ (j : ℕ). is_legal s (PoolDrop r v a.maker a.index (s.need v) j ∷ log_of k) ≡ true) (sym there) drop_legal) in
    coursed-as (ap (λ (l : ToldState). l.told) c.push.ensures
    ∙ (ap (λ (j : ℕ). plain (PoolDrop r v a.maker a.index j c.held-held.result) ∷ k.log.told) need
    ∙ (ap (λ (j : ℕ). plain (PoolDrop r v a.maker a.index (s.need v) j) ∷ k.log.told) there
    ∙ ap (λ (w : Coursed). plain (PoolDrop r v a.maker a.index (s.need v) (held s P)) ∷ w.told) c.self.view_is)))
    (c.push_back_reserved.ensures.items ∙ ap (λ (ts : List FrameName). ts ++ a ∷ []) still)
