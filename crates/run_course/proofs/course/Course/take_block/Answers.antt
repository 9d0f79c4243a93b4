use Rattle.std.proofs.Common.{◌≡◌, ◌∷◌, ◌+◌, ◌-◌, ◌∙◌, [], refl, sym, ap, subst, set, true, Some, arith, List, ℕ, length, get_or}
use Rattle.std.specs.Prelude.{slice_get}
use Rattle.nd_base.specs.declared.frame.FrameName.{FrameName}
use Rattle.board_rules.specs.RunMeasures.{run_setting, run_measure}
use Rattle.board_rules.specs.States.{past, lends}
use Rattle.flow_journal.specs.declared.entry.Entry.TheVariants.{TakeBlock}
use Rattle.flow_journal.specs.Pasts.{Past, frame}
use Rattle.flow_journal.specs.Histories.{is_legal}
use Rattle.course_parts.specs.declared.rules.NodeRules.{NodeRules}
use Rattle.course_parts.specs.declared.hand.Hand.TheVariants.{Job}
use Rattle.queue_sort.specs.Inboxes.{InboxState, without_front}
use Rattle.run_course.specs.Courses.{IsCourse, Coursed, log_of}
use Rattle.run_course.proofs.Opening.{parts}
use Rattle.run_course.proofs.Reading.{place-of}
use Rattle.run_course.proofs.Coursing.{room-for}
use Rattle.run_course.proofs.Finding.{node-found, role-found, need-is, course-as}
use Rattle.std.proofs.Common.{◌*◌}
use Rattle.pool_ledger.specs.Ledger.{Ledger}
use Rattle.flow_journal.specs.Accounts.{grant}
use Rattle.run_course.specs.FrameBlocks.{place_of}
use Rattle.run_course.proofs.Finding.{grant-is}
use Rattle.frame_table.specs.Kept.{without_kept}
use Rattle.run_course.proofs.Granting.{few-known, took_block_at, take-short, block-account, place-in, still-named, given-is}
use Rattle.run_course.proofs.Begins.{may-take-block}
use Rattle.std.proofs.Common.{inr}
use Rattle.run_course.proofs.Finding.{few-jobs}
use Rattle.run_course.proofs.course.Course.take_block.Goals as goal

pub take_grant-requires-clause-some : goal.take_grant-requires-clause-some
take_grant-requires-clause-some g c =
    let m = run_measure g.F.Of.Run.graph g.F.Of.Run.stack in
    let s = run_setting g.F.Of.Run.graph g.F.Of.Run.stack in
    let k = parts c.self.inside in
    let h = c.requires in
    let i : IsCourse m s k = c.self.invariant in
    let still : k.transit ≡ [] = ap (λ (w : Coursed). w.transit) c.self.view_is ∙ h.still in
    let r = c.args.role in
    let v = c.args.node in
    let b = c.args.grant.block in
    let z = c.args.grant.size in
    let f = c.args.grant.fresh in
    let y = c.args.grant.given_up in
    let w = c.args.regrown in
    let read = c.index-as_slice-place.result in
    let rule : NodeRules = get_or c.as_slice.result.now (v - 1) read in
    let need : rule.need ≡ s.need v =
    ap (λ (u : NodeRules). u.need) (sym c.index-as_slice-place.is)
    ∙ need-is m s k v read i h.node h.makes (subst (λ (rs : List NodeRules). read ≡ get_or rs (v - 1) read) c.as_slice.ensures c.index-as_slice-place.is) in
    let some = i.ruled.some v (inr h.makes) in λ none. omega (arith, some, need, none)

pub take_grant-requires-clause-few : goal.take_grant-requires-clause-few
take_grant-requires-clause-few g c =
    let m = run_measure g.F.Of.Run.graph g.F.Of.Run.stack in
    let s = run_setting g.F.Of.Run.graph g.F.Of.Run.stack in
    let k = parts c.self.inside in
    let h = c.requires in
    let i : IsCourse m s k = c.self.invariant in
    let still : k.transit ≡ [] = ap (λ (w : Coursed). w.transit) c.self.view_is ∙ h.still in
    few-known m s k i still

pub take_grant-requires-clause-granted : goal.take_grant-requires-clause-granted
take_grant-requires-clause-granted g c =
    let m = run_measure g.F.Of.Run.graph g.F.Of.Run.stack in
    let s = run_setting g.F.Of.Run.graph g.F.Of.Run.stack in
    let k = parts c.self.inside in
    let h = c.requires in
    let i : IsCourse m s k = c.self.invariant in
    let still : k.transit ≡ [] = ap (λ (w : Coursed). w.transit) c.self.view_is ∙ h.still in
    let r = c.args.role in
    let v = c.args.node in
    let b = c.args.grant.block in
    let z = c.args.grant.size in
    let f = c.args.grant.fresh in
    let y = c.args.grant.given_up in
    let w = c.args.regrown in
    let read = c.index-as_slice-place.result in
    let rule : NodeRules = get_or c.as_slice.result.now (v - 1) read in
    let need : rule.need ≡ s.need v =
    ap (λ (u : NodeRules). u.need) (sym c.index-as_slice-place.is)
    ∙ need-is m s k v read i h.node h.makes (subst (λ (rs : List NodeRules). read ≡ get_or rs (v - 1) read) c.as_slice.ensures c.index-as_slice-place.is) in
    let P : Past = past c.args.self.now.told in
    let same : log_of k ≡ P = ap (λ (u : Coursed). past u.told) c.self.view_is in
    grant-is m s k rule.need i still ∙ (ap (λ (Q : Past). grant s Q rule.need) same ∙ (ap (grant s P) need ∙ h.granted))

pub index_mut-requires : goal.index_mut-requires
index_mut-requires g c =
    let m = run_measure g.F.Of.Run.graph g.F.Of.Run.stack in
    let s = run_setting g.F.Of.Run.graph g.F.Of.Run.stack in
    let k = parts c.self.inside in
    let h = c.requires in
    let i : IsCourse m s k = c.self.invariant in
    let still : k.transit ≡ [] = ap (λ (w : Coursed). w.transit) c.self.view_is ∙ h.still in
    let r = c.args.role in
    let v = c.args.node in
    let b = c.args.grant.block in
    let z = c.args.grant.size in
    let f = c.args.grant.fresh in
    let y = c.args.grant.given_up in
    let w = c.args.regrown in
    let read = c.index-as_slice-place.result in
    let rule : NodeRules = get_or c.as_slice.result.now (v - 1) read in
    let need : rule.need ≡ s.need v =
    ap (λ (u : NodeRules). u.need) (sym c.index-as_slice-place.is)
    ∙ need-is m s k v read i h.node h.makes (subst (λ (rs : List NodeRules). read ≡ get_or rs (v - 1) read) c.as_slice.ensures c.index-as_slice-place.is) in
    let a = c.name-name.result in
    let j = a.index in
    let legal : is_legal s (TakeBlock f w r v a.maker a.index b z y ∷ log_of k) ≡ true =
    subst (λ (e : FrameName). is_legal s (TakeBlock f w r v e.maker e.index b z y ∷ log_of k) ≡ true) (sym c.name-name.ensures)
    (may-take-block {F = g.row.F.Denot} {B = g.row.F-Blank.Denot} {O = g.row.F-Of.Denot} g.F.Named.name_of c.args.part.now s k c.args.self.now r v b z f y w
    c.self.view_is i.ruled.pooled h.history h.role h.allowed h.makes h.granted h.stale h.next) in
    let short = take-short m s k r v a.maker a.index b z f y w i legal in
    let ids : length c.as_slice-frames.result.now ≡ length s.ids = ap length c.as_slice-frames.ensures ∙ ap length i.ruled.ids in
    let product : v * length c.as_slice-frames.result.now ≡ v * length s.ids = ap (λ (l : ℕ). v * l) ids in
    omega (arith, place-in v a.index (length s.nodes) (length s.ids) short.1 short.0, i.blocks.all, product)

pub overflow_add-state : goal.overflow_add-state
overflow_add-state g c =
    let m = run_measure g.F.Of.Run.graph g.F.Of.Run.stack in
    let s = run_setting g.F.Of.Run.graph g.F.Of.Run.stack in
    let k = parts c.self.inside in
    let h = c.requires in
    let i : IsCourse m s k = c.self.invariant in
    let still : k.transit ≡ [] = ap (λ (w : Coursed). w.transit) c.self.view_is ∙ h.still in
    let r = c.args.role in
    let v = c.args.node in
    let b = c.args.grant.block in
    let z = c.args.grant.size in
    let f = c.args.grant.fresh in
    let y = c.args.grant.given_up in
    let w = c.args.regrown in
    let read = c.index-as_slice-place.result in
    let rule : NodeRules = get_or c.as_slice.result.now (v - 1) read in
    let need : rule.need ≡ s.need v =
    ap (λ (u : NodeRules). u.need) (sym c.index-as_slice-place.is)
    ∙ need-is m s k v read i h.node h.makes (subst (λ (rs : List NodeRules). read ≡ get_or rs (v - 1) read) c.as_slice.ensures c.index-as_slice-place.is) in
    let n = c.index_mut-state.result.now in
    omega (arith, few-jobs m s k v n i h.node (node-found m s k v n i h.node c.index_mut-state.ensures.value))

pub push_lent-requires-clause-room : goal.push_lent-requires-clause-room
push_lent-requires-clause-room g c =
    let m = run_measure g.F.Of.Run.graph g.F.Of.Run.stack in
    let s = run_setting g.F.Of.Run.graph g.F.Of.Run.stack in
    let k = parts c.self.inside in
    let h = c.requires in
    let i : IsCourse m s k = c.self.invariant in
    let still : k.transit ≡ [] = ap (λ (w : Coursed). w.transit) c.self.view_is ∙ h.still in
    let r = c.args.role in
    let v = c.args.node in
    let b = c.args.grant.block in
    let z = c.args.grant.size in
    let f = c.args.grant.fresh in
    let y = c.args.grant.given_up in
    let w = c.args.regrown in
    let read = c.index-as_slice-place.result in
    let rule : NodeRules = get_or c.as_slice.result.now (v - 1) read in
    let need : rule.need ≡ s.need v =
    ap (λ (u : NodeRules). u.need) (sym c.index-as_slice-place.is)
    ∙ need-is m s k v read i h.node h.makes (subst (λ (rs : List NodeRules). read ≡ get_or rs (v - 1) read) c.as_slice.ensures c.index-as_slice-place.is) in
    let a = c.name-name.result in
    let j = a.index in
    let legal : is_legal s (TakeBlock f w r v a.maker a.index b z y ∷ log_of k) ≡ true =
    subst (λ (e : FrameName). is_legal s (TakeBlock f w r v e.maker e.index b z y ∷ log_of k) ≡ true) (sym c.name-name.ensures)
    (may-take-block {F = g.row.F.Denot} {B = g.row.F-Blank.Denot} {O = g.row.F-Of.Denot} g.F.Named.name_of c.args.part.now s k c.args.self.now r v b z f y w
    c.self.view_is i.ruled.pooled h.history h.role h.allowed h.makes h.granted h.stale h.next) in
    room-for m s k (TakeBlock f w r v a.maker a.index b z y) i legal

pub invariant_of-self-2 : goal.invariant_of-self-2
invariant_of-self-2 g c =
    let m = run_measure g.F.Of.Run.graph g.F.Of.Run.stack in
    let s = run_setting g.F.Of.Run.graph g.F.Of.Run.stack in
    let k = parts c.self.inside in
    let h = c.requires in
    let i : IsCourse m s k = c.self.invariant in
    let still : k.transit ≡ [] = ap (λ (w : Coursed). w.transit) c.self.view_is ∙ h.still in
    let r = c.args.role in
    let v = c.args.node in
    let b = c.args.grant.block in
    let z = c.args.grant.size in
    let f = c.args.grant.fresh in
    let y = c.args.grant.given_up in
    let w = c.args.regrown in
    let read = c.index-as_slice-place.result in
    let rule : NodeRules = get_or c.as_slice.result.now (v - 1) read in
    let need : rule.need ≡ s.need v =
    ap (λ (u : NodeRules). u.need) (sym c.index-as_slice-place.is)
    ∙ need-is m s k v read i h.node h.makes (subst (λ (rs : List NodeRules). read ≡ get_or rs (v - 1) read) c.as_slice.ensures c.index-as_slice-place.is) in
    let a = c.name-name.result in
    let j = a.index in
    let legal : is_legal s (TakeBlock f w r v a.maker a.index b z y ∷ log_of k) ≡ true =
    subst (λ (e : FrameName). is_legal s (TakeBlock f w r v e.maker e.index b z y ∷ log_of k) ≡ true) (sym c.name-name.ensures)
    (may-take-block {F = g.row.F.Denot} {B = g.row.F-Blank.Denot} {O = g.row.F-Of.Denot} g.F.Named.name_of c.args.part.now s k c.args.self.now r v b z f y w
    c.self.view_is i.ruled.pooled h.history h.role h.allowed h.makes h.granted h.stale h.next) in
    let n = c.index_mut-state.result.now in
    let at : slice_get k.nodes (v - 1) ≡ Some n = node-found m s k v n i h.node c.index_mut-state.ensures.value in
    let x = c.index_mut-2.result.now in
    let p : Ledger = c.take_grant.new.pool in
    let part = g.F.Held.parts c.args.part.now in
    let ids : length s.ids ≡ length c.as_slice-frames.result.now = sym (ap length c.as_slice-frames.ensures ∙ ap length i.ruled.ids) in
    course-as m s (record k {
      log = record k.log { told = lends (TakeBlock f w r v a.maker a.index b z y) part ∷ k.log.told };
      nodes = set k.nodes (v - 1) (record n { inbox = without_front n.inbox; jobs = n.jobs + 1 });
      roles = set k.roles r
          (record x { hand = Job v a (Some (record { number = b; size = z })) });
      pool = p;
      blocks = set k.blocks (place_of s (frame v a.index)) b;
      transit = [];
    })
    _ _ _ _ _ _ _ _ (sym c.push_lent.ensures) (ap (λ (u : InboxState FrameName). set k.nodes (v - 1) (record n { inbox = u; jobs = n.jobs + 1 }))
    (sym c.pop.ensures.rest)) refl refl (ap (λ (l : ℕ). set k.blocks (v * l + a.index) b) ids) refl (sym still) refl
    (took_block_at m s k v r (v - 1) a.maker a.index b z f y w x n p part (place-of s v h.node).0 i legal (role-found m s k r x i h.role
    c.index_mut-2.ensures.value) at still (block-account m s k r v a.maker a.index b z f y w p i still legal c.in_ok-take_grant.ensures.taken))

pub take_grant-requires-clause-named : goal.take_grant-requires-clause-named
take_grant-requires-clause-named g c =
    still-named (run_measure g.F.Of.Run.graph g.F.Of.Run.stack) (run_setting g.F.Of.Run.graph g.F.Of.Run.stack) (parts c.self.inside) c.self.invariant

pub returns-clause-given : goal.returns-clause-given
returns-clause-given g c =
    let m = run_measure g.F.Of.Run.graph g.F.Of.Run.stack in
    let s = run_setting g.F.Of.Run.graph g.F.Of.Run.stack in
    let k = parts c.self.inside in
    let still : k.transit ≡ [] = ap (λ (w : Coursed). w.transit) c.self.view_is ∙ c.requires.still in
    let same : log_of k ≡ past c.args.self.now.told = ap (λ (u : Coursed). past u.told) c.self.view_is in
    c.in_ok-take_grant.ensures.given
    ∙ ap (λ (bs : List ℕ). without_kept bs c.args.table.now)
    (given-is m s k (past c.args.self.now.told) c.args.grant.block c.args.grant.size c.args.grant.fresh c.args.grant.given_up c.self.invariant still same)
