use Rattle.std.proofs.Common.{◌≡◌, ◌∷◌, ◌∙◌, ◌-◌, true, false, ap, sym, subst, refl, drop, [], Some, ℕ, arith}
use Rattle.std.specs.Prelude.{slice_get}
use Rattle.flow_journal.specs.declared.entry.Entry.TheVariants.{Accept}
use Rattle.flow_journal.specs.Accounts.{block_of}
use Rattle.flow_journal.specs.Queued.{has_room}
use Rattle.flow_journal.specs.Histories.{is_legal}
use Rattle.flow_journal.specs.Turns.{deals, has_just_emitted}
use Rattle.board_rules.specs.RunMeasures.{run_setting, run_measure}
use Rattle.board_rules.specs.States.{past}
use Rattle.run_course.specs.Courses.{Coursed, IsCourse, log_of}
use Rattle.run_course.proofs.Opening.{parts}
use Rattle.run_course.proofs.Coursing.{next-block, next-held, accepted_at, room-for, few-there}
use Rattle.run_course.proofs.Reading.{first-of, read-at, place-of, full-of}
use Rattle.flow_journal.specs.Notes.{offers}
use Rattle.course_parts.specs.declared.facts.Facts.{Facts}
use Rattle.course_parts.specs.NodeStates.{IsNode}
use Rattle.run_course.proofs.Coursing.{holds-below}
use Rattle.std.proofs.lemmas.Bool.{true≢false}
use Rattle.run_course.proofs.course.Course.accept.Goals as goal

pub unreachable-requires : goal.unreachable-requires
unreachable-requires g c =
    let a = c.self.inside in
    let s = run_setting g.F.Of.Run.graph g.F.Of.Run.stack in
    let m = run_measure g.F.Of.Run.graph g.F.Of.Run.stack in
    let k = parts a in
    let i : IsCourse m s k = c.self.invariant in
    let view = sym c.self.view_is in
    let q = place-of s c.args.child c.requires.child in
    let n = c.index_mut-node.result.now in
    let at : slice_get k.nodes (c.args.child - 1) ≡ Some n =
    read-at k.nodes (c.args.child - 1) n (omega (arith, q.1, i.nodes.all)) c.index_mut-node.ensures.value in
    let room : has_room s (log_of k) c.args.child ≡ true = subst (λ (v : Coursed). has_room s (past v.told) c.args.child ≡ true) view c.requires.room in
    let node_is : IsNode m s c.args.child (log_of k) n = subst (λ v. IsNode m s v (log_of k) n) q.0 (i.nodes.each (c.args.child - 1) n at) in
    absurd (true≢false (sym room ∙ full-of m s c.args.child (log_of k) n node_is (c.in_default.ensures.full.0 refl)))

pub hold-requires-clause-has_hold : goal.hold-requires-clause-has_hold
hold-requires-clause-has_hold g c =
    let a = c.self.inside in
    let s = run_setting g.F.Of.Run.graph g.F.Of.Run.stack in
    let m = run_measure g.F.Of.Run.graph g.F.Of.Run.stack in
    let k = parts a in
    let i : IsCourse m s k = c.self.invariant in
    let view = sym c.self.view_is in
    let name = c.args.name in
    let transit : k.transit ≡ name ∷ drop 1 k.transit =
    first-of k.transit name (subst (λ (v : Coursed). slice_get v.transit 0 ≡ Some name) view c.requires.next) in
    let has = next-block m s k name (drop 1 k.transit) i transit in
    let found : c.block-block.result ≡ has.0 =
    c.block-block.ensures has.0 (subst (λ (v : Coursed). block_of (past v.told) name ≡ has.0 ∷ []) c.self.view_is has.1) in
    let block : block_of (log_of k) name ≡ c.block-block.result ∷ [] = has.1 ∙ ap (λ b. b ∷ []) (sym found) in
    let held = next-held m s k name (drop 1 k.transit) c.block-block.result i transit block in
    held

pub hold-requires-clause-below_max : goal.hold-requires-clause-below_max
hold-requires-clause-below_max g c =
    let a = c.self.inside in
    let s = run_setting g.F.Of.Run.graph g.F.Of.Run.stack in
    let m = run_measure g.F.Of.Run.graph g.F.Of.Run.stack in
    let k = parts a in
    let i : IsCourse m s k = c.self.invariant in
    let view = sym c.self.view_is in
    let name = c.args.name in
    let transit : k.transit ≡ name ∷ drop 1 k.transit =
    first-of k.transit name (subst (λ (v : Coursed). slice_get v.transit 0 ≡ Some name) view c.requires.next) in
    let has = next-block m s k name (drop 1 k.transit) i transit in
    let found : c.block-block.result ≡ has.0 =
    c.block-block.ensures has.0 (subst (λ (v : Coursed). block_of (past v.told) name ≡ has.0 ∷ []) c.self.view_is has.1) in
    let block : block_of (log_of k) name ≡ c.block-block.result ∷ [] = has.1 ∙ ap (λ b. b ∷ []) (sym found) in
    let held = next-held m s k name (drop 1 k.transit) c.block-block.result i transit block in
    holds-below m s k c.block-block.result i

pub overflow_add-self : goal.overflow_add-self
overflow_add-self g c =
    let a = c.self.inside in
    let s = run_setting g.F.Of.Run.graph g.F.Of.Run.stack in
    let m = run_measure g.F.Of.Run.graph g.F.Of.Run.stack in
    let k = parts a in
    let i : IsCourse m s k = c.self.invariant in
    let view = sym c.self.view_is in
    let few = few-there m s k offers i in
    omega (arith, few, ap (λ (f : Facts). f.came) i.facts)

pub push-requires-clause-room : goal.push-requires-clause-room
push-requires-clause-room g c =
    let a = c.self.inside in
    let s = run_setting g.F.Of.Run.graph g.F.Of.Run.stack in
    let m = run_measure g.F.Of.Run.graph g.F.Of.Run.stack in
    let k = parts a in
    let i : IsCourse m s k = c.self.invariant in
    let view = sym c.self.view_is in
    let legal : is_legal s (Accept c.args.child c.args.name.maker c.args.name.index ∷ log_of k) ≡ true =
    subst (λ (v : Coursed). is_legal s (Accept c.args.child c.args.name.maker c.args.name.index ∷ past v.told) ≡ true) view c.requires.legal in
    room-for m s k (Accept c.args.child c.args.name.maker c.args.name.index) i legal

pub invariant_of-self : goal.invariant_of-self
invariant_of-self g c =
    let a = c.self.inside in
    let s = run_setting g.F.Of.Run.graph g.F.Of.Run.stack in
    let m = run_measure g.F.Of.Run.graph g.F.Of.Run.stack in
    let k = parts a in
    let i : IsCourse m s k = c.self.invariant in
    let view = sym c.self.view_is in
    let name = c.args.name in
    let transit : k.transit ≡ name ∷ drop 1 k.transit =
    first-of k.transit name (subst (λ (v : Coursed). slice_get v.transit 0 ≡ Some name) view c.requires.next) in
    let has = next-block m s k name (drop 1 k.transit) i transit in
    let found : c.block-block.result ≡ has.0 =
    c.block-block.ensures has.0 (subst (λ (v : Coursed). block_of (past v.told) name ≡ has.0 ∷ []) c.self.view_is has.1) in
    let block : block_of (log_of k) name ≡ c.block-block.result ∷ [] = has.1 ∙ ap (λ b. b ∷ []) (sym found) in
    let held = next-held m s k name (drop 1 k.transit) c.block-block.result i transit block in
    let q = place-of s c.args.child c.requires.child in
    let n = c.index_mut-node.result.now in
    let at : slice_get k.nodes (c.args.child - 1) ≡ Some n =
    read-at k.nodes (c.args.child - 1) n (omega (arith, q.1, i.nodes.all)) c.index_mut-node.ensures.value in
    let legal : is_legal s (Accept c.args.child c.args.name.maker c.args.name.index ∷ log_of k) ≡ true =
    subst (λ (v : Coursed). is_legal s (Accept c.args.child c.args.name.maker c.args.name.index ∷ past v.told) ≡ true) view c.requires.legal in
    let room : has_room s (log_of k) c.args.child ≡ true = subst (λ (v : Coursed). has_room s (past v.told) c.args.child ≡ true) view c.requires.room in
    let together = subst (λ (v : Coursed). (u : ℕ) → deals s u ≡ true → has_just_emitted u (past v.told) ≡ false) view c.requires.together in
    rw (c.push.ensures, c.hold.ensures, c.in-Ok.ensures.ok)
    (accepted_at m s k c.args.child (c.args.child - 1) c.args.name.maker c.args.name.index c.block-block.result n q.0 i legal at room together block held)
