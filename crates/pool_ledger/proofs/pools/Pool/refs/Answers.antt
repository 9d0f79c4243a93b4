use Rattle.std.proofs.Common.{◌<◌, ◌≤◌, subst, length, get_or, ap, sym, ◌∙◌, arith}
use Rattle.std.proofs.lemmas.Bool.{ltb-true, ltb-false}
use Rattle.pool_ledger.specs.Ledger.{Ledger, refs}
use Rattle.pool_ledger.specs.declared.pools.Slot.{Slot}
use Rattle.pool_ledger.proofs.Bridges.{count_of-known_from}
use Rattle.pool_ledger.proofs.Sound.{slot_is, get_or-past}
use Rattle.pool_ledger.proofs.pools.Pool.refs.Goals as goal

pub returns-in-Some : goal.returns-in-Some
returns-in-Some c =
    let s = c.self.invariant in
    let at = count_of-known_from 0 c.args.b c.args.b c.self.inside.slots.items (omega arith) s.in_range in
    let inside : c.args.b < length c.self.inside.slots.items =
    subst (λ xs. c.args.b < length xs) c.deref.ensures.value (ltb-true _ _ (sym c.in-Some.ensures.lookup.0)) in
    let x = slot_is c.self.inside.slots.items c.args.b c.in-Some.slot.now inside (c.in-Some.ensures.lookup.1
    ∙ ap (λ xs. get_or xs c.args.b c.in-Some.slot.now) c.deref.ensures.value) in
    ap (λ (s : Slot). s.count) x ∙ sym at ∙ ap (λ (p : Ledger). refs p c.args.b) c.self.view_is

pub returns-in-None : goal.returns-in-None
returns-in-None c =
    let s = c.self.invariant in
    let at = count_of-known_from 0 c.args.b c.args.b c.self.inside.slots.items (omega arith) s.in_range in
    let past : length c.self.inside.slots.items ≤ c.args.b =
    subst (λ xs. length xs ≤ c.args.b) c.deref.ensures.value (ltb-false _ _ (sym c.in-None.ensures.lookup.0)) in
    sym (ap (λ (s : Slot). s.count) (get_or-past c.self.inside.slots.items c.args.b past)) ∙ sym at ∙ ap (λ (p : Ledger). refs p c.args.b) c.self.view_is
