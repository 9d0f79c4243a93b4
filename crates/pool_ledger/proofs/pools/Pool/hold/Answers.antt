use Rattle.std.proofs.Common.{◌≡◌, ◌≢◌, ◌+◌, get_or, ap, sym, ◌∙◌, arith, rules}
use Rattle.pool_ledger.specs.Ledger.{refs, with_refs}
use Rattle.pool_ledger.specs.Inside.{empty_slot, ledger_of}
use Rattle.pool_ledger.specs.declared.pools.Slot.{Slot}
use Rattle.pool_ledger.proofs.Sound.{has_hold_at, slot_is, All-set, All-at, recount_keeps, ledger-recount}
use Rattle.pool_ledger.proofs.pools.Pool.hold.Goals as goal

pub index_mut-requires : goal.index_mut-requires
index_mut-requires c =
    let h = has_hold_at c.self.inside c.args.self.now c.args.b c.self.view_is c.self.invariant c.requires.has_hold in
    let i = h.inside in
    search rules

pub overflow_add-index_mut : goal.overflow_add-index_mut
overflow_add-index_mut c =
    let h = has_hold_at c.self.inside c.args.self.now c.args.b c.self.view_is c.self.invariant c.requires.has_hold in
    let x = slot_is c.self.inside.slots.items c.args.b c.index_mut.result.now h.inside c.index_mut.ensures.value in
    let count : c.index_mut.result.now.count ≡ refs c.args.self.now c.args.b = ap (λ (s : Slot). s.count) x ∙ h.counted in
    omega (arith, c.requires.below_max)

pub invariant_of-self : goal.invariant_of-self
invariant_of-self c =
    let s = c.self.invariant in
    let h = has_hold_at c.self.inside c.args.self.now c.args.b c.self.view_is s c.requires.has_hold in
    let x = slot_is c.self.inside.slots.items c.args.b c.index_mut.result.now h.inside c.index_mut.ensures.value in
    let size = ap (λ (s : Slot). s.size) x in
    let range = All-at c.self.inside.slots.items c.args.b empty_slot s.in_range h.inside in
    let new : Slot = record { size = c.index_mut.result.now.size; count = c.index_mut.result.now.count + 1 } in
    let some : new.size ≢ 0 = λ e. h.some (sym size ∙ e) in
    let more : new.count ≢ 0 = λ e. absurd (omega arith) in
    let was : (get_or c.self.inside.slots.items c.args.b empty_slot).count ≢ 0 = λ e. absurd (omega (arith, h.counted, c.requires.has_hold)) in
    let keeps = recount_keeps c.self.inside.slots.items c.args.b new h.inside size some was more in
    record {
      slots_fit = omega (arith, s.slots_fit, keeps.long);
      slots_room = s.slots_room;
      room_fits = s.room_fits;
      in_range = All-set c.self.inside.slots.items c.args.b new s.in_range (omega (arith, range.0, size), λ e. absurd (some e));
      free_keys = s.free_keys ∙ sym keeps.free;
      free_room = s.free_room;
      unused_keys = s.unused_keys ∙ sym keeps.unused;
      unused_room = s.unused_room;
      unnamed_fit = omega (arith, s.unnamed_fit, keeps.known);
      unnamed_room = s.unnamed_room;
      standing_is = s.standing_is ∙ sym keeps.standing;
      held_is = s.held_is ∙ sym keeps.held;
    }

pub returns : goal.returns
returns c =
    let h = has_hold_at c.self.inside c.args.self.now c.args.b c.self.view_is c.self.invariant c.requires.has_hold in
    let x = slot_is c.self.inside.slots.items c.args.b c.index_mut.result.now h.inside c.index_mut.ensures.value in
    let size = ap (λ (s : Slot). s.size) x in
    let count : c.index_mut.result.now.count + 1 ≡ refs c.args.self.now c.args.b + 1 = ap (λ (s : Slot). s.count + 1) x ∙ ap (λ n. n + 1) h.counted in
    let new : Slot = record { size = c.index_mut.result.now.size; count = c.index_mut.result.now.count + 1 } in
    ledger-recount c.self.inside c.args.b new h.inside size (λ e. h.some (sym size ∙ e))
    ∙ ap (λ n. with_refs c.args.b n (ledger_of c.self.inside)) count ∙ ap (with_refs c.args.b (refs c.args.self.now c.args.b + 1)) c.self.view_is
