use Rattle.std.proofs.Common.{◌≢◌, ◌-◌, get_or, ap, sym, ◌∙◌, arith, rules}
use Rattle.pool_ledger.specs.Keys.{Keys, with_key}
use Rattle.pool_ledger.specs.Ledger.{refs, with_refs}
use Rattle.pool_ledger.specs.Inside.{empty_slot, key_of, ledger_of}
use Rattle.pool_ledger.specs.declared.pools.Slot.{Slot}
use Rattle.pool_ledger.proofs.Sound.{has_hold_at, block_slot, All-set, recount_keeps, ledger-recount, free_frees, free_room_for, free_absent, held_shut}
use Rattle.pool_ledger.proofs.Sound.{held_part}
use Rattle.pool_ledger.proofs.pools.Pool.drop_hold.Goals as goal

pub index-requires : goal.index-requires
index-requires c =
    let h = has_hold_at c.self.inside c.args.self.now c.args.b c.self.view_is c.self.invariant c.requires in
    let i = h.inside in
    search rules

pub overflow_sub-count : goal.overflow_sub-count
overflow_sub-count c =
    let h = block_slot c.self.inside c.args.self.now c.args.b c.index.result.now c.self.view_is c.self.invariant c.requires c.index.ensures in
    omega (arith, h.counted, c.requires)

pub index_mut-requires : goal.index_mut-requires
index_mut-requires c =
    let h = has_hold_at c.self.inside c.args.self.now c.args.b c.self.view_is c.self.invariant c.requires in
    let i = h.inside in
    search rules

pub invariant_of-self : goal.invariant_of-self
invariant_of-self c =
    let s = c.self.invariant in
    let h = block_slot c.self.inside c.args.self.now c.args.b c.index.result.now c.self.view_is c.self.invariant c.requires c.index.ensures in
    let new : Slot = record { size = c.index.result.now.size; count = c.index.result.now.count - 1 } in
    let was : (get_or c.self.inside.slots.items c.args.b empty_slot).count ≢ 0 =
    λ e. absurd (omega (arith, h.counted, c.requires, ap (λ (t : Slot). t.count) h.is)) in
    let keeps = recount_keeps c.self.inside.slots.items c.args.b new h.inside (ap (λ (t : Slot). t.size) h.is) h.some was c.if-count-ne0.true in
    record {
      slots_fit = omega (arith, s.slots_fit, keeps.long);
      slots_room = s.slots_room;
      room_fits = s.room_fits;
      in_range = All-set c.self.inside.slots.items c.args.b new s.in_range (h.range, λ e. absurd (h.some e));
      free_keys = s.free_keys ∙ sym keeps.free;
      free_room = s.free_room;
      unused_keys = s.unused_keys ∙ sym keeps.unused;
      unused_room = s.unused_room;
      unnamed_fit = omega (arith, s.unnamed_fit, keeps.known);
      unnamed_room = s.unnamed_room;
      standing_is = s.standing_is ∙ sym keeps.standing;
      held_is = s.held_is ∙ sym keeps.held;
    }

pub returns-then-count-ne0-clause-freed : goal.returns-then-count-ne0-clause-freed
returns-then-count-ne0-clause-freed c =
    let h = block_slot c.self.inside c.args.self.now c.args.b c.index.result.now c.self.view_is c.self.invariant c.requires c.index.ensures in
    (λ t. absurd (search (rules, t)), λ e. absurd (c.if-count-ne0.true (omega (arith, h.counted))))

pub returns-then-count-ne0-clause-after : goal.returns-then-count-ne0-clause-after
returns-then-count-ne0-clause-after c =
    let h = block_slot c.self.inside c.args.self.now c.args.b c.index.result.now c.self.view_is c.self.invariant c.requires c.index.ensures in
    let new : Slot = record { size = c.index.result.now.size; count = c.index.result.now.count - 1 } in
    ledger-recount c.self.inside c.args.b new h.inside (ap (λ (t : Slot). t.size) h.is) h.some
    ∙ ap (λ n. with_refs c.args.b (n - 1) (ledger_of c.self.inside)) h.counted ∙ ap (with_refs c.args.b (refs c.args.self.now c.args.b - 1)) c.self.view_is

pub overflow_sub-self : goal.overflow_sub-self
overflow_sub-self c =
    let h = block_slot c.self.inside c.args.self.now c.args.b c.index.result.now c.self.view_is c.self.invariant c.requires c.index.ensures in
    let was : (get_or c.self.inside.slots.items c.args.b empty_slot).count ≢ 0 =
    λ e. absurd (omega (arith, h.counted, c.requires, ap (λ (t : Slot). t.count) h.is)) in
    omega (arith, held_part c.self.inside.slots.items c.args.b h.inside was, ap (λ (t : Slot). t.size) h.is, c.self.invariant.held_is, c.from.ensures)

pub insert-requires-clause-room : goal.insert-requires-clause-room
insert-requires-clause-room c =
    let h = block_slot c.self.inside c.args.self.now c.args.b c.index.result.now c.self.view_is c.self.invariant c.requires c.index.ensures in
    let was : (get_or c.self.inside.slots.items c.args.b empty_slot).count ≢ 0 =
    λ e. absurd (omega (arith, h.counted, c.requires, ap (λ (t : Slot). t.count) h.is)) in
    free_room_for c.self.inside c.args.b c.self.invariant h.inside (rw (← h.is) h.some) was

pub insert-requires-clause-absent : goal.insert-requires-clause-absent
insert-requires-clause-absent c =
    let h = block_slot c.self.inside c.args.self.now c.args.b c.index.result.now c.self.view_is c.self.invariant c.requires c.index.ensures in
    let was : (get_or c.self.inside.slots.items c.args.b empty_slot).count ≢ 0 =
    λ e. absurd (omega (arith, h.counted, c.requires, ap (λ (t : Slot). t.count) h.is)) in
    rw c.key_of.ensures (free_absent c.self.inside c.args.b c.index.result.now.size c.self.invariant h.inside (held_shut _ was))

pub invariant_of-self-2 : goal.invariant_of-self-2
invariant_of-self-2 c =
    let s = c.self.invariant in
    let h = block_slot c.self.inside c.args.self.now c.args.b c.index.result.now c.self.view_is c.self.invariant c.requires c.index.ensures in
    let new : Slot = record { size = c.index.result.now.size; count = c.index.result.now.count - 1 } in
    let was : (get_or c.self.inside.slots.items c.args.b empty_slot).count ≢ 0 =
    λ e. absurd (omega (arith, h.counted, c.requires, ap (λ (t : Slot). t.count) h.is)) in
    let frees = free_frees c.self.inside.slots.items c.args.b new h.inside (ap (λ (t : Slot). t.size) h.is) h.some was c.if-count-ne0.false in
    record {
      slots_fit = omega (arith, s.slots_fit, frees.long);
      slots_room = s.slots_room;
      room_fits = s.room_fits;
      in_range = All-set c.self.inside.slots.items c.args.b new s.in_range (h.range, λ e. absurd (h.some e));
      free_keys = ap (λ (k : Keys). k.keys) c.insert.ensures ∙ ap (λ key. with_key key c.self.inside.free.keys) c.key_of.ensures
          ∙ ap (with_key (key_of new.size c.args.b)) s.free_keys ∙ sym frees.free;
      free_room = omega (arith, ap (λ (k : Keys). k.room) c.insert.ensures, s.free_room);
      unused_keys = s.unused_keys ∙ sym frees.unused;
      unused_room = s.unused_room;
      unnamed_fit = omega (arith, s.unnamed_fit, frees.known);
      unnamed_room = s.unnamed_room;
      standing_is = s.standing_is ∙ sym frees.standing;
      held_is = omega (arith, s.held_is, frees.held, c.from.ensures);
    }

pub returns-clause-freed : goal.returns-clause-freed
returns-clause-freed c =
    let h = block_slot c.self.inside c.args.self.now c.args.b c.index.result.now c.self.view_is c.self.invariant c.requires c.index.ensures in
    (λ t. omega (arith, h.counted, c.if-count-ne0.false, c.requires), λ e. search rules)

pub returns-clause-after : goal.returns-clause-after
returns-clause-after c =
    let h = block_slot c.self.inside c.args.self.now c.args.b c.index.result.now c.self.view_is c.self.invariant c.requires c.index.ensures in
    let new : Slot = record { size = c.index.result.now.size; count = c.index.result.now.count - 1 } in
    ledger-recount c.self.inside c.args.b new h.inside (ap (λ (t : Slot). t.size) h.is) h.some
    ∙ ap (λ n. with_refs c.args.b (n - 1) (ledger_of c.self.inside)) h.counted ∙ ap (with_refs c.args.b (refs c.args.self.now c.args.b - 1)) c.self.view_is
