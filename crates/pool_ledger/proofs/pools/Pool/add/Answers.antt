use Rattle.std.proofs.Common.{◌≡◌, ◌≢◌, ◌<◌, ◌^◌, ◌++◌, ◌∷◌, [], length, set, ap, sym, ◌∙◌, subst, arith, rules, length-set, length-append}
use Rattle.std.specs.List.{AllByRecursion}
use Rattle.pool_ledger.proofs.Bridges.{InRange}
use Rattle.pool_ledger.specs.Keys.{Keys, IsRising, without_key}
use Rattle.pool_ledger.specs.Inside.{empty_slot}
use Rattle.pool_ledger.proofs.Missing.{has_unused, full_at}
use Rattle.pool_ledger.proofs.SlotLists.{unused_from-fill, unused_from-push}
use Rattle.pool_ledger.proofs.Sound.{All-set, All-push, All-at, held_fits, standing_fits}
use Rattle.pool_ledger.proofs.Changes.{one_hold, set_fills, push_fills, Fills, new_slot_at, ledger-fill, room_left}
use Rattle.pool_ledger.proofs.pools.Pool.add.Goals as goal

pub overflow_add-self : goal.overflow_add-self
overflow_add-self c =
    let s = c.self.invariant in
    let fits = standing_fits c.self.inside.slots.items c.self.inside.room s.in_range s.slots_fit s.room_fits in
    let small : c.args.size < 2 ^ 32 = search rules in
    omega (arith, s.standing_is, c.from.ensures)

pub overflow_add-self-2 : goal.overflow_add-self-2
overflow_add-self-2 c =
    let s = c.self.invariant in
    let fits = held_fits c.self.inside.slots.items c.self.inside.room s.in_range s.slots_fit s.room_fits in
    let small : c.args.size < 2 ^ 32 = search rules in
    omega (arith, s.held_is, c.from-2.ensures)

pub push_reserved-requires : goal.push_reserved-requires
push_reserved-requires c =
    let s = c.self.invariant in
    let ss = c.self.inside.slots.items in
    let last : c.args.number ≡ length ss = search rules in
    let all = full_at c.self.inside c.args.self.now c.args.number c.self.view_is c.requires.number last in
    let room = room_left c.self.inside c.args.self.now c.self.view_is c.requires.room in
    let less : length ss < c.self.inside.room = omega arith in
    let reserved = s.slots_room in
    search rules

pub invariant_of-self : goal.invariant_of-self
invariant_of-self c =
    let s = c.self.invariant in
    let ss = c.self.inside.slots.items in
    let small : c.args.size < 2 ^ 32 = search rules in
    let last : c.args.number ≡ length ss = search rules in
    let all = full_at c.self.inside c.args.self.now c.args.number c.self.view_is c.requires.number last in
    let room = room_left c.self.inside c.args.self.now c.self.view_is c.requires.room in
    let fills = push_fills ss c.args.number c.args.size last c.requires.some in
    let items : c.push_reserved.new.self.items ≡ ss ++ one_hold c.args.size ∷ [] = c.push_reserved.ensures.items in
    record {
      slots_fit = rw (items, length-append) (omega arith);
      slots_room = rw c.push_reserved.ensures.capacity s.slots_room;
      room_fits = s.room_fits;
      in_range = subst (AllByRecursion InRange) (sym items) (All-push ss (one_hold c.args.size) s.in_range (small, λ e. absurd (c.requires.some e)));
      free_keys = rw items (s.free_keys ∙ sym fills.free);
      free_room = s.free_room;
      unused_keys = rw items (s.unused_keys ∙ sym (unused_from-push 0 ss (one_hold c.args.size) c.requires.some));
      unused_room = s.unused_room;
      unnamed_fit = rw items (omega (arith, fills.known));
      unnamed_room = s.unnamed_room;
      standing_is = rw items (omega (arith, s.standing_is, fills.standing, c.from.ensures));
      held_is = rw items (omega (arith, s.held_is, fills.held, c.from-2.ensures));
    }

pub returns-then-number-len : goal.returns-then-number-len
returns-then-number-len c =
    let ss = c.self.inside.slots.items in
    let last : c.args.number ≡ length ss = search rules in
    let fills = push_fills ss c.args.number c.args.size last c.requires.some in
    let mine : Fills ss c.push_reserved.new.self.items c.args.number c.args.size = rw c.push_reserved.ensures.items fills in
    ledger-fill c.self.inside c.args.self.now c.push_reserved.new.self.items c.args.number c.args.size c.self.view_is mine

pub remove-requires : goal.remove-requires
remove-requires c =
    let s = c.self.invariant in
    let ss = c.self.inside.slots.items in
    let new = new_slot_at c.self.inside c.args.self.now c.args.number c.self.view_is c.requires.number in
    let other : c.args.number ≢ length ss = search rules in
    let there = has_unused 0 c.args.number c.args.number ss (omega arith) (omega (arith, new.within)) new.none in
    rw (s.unused_keys, c.from-3.ensures) there

pub index_mut-requires : goal.index_mut-requires
index_mut-requires c =
    let ss = c.self.inside.slots.items in
    let new = new_slot_at c.self.inside c.args.self.now c.args.number c.self.view_is c.requires.number in
    let other : c.args.number ≢ length ss = search rules in
    let inside : c.args.number < length ss = omega (arith, new.within) in
    search rules

pub invariant_of-self-2 : goal.invariant_of-self-2
invariant_of-self-2 c =
    let s = c.self.invariant in
    let ss = c.self.inside.slots.items in
    let b = c.args.number in
    let small : c.args.size < 2 ^ 32 = search rules in
    let new = new_slot_at c.self.inside c.args.self.now b c.self.view_is c.requires.number in
    let other : b ≢ length ss = search rules in
    let inside : b < length ss = omega (arith, new.within) in
    let room = room_left c.self.inside c.args.self.now c.self.view_is c.requires.room in
    let free = (All-at ss b empty_slot s.in_range inside).1 new.none in
    let fills = set_fills ss b c.args.size inside new.none free c.requires.some in
    let filled = unused_from-fill 0 b b ss empty_slot (one_hold c.args.size) (omega arith) inside new.none c.requires.some
    (subst IsRising s.unused_keys c.remove.ensures.rising) in
    record {
      slots_fit = rw length-set s.slots_fit;
      slots_room = s.slots_room;
      room_fits = s.room_fits;
      in_range = All-set ss b (one_hold c.args.size) s.in_range (small, λ e. absurd (c.requires.some e));
      free_keys = s.free_keys ∙ sym fills.free;
      free_room = s.free_room;
      unused_keys = ap (λ (k : Keys). k.keys) c.remove.ensures.taken ∙ ap (λ key. without_key key c.self.inside.unused.keys) c.from-3.ensures
          ∙ ap (without_key b) s.unused_keys ∙ sym filled;
      unused_room = omega (arith, ap (λ (k : Keys). k.room) c.remove.ensures.taken, s.unused_room);
      unnamed_fit = omega (arith, fills.known);
      unnamed_room = s.unnamed_room;
      standing_is = omega (arith, s.standing_is, fills.standing, c.from.ensures);
      held_is = omega (arith, s.held_is, fills.held, c.from-2.ensures);
    }

pub returns : goal.returns
returns c =
    let s = c.self.invariant in
    let ss = c.self.inside.slots.items in
    let b = c.args.number in
    let new = new_slot_at c.self.inside c.args.self.now b c.self.view_is c.requires.number in
    let other : b ≢ length ss = search rules in
    let inside : b < length ss = omega (arith, new.within) in
    let free = (All-at ss b empty_slot s.in_range inside).1 new.none in
    ledger-fill c.self.inside c.args.self.now (set ss b (one_hold c.args.size)) b c.args.size c.self.view_is
    (set_fills ss b c.args.size inside new.none free c.requires.some)
