use Rattle.std.proofs.Common.{◌≡◌, ◌+◌, ◌%◌, ◌/◌, ◌++◌, ◌∷◌, [], length, length-append, take, drop, refl, ap, sym, ◌∙◌, subst, arith, rules}
use Rattle.std.proofs.lemmas.List.Sums.{get_or-le-sum_by}
use Rattle.pool_ledger.specs.Keys.{Keys, IsRising, with_key, without_key}
use Rattle.pool_ledger.specs.Ledger.{Ledger, without_blocks, largest_first}
use Rattle.pool_ledger.specs.Inside.{empty_slot, ledger_of, free_from}
use Rattle.pool_ledger.proofs.Sound.{All-set}
use Rattle.pool_ledger.proofs.Picks.{key-parts}
use Rattle.pool_ledger.proofs.SlotLists.{known_from-clear, absent-unused_from, length-known_from}
use Rattle.pool_ledger.proofs.Changes.{clear_gives, open_some, size_of}
use Rattle.pool_ledger.proofs.Walks.{largest, no_largest, largest_first-rest}
use Rattle.pool_ledger.proofs.pools.Pool.give_largest.Goals as goal

pub unreachable-requires : goal.unreachable-requires
unreachable-requires c =
    no_largest c.self.inside c.args.self.now c.self.view_is c.self.invariant c.requires (sym c.greatest_below.ensures.found ∙ c.in_default.is)

pub remove-requires : goal.remove-requires
remove-requires c =
    (largest c.self.inside c.in-Some.key c.self.invariant c.greatest_below.ensures.rising (sym c.greatest_below.ensures.found ∙ c.in-Some.is)).there

pub insert-requires-clause-room : goal.insert-requires-clause-room
insert-requires-clause-room c =
    let s = c.self.invariant in
    let l = largest c.self.inside c.in-Some.key s c.greatest_below.ensures.rising (sym c.greatest_below.ensures.found ∙ c.in-Some.is) in
    let gives = clear_gives c.self.inside.slots.items (c.in-Some.key % 4294967296) (c.in-Some.key / 4294967296) l.slot.inside l.slot.sized l.slot.shown
    (subst IsRising s.free_keys c.greatest_below.ensures.rising) in
    let same = ap length s.unused_keys in
    omega (arith, gives.known, length-known_from 0 c.self.inside.slots.items, s.slots_fit, s.unused_room)

pub insert-requires-clause-absent : goal.insert-requires-clause-absent
insert-requires-clause-absent c =
    let s = c.self.invariant in
    let l = largest c.self.inside c.in-Some.key s c.greatest_below.ensures.rising (sym c.greatest_below.ensures.found ∙ c.in-Some.is) in
    rw s.unused_keys (absent-unused_from 0 (c.in-Some.key % 4294967296) (c.in-Some.key % 4294967296) c.self.inside.slots.items empty_slot
    (omega arith) l.slot.inside (open_some _ l.slot.shown))

pub index_mut-requires : goal.index_mut-requires
index_mut-requires c =
    let l = largest c.self.inside c.in-Some.key c.self.invariant c.greatest_below.ensures.rising (sym c.greatest_below.ensures.found ∙ c.in-Some.is) in
    let i = l.slot.inside in
    search rules

pub overflow_sub-self : goal.overflow_sub-self
overflow_sub-self c =
    let l = largest c.self.inside c.in-Some.key c.self.invariant c.greatest_below.ensures.rising (sym c.greatest_below.ensures.found ∙ c.in-Some.is) in
    omega (
      arith,
      get_or-le-sum_by size_of c.self.inside.slots.items (c.in-Some.key % 4294967296) empty_slot l.slot.inside,
      l.slot.sized,
      c.self.invariant.standing_is,
    )

pub invariant_of-self : goal.invariant_of-self
invariant_of-self c =
    let s = c.self.invariant in
    let ss = c.self.inside.slots.items in
    let b = c.in-Some.key % 4294967296 in
    let size = c.in-Some.key / 4294967296 in
    let l = largest c.self.inside c.in-Some.key s c.greatest_below.ensures.rising (sym c.greatest_below.ensures.found ∙ c.in-Some.is) in
    let gives = clear_gives ss b size l.slot.inside l.slot.sized l.slot.shown (subst IsRising s.free_keys c.greatest_below.ensures.rising) in
    let longer : length c.push_back_reserved.new.self.items ≡ length c.self.inside.unnamed.items + 1 =
    rw (c.push_back_reserved.ensures.items, length-append) (omega arith) in
    record {
      slots_fit = omega (arith, s.slots_fit, gives.long);
      slots_room = s.slots_room;
      room_fits = s.room_fits;
      in_range = All-set ss b empty_slot s.in_range (omega arith, λ e. refl);
      free_keys = ap (λ (k : Keys). k.keys) c.remove.ensures.taken ∙ ap (without_key c.in-Some.key) s.free_keys
          ∙ ap (λ key. without_key key (free_from 0 ss)) (sym (key-parts c.in-Some.key)) ∙ sym gives.free;
      free_room = omega (arith, ap (λ (k : Keys). k.room) c.remove.ensures.taken, s.free_room);
      unused_keys = ap (λ (k : Keys). k.keys) c.insert.ensures ∙ ap (with_key b) s.unused_keys ∙ sym gives.unused;
      unused_room = omega (arith, ap (λ (k : Keys). k.room) c.insert.ensures, s.unused_room);
      unnamed_fit = omega (arith, s.unnamed_fit, longer, gives.known);
      unnamed_room = rw c.push_back_reserved.ensures.capacity s.unnamed_room;
      standing_is = omega (arith, s.standing_is, gives.standing);
      held_is = s.held_is ∙ sym gives.held;
    }

pub returns-clause-given : goal.returns-clause-given
returns-clause-given c =
    let s = c.self.invariant in
    let a = c.self.inside in
    let b = c.in-Some.key % 4294967296 in
    let size = c.in-Some.key / 4294967296 in
    let l = largest a c.in-Some.key s c.greatest_below.ensures.rising (sym c.greatest_below.ensures.found ∙ c.in-Some.is) in
    let cleared = known_from-clear 0 b b size a.slots.items empty_slot (omega arith) l.slot.inside refl in
    rw c.push_back_reserved.ensures.items
    (ap (λ ks. record { limit = a.limit; room = a.room; known = ks; unnamed = a.unnamed.items ++ b ∷ [] }) cleared
    ∙ ap (λ bs. without_blocks bs (ledger_of a)) (sym l.first) ∙ ap (λ p. without_blocks (take 1 (largest_first p)) p) c.self.view_is)

pub returns-clause-rest : goal.returns-clause-rest
returns-clause-rest c =
    let a = c.self.inside in
    let l = largest a c.in-Some.key c.self.invariant c.greatest_below.ensures.rising (sym c.greatest_below.ensures.found ∙ c.in-Some.is) in
    largest_first-rest a _ c.in-Some.key c.self.invariant (invariant_of-self c) c.greatest_below.ensures.rising l
    (ap (λ (k : Keys). k.keys) c.remove.ensures.taken)
    ∙ ap (λ p. drop 1 (largest_first p)) c.self.view_is

pub returns-clause-room : goal.returns-clause-room
returns-clause-room c =
    let s = c.self.invariant in
    let a = c.self.inside in
    let l = largest a c.in-Some.key s c.greatest_below.ensures.rising (sym c.greatest_below.ensures.found ∙ c.in-Some.is) in
    let gives = clear_gives a.slots.items (c.in-Some.key % 4294967296) (c.in-Some.key / 4294967296) l.slot.inside l.slot.sized l.slot.shown
    (subst IsRising s.free_keys c.greatest_below.ensures.rising) in
    let longer : length c.push_back_reserved.new.self.items ≡ length a.unnamed.items + 1 =
    rw (c.push_back_reserved.ensures.items, length-append) (omega arith) in
    let before = ap (λ (p : Ledger). length p.known + length p.unnamed) c.self.view_is in
    omega (arith, gives.known)
