-- What a pool's tables still keep once a slot has changed.
use Rattle.std.proofs.Common.{◌≡◌, ◌≢◌, ℕ, zero, suc, ◌+◌, ◌^◌, ◌<◌, ◌≤◌, true, false, eqb, List, [], ◌∷◌, ◌++◌, length, get_or, set, sum_by, refl, ap, sym}
use Rattle.std.proofs.Common.{◌∙◌, inl, inr, arith, length-set}
use Rattle.std.specs.List.{AllByRecursion}
use Rattle.std.proofs.lemmas.Bool.{eq-eqb, ne_eqb, cases_Bool}
use Rattle.std.proofs.lemmas.List.{length-map}
use Rattle.std.proofs.lemmas.List.Sums.{sum_by-set, get_or-le-sum_by}
use Rattle.pool_ledger.specs.Ledger.{Ledger, refs, with_refs, recounted}
use Rattle.pool_ledger.specs.Inside.{known_from, unused_from, free_from, is_open, key_of, empty_slot, held_bytes, ledger_of, IsSound}
use Rattle.pool_ledger.specs.declared.pools.Slot.{Slot}
use Rattle.pool_ledger.specs.declared.pools.Pool.TheInside.{Inside}
use Rattle.pool_ledger.proofs.Bridges.{InRange, count_of-known_from, sum_by-size-le, held_bytes-le-size}
use Rattle.pool_ledger.specs.Keys.{with_key}
use Rattle.pool_ledger.proofs.SlotLists.{known_from-recount, unused_from-recount, free_from-same, free_from-open, length-free_from_held, absent-free_from}

pub All-set : (ss : List Slot) (i : ℕ) (s : Slot) → AllByRecursion InRange ss → InRange s → AllByRecursion InRange (set ss i s)
All-set [] i s a h = tt
All-set (x ∷ ss) zero s a h = (h, a.1)
All-set (x ∷ ss) (suc i) s a h = (a.0, All-set ss i s a.1 h)

pub All-at : (ss : List Slot) (i : ℕ) (d : Slot) → AllByRecursion InRange ss → i < length ss → InRange (get_or ss i d)
All-at [] i d a h = absurd (omega arith)
All-at (x ∷ ss) zero d a h = a.0
All-at (x ∷ ss) (suc i) d a h = All-at ss i d a.1 (omega arith)

pub All-push : (ss : List Slot) (s : Slot) → AllByRecursion InRange ss → InRange s → AllByRecursion InRange (ss ++ s ∷ [])
All-push [] s a h = (h, tt)
All-push (x ∷ ss) s a h = (a.0, All-push ss s a.1 h)

-- within a list the default does not matter
pub get_or-any : (ss : List Slot) (i : ℕ) (d e : Slot) → i < length ss → get_or ss i d ≡ get_or ss i e
get_or-any [] i d e h = absurd (omega arith)
get_or-any (x ∷ ss) zero d e h = refl
get_or-any (x ∷ ss) (suc i) d e h = get_or-any ss i d e (omega arith)

counted_inside : (ss : List Slot) (b : ℕ) → 0 < (get_or ss b empty_slot).count → b < length ss
counted_inside [] b h = absurd (omega arith)
counted_inside (x ∷ ss) zero h = omega arith
counted_inside (x ∷ ss) (suc b) h = omega (arith, counted_inside ss b h)

-- the slot of a block that has a hold
pub record HasHold (ss : List Slot) (b count : ℕ) : Type 0 where
  pub inside : b < length ss
  pub counted : (get_or ss b empty_slot).count ≡ count
  pub some : (get_or ss b empty_slot).size ≢ 0

pub has_hold : (a : Inside) (b : ℕ) → IsSound a → 0 < refs (ledger_of a) b → HasHold a.slots.items b (refs (ledger_of a) b)
has_hold a b s h =
    let ss = a.slots.items in
    let at = count_of-known_from 0 b b ss (omega arith) s.in_range in
    let inside = counted_inside ss b (omega arith) in
    let range = All-at ss b empty_slot s.in_range inside in
    record { inside = inside; counted = sym at; some = λ none. absurd (omega (arith, range.1 none)) }

pub has_hold_at : (a : Inside) (p : Ledger) (b : ℕ) → ledger_of a ≡ p → IsSound a → 0 < refs p b → HasHold a.slots.items b (refs p b)
has_hold_at a p b e s h =
    let back : refs p b ≡ refs (ledger_of a) b = ap (λ (q : Ledger). refs q b) (sym e) in
    rw back (has_hold a b s (rw (← back) h))

-- a slot with a hold is not free
pub held_shut : (s : Slot) → s.count ≢ 0 → is_open s ≡ false
held_shut s h = elim (cases_Bool (eqb s.size 0)) [ inl t ↦ rw t | inr f ↦ rw (f, ne_eqb s.count 0 h) ]

pub free_open : (s : Slot) → s.size ≢ 0 → s.count ≡ 0 → is_open s ≡ true
free_open s some none = rw (ne_eqb s.size 0 some, eq-eqb s.count 0 none)

pub empty_shut : (s : Slot) → s.size ≡ 0 → is_open s ≡ false
empty_shut s none = rw (eq-eqb s.size 0 none)

-- the sum of bytes after a change of a slot
pub sum_by-slot : (f : Slot → ℕ) (ss : List Slot) (b : ℕ) (s : Slot) → b < length ss → sum_by f (set ss b s) + f (get_or ss b empty_slot) ≡ sum_by f ss + f s
sum_by-slot f ss b s h = sum_by-set f ss b s empty_slot h

pub sum_by-slot_same : (f : Slot → ℕ) (ss : List Slot) (b : ℕ) (s : Slot) → b < length ss → f s ≡ f (get_or ss b empty_slot)
    → sum_by f (set ss b s) ≡ sum_by f ss
sum_by-slot_same f ss b s h e = omega (arith, sum_by-slot f ss b s h)

-- the bytes of all blocks are far below 64 bits
pub standing_fits : (ss : List Slot) (room : ℕ) → AllByRecursion InRange ss → length ss ≤ room → room < 2 ^ 32
    → sum_by (λ (s : Slot). s.size) ss + 2 ^ 32 ≤ 2 ^ 64
standing_fits ss room a h r = omega (arith, sum_by-size-le ss a)

pub held_fits : (ss : List Slot) (room : ℕ) → AllByRecursion InRange ss → length ss ≤ room → room < 2 ^ 32 → sum_by held_bytes ss + 2 ^ 32 ≤ 2 ^ 64
held_fits ss room a h r = omega (arith, standing_fits ss room a h r, held_bytes-le-size ss)

-- what a change of the count of a held block leaves as it was
pub record KeepsLists (ss ts : List Slot) : Type 0 where
  pub long : length ts ≡ length ss
  pub free : free_from 0 ts ≡ free_from 0 ss
  pub unused : unused_from 0 ts ≡ unused_from 0 ss
  pub known : length (known_from 0 ts) ≡ length (known_from 0 ss)
  pub standing : sum_by (λ (s : Slot). s.size) ts ≡ sum_by (λ (s : Slot). s.size) ss
  pub held : sum_by held_bytes ts ≡ sum_by held_bytes ss

pub recount_keeps : (ss : List Slot) (b : ℕ) (s : Slot) → b < length ss → s.size ≡ (get_or ss b empty_slot).size → s.size ≢ 0
    → (get_or ss b empty_slot).count ≢ 0 → s.count ≢ 0 → KeepsLists ss (set ss b s)
recount_keeps ss b s h same some was now =
    record {
      long = length-set ss b s;
      free = free_from-same 0 b ss empty_slot s (held_shut _ was) (held_shut s now);
      unused = unused_from-recount 0 b ss empty_slot s same;
      known = ap length (known_from-recount 0 b b ss empty_slot s (omega arith) h same some) ∙ length-map (known_from 0 ss) (recounted b s.count);
      standing = sum_by-slot_same (λ (x : Slot). x.size) ss b s h same;
      held = sum_by-slot_same held_bytes ss b s h (rw (ne_eqb s.count 0 now, ne_eqb (get_or ss b empty_slot).count 0 was) same);
    }

-- the slot that an index gave
pub slot_is : (ss : List Slot) (b : ℕ) (x : Slot) → b < length ss → x ≡ get_or ss b x → x ≡ get_or ss b empty_slot
slot_is ss b x h e = e ∙ get_or-any ss b x empty_slot h

-- the ledger of tables in which this block has so many holds
pub ledger-recount : (a : Inside) (b : ℕ) (s : Slot) → b < length a.slots.items → s.size ≡ (get_or a.slots.items b empty_slot).size → s.size ≢ 0
    → record { limit = a.limit; room = a.room; known = known_from 0 (set a.slots.items b s); unnamed = a.unnamed.items } ≡ with_refs b s.count (ledger_of a)
ledger-recount a b s h same some =
    ap (λ ks. record { limit = a.limit; room = a.room; known = ks; unnamed = a.unnamed.items })
    (known_from-recount 0 b b a.slots.items empty_slot s (omega arith) h same some)

-- the slot that was read of a block with a hold
pub record BlockSlot (ss : List Slot) (b : ℕ) (x : Slot) (count : ℕ) : Type 0 where
  pub inside : b < length ss
  pub is : x ≡ get_or ss b empty_slot
  pub counted : x.count ≡ count
  pub some : x.size ≢ 0
  pub range : x.size < 2 ^ 32

pub block_slot : (a : Inside) (p : Ledger) (b : ℕ) (x : Slot) → ledger_of a ≡ p → IsSound a → 0 < refs p b → x ≡ get_or a.slots.items b x
    → BlockSlot a.slots.items b x (refs p b)
block_slot a p b x e s h read =
    let k = has_hold_at a p b e s h in
    let is = slot_is a.slots.items b x k.inside read in
    let range = All-at a.slots.items b empty_slot s.in_range k.inside in
    record {
      inside = k.inside;
      is = is;
      counted = ap (λ (t : Slot). t.count) is ∙ k.counted;
      some = λ none. k.some (sym (ap (λ (t : Slot). t.size) is) ∙ none);
      range = rw is range.0;
    }

-- what a block that becomes free leaves
pub record FreesBlock (ss ts : List Slot) (b size : ℕ) : Type 0 where
  pub long : length ts ≡ length ss
  pub free : free_from 0 ts ≡ with_key (key_of size b) (free_from 0 ss)
  pub unused : unused_from 0 ts ≡ unused_from 0 ss
  pub known : length (known_from 0 ts) ≡ length (known_from 0 ss)
  pub standing : sum_by (λ (s : Slot). s.size) ts ≡ sum_by (λ (s : Slot). s.size) ss
  pub held : sum_by held_bytes ts + size ≡ sum_by held_bytes ss

pub free_frees : (ss : List Slot) (b : ℕ) (s : Slot) → b < length ss → s.size ≡ (get_or ss b empty_slot).size → s.size ≢ 0
    → (get_or ss b empty_slot).count ≢ 0 → s.count ≡ 0 → FreesBlock ss (set ss b s) b s.size
free_frees ss b s h same some was now =
    let old = get_or ss b empty_slot in
    let bytes : held_bytes old ≡ s.size = rw (ne_eqb old.count 0 was) (sym same) in
    let none : held_bytes s ≡ 0 = rw (eq-eqb s.count 0 now) in
    record {
      long = length-set ss b s;
      free = free_from-open 0 b b ss empty_slot s (omega arith) h (held_shut _ was) (free_open s some now);
      unused = unused_from-recount 0 b ss empty_slot s same;
      known = ap length (known_from-recount 0 b b ss empty_slot s (omega arith) h same some) ∙ length-map (known_from 0 ss) (recounted b s.count);
      standing = sum_by-slot_same (λ (x : Slot). x.size) ss b s h same;
      held = omega (arith, sum_by-slot held_bytes ss b s h, bytes, none);
    }

-- a held block's key isn't among the free ones, and there is room for it
pub free_room_for : (a : Inside) (b : ℕ) → IsSound a → b < length a.slots.items → (get_or a.slots.items b empty_slot).size ≢ 0
    → (get_or a.slots.items b empty_slot).count ≢ 0 → length a.free.keys < a.free.room
free_room_for a b s h some was =
    let less = length-free_from_held 0 b a.slots.items empty_slot h some (held_shut _ was) in
    let same = ap length s.free_keys in
    omega (arith, s.unnamed_fit, s.free_room)

pub free_absent : (a : Inside) (b n : ℕ) → IsSound a → b < length a.slots.items → is_open (get_or a.slots.items b empty_slot) ≡ false
    → AllByRecursion (λ k. k ≢ key_of n b) a.free.keys
free_absent a b n s h shut =
    rw s.free_keys (absent-free_from 0 b b n a.slots.items empty_slot (omega arith) (omega (arith, s.slots_fit, s.room_fits))
    (omega (arith, s.slots_fit, s.room_fits)) shut)

pub get_or-past : (ss : List Slot) (i : ℕ) → length ss ≤ i → get_or ss i empty_slot ≡ empty_slot
get_or-past [] i h = refl
get_or-past (x ∷ ss) zero h = absurd (omega arith)
get_or-past (x ∷ ss) (suc i) h = get_or-past ss i (omega arith)

-- a held block's bytes are part of what is held
pub held_part : (ss : List Slot) (b : ℕ) → b < length ss → (get_or ss b empty_slot).count ≢ 0 → (get_or ss b empty_slot).size ≤ sum_by held_bytes ss
held_part ss b h was =
    let bytes : held_bytes (get_or ss b empty_slot) ≡ (get_or ss b empty_slot).size = rw (ne_eqb (get_or ss b empty_slot).count 0 was) in
    omega (arith, get_or-le-sum_by held_bytes ss b empty_slot h, bytes)
