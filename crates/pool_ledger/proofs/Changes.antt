-- What a slot leaves that is granted again, given up or filled.
use Rattle.std.proofs.Common.{◌≡◌, ◌≢◌, ℕ, ◌+◌, ◌<◌, true, not, eqb, ltb, List, [], ◌∷◌, ◌++◌, length, get_or, set, sum_by, refl, ap, sym, ◌∙◌, subst, inl}
use Rattle.std.proofs.Common.{inr, arith, length-set}
use Rattle.std.proofs.lemmas.Bool.{eq-eqb, ne_eqb, eqb-true, cases_Bool, and_parts}
use Rattle.std.proofs.lemmas.List.{length-map}
use Rattle.std.proofs.lemmas.List.Sums.{sum_by_push}
use Rattle.pool_ledger.specs.Keys.{IsRising, with_key, without_key}
use Rattle.pool_ledger.specs.Ledger.{Known, Ledger, recounted, with_known, with_block, blocks}
use Rattle.pool_ledger.specs.Grants.{new_number}
use Rattle.pool_ledger.specs.Inside.{ledger_of, known_from, unused_from, free_from, is_open, key_of, empty_slot, held_bytes}
use Rattle.pool_ledger.specs.declared.pools.Slot.{Slot}
use Rattle.pool_ledger.specs.declared.pools.Pool.TheInside.{Inside}
use Rattle.pool_ledger.proofs.Missing.{NewSlot, new_slot}
use Rattle.pool_ledger.proofs.SlotLists.{known_from-recount, known_from-fill, known_from-push, unused_from-recount, unused_from-clear, free_from-same}
use Rattle.pool_ledger.proofs.SlotLists.{free_from-close, free_from-push, length-known_from}
use Rattle.pool_ledger.proofs.KeyLists.{length-with_key}
use Rattle.pool_ledger.proofs.Sound.{held_shut, empty_shut, sum_by-slot, sum_by-slot_same}

abbrev pub size_of : Slot → ℕ
size_of s = s.size

-- a free slot has a block without holds
pub open_some : (s : Slot) → is_open s ≡ true → s.size ≢ 0
open_some s o none = let shut = empty_shut s none in absurd (cc)

pub open_free : (s : Slot) → is_open s ≡ true → s.count ≡ 0
open_free s o = eqb-true s.count 0 (and_parts (not (eqb s.size 0)) (eqb s.count 0) o).1

-- a free block gets a hold
pub record TakesFree (ss ts : List Slot) (b size : ℕ) : Type 0 where
  pub long : length ts ≡ length ss
  pub free : free_from 0 ts ≡ without_key (key_of size b) (free_from 0 ss)
  pub unused : unused_from 0 ts ≡ unused_from 0 ss
  pub known : length (known_from 0 ts) ≡ length (known_from 0 ss)
  pub standing : sum_by size_of ts ≡ sum_by size_of ss
  pub held : sum_by held_bytes ts ≡ sum_by held_bytes ss + size

pub reuse_takes : (ss : List Slot) (b : ℕ) (s : Slot) → b < length ss → s.size ≡ (get_or ss b empty_slot).size → is_open (get_or ss b empty_slot) ≡ true
    → s.count ≢ 0 → IsRising (free_from 0 ss) → TakesFree ss (set ss b s) b s.size
reuse_takes ss b s h same was now rising =
    let old = get_or ss b empty_slot in
    let some : s.size ≢ 0 = λ e. open_some old was (sym same ∙ e) in
    let none : held_bytes old ≡ 0 = rw (eq-eqb old.count 0 (open_free old was)) in
    let bytes : held_bytes s ≡ s.size = rw (ne_eqb s.count 0 now) in
    record {
      long = length-set ss b s;
      free = free_from-close 0 b b ss empty_slot s (omega arith) h was (held_shut s now) rising
          ∙ ap (λ n. without_key (key_of n b) (free_from 0 ss)) (sym same);
      unused = unused_from-recount 0 b ss empty_slot s same;
      known = ap length (known_from-recount 0 b b ss empty_slot s (omega arith) h same some) ∙ length-map (known_from 0 ss) (recounted b s.count);
      standing = sum_by-slot_same size_of ss b s h same;
      held = omega (arith, sum_by-slot held_bytes ss b s h, none, bytes);
    }

-- a free block is given up
pub record GivesUp (ss ts : List Slot) (b size : ℕ) : Type 0 where
  pub long : length ts ≡ length ss
  pub free : free_from 0 ts ≡ without_key (key_of size b) (free_from 0 ss)
  pub unused : unused_from 0 ts ≡ with_key b (unused_from 0 ss)
  pub known : length (known_from 0 ts) + 1 ≡ length (known_from 0 ss)
  pub standing : sum_by size_of ts + size ≡ sum_by size_of ss
  pub held : sum_by held_bytes ts ≡ sum_by held_bytes ss

pub clear_gives : (ss : List Slot) (b size : ℕ) → b < length ss → (get_or ss b empty_slot).size ≡ size → is_open (get_or ss b empty_slot) ≡ true
    → IsRising (free_from 0 ss) → GivesUp ss (set ss b empty_slot) b size
clear_gives ss b size h same was rising =
    let old = get_or ss b empty_slot in
    let ts = set ss b empty_slot in
    let some = open_some old was in
    let unused = unused_from-clear 0 b b ss empty_slot empty_slot (omega arith) h some refl in
    let longer = ap length unused ∙ length-with_key b (unused_from 0 ss) in
    let none : held_bytes empty_slot ≡ held_bytes old = rw (eq-eqb old.count 0 (open_free old was)) in
    record {
      long = length-set ss b empty_slot;
      free = free_from-close 0 b b ss empty_slot empty_slot (omega arith) h was (empty_shut empty_slot refl) rising
          ∙ ap (λ n. without_key (key_of n b) (free_from 0 ss)) same;
      unused = unused;
      known = omega (arith, length-known_from 0 ss, length-known_from 0 ts, longer, length-set ss b empty_slot);
      standing = omega (arith, sum_by-slot size_of ss b empty_slot h, same);
      held = sum_by-slot_same held_bytes ss b empty_slot h none;
    }

-- a new block gets a number
pub record Fills (ss ts : List Slot) (b size : ℕ) : Type 0 where
  pub list : known_from 0 ts ≡ with_known (record { number = b; size = size; count = 1 }) (known_from 0 ss)
  pub free : free_from 0 ts ≡ free_from 0 ss
  pub known : length (known_from 0 ts) ≡ length (known_from 0 ss) + 1
  pub standing : sum_by size_of ts ≡ sum_by size_of ss + size
  pub held : sum_by held_bytes ts ≡ sum_by held_bytes ss + size

length-with_known : (k : Known) (ks : List Known) → length (with_known k ks) ≡ length ks + 1
length-with_known k [] = refl
length-with_known k (j ∷ ks) =
    elim (cases_Bool (ltb j.number k.number)) [ inl t ↦ rw t (omega (arith, length-with_known k ks)) | inr f ↦ rw f (omega arith) ]

abbrev pub one_hold : ℕ → Slot
one_hold size = record { size = size; count = 1 }

pub set_fills : (ss : List Slot) (b size : ℕ) → b < length ss → (get_or ss b empty_slot).size ≡ 0 → (get_or ss b empty_slot).count ≡ 0 → size ≢ 0
    → Fills ss (set ss b (one_hold size)) b size
set_fills ss b size h none free some =
    let old = get_or ss b empty_slot in
    let list = known_from-fill 0 b (record { number = b; size = size; count = 1 }) ss empty_slot (one_hold size) (omega arith) h none some refl refl in
    let zero_held : held_bytes old ≡ 0 = rw (eq-eqb old.count 0 free) in
    record {
      list = list;
      free = free_from-same 0 b ss empty_slot (one_hold size) (empty_shut old none) (held_shut (one_hold size) (λ e. absurd (omega arith)));
      known = ap length list ∙ length-with_known _ (known_from 0 ss);
      standing = omega (arith, sum_by-slot size_of ss b (one_hold size) h, none);
      held = omega (arith, sum_by-slot held_bytes ss b (one_hold size) h, zero_held);
    }

pub push_fills : (ss : List Slot) (b size : ℕ) → b ≡ length ss → size ≢ 0 → Fills ss (ss ++ one_hold size ∷ []) b size
push_fills ss b size e some =
    let list = known_from-push 0 (record { number = b; size = size; count = 1 }) ss (one_hold size) (omega arith) some refl refl in
    record {
      list = list;
      free = free_from-push 0 ss (one_hold size) (held_shut (one_hold size) (λ q. absurd (omega arith)));
      known = ap length list ∙ length-with_known _ (known_from 0 ss);
      standing = sum_by_push size_of ss (one_hold size);
      held = sum_by_push held_bytes ss (one_hold size);
    }

pub new_slot_at : (a : Inside) (p : Ledger) (b : ℕ) → ledger_of a ≡ p → b ≡ new_number (blocks p) → NewSlot a.slots.items b
new_slot_at a p b e h = new_slot a.slots.items b (h ∙ ap (λ q. new_number (blocks q)) (sym e))

-- the ledger of tables in which this number has a new block
pub ledger-fill : (a : Inside) (p : Ledger) (ts : List Slot) (b size : ℕ) → ledger_of a ≡ p → Fills a.slots.items ts b size
    → record { limit = a.limit; room = a.room; known = known_from 0 ts; unnamed = a.unnamed.items } ≡ with_block b size p
ledger-fill a p ts b size e f =
    ap (λ ks. record { limit = a.limit; room = a.room; known = ks; unnamed = a.unnamed.items }) f.list ∙ ap (with_block b size) e

-- the room that the new block needs
pub room_left : (a : Inside) (p : Ledger) → ledger_of a ≡ p → length p.known + length p.unnamed < p.room
    → length (known_from 0 a.slots.items) + length a.unnamed.items < a.room
room_left a p e h = subst (λ (q : Ledger). length q.known + length q.unnamed < q.room) (sym e) h
