-- The free blocks by their keys, from either end.
use Rattle.std.proofs.Common.{◌≡◌, ℕ, suc, ◌+◌, ◌*◌, ◌/◌, ◌%◌, ◌^◌, ◌<◌, ◌≤◌, Bool, true, ◌&&◌, eqb, ltb, leb, List, [], ◌∷◌, ◌++◌, length, get_or, map}
use Rattle.std.proofs.Common.{reverse, Some, refl, ap, sym, ◌∙◌, subst, ◌⊎◌, inl, inr, arith}
use Rattle.std.specs.List.{find, list_any}
use Rattle.std.specs.Option.{option_map}
use Rattle.std.proofs.lemmas.Bool.{le-leb, lt-leb, eq-eqb, eqb-true, cases_lt, cases_Bool, or_cases, or_left, or_right, and_from, and_parts}
use Rattle.std.proofs.lemmas.List.{reverse-append}
use Rattle.pool_ledger.specs.Keys.{with_key, least_from}
use Rattle.pool_ledger.specs.Grants.{Block, free_in_order, smallest_fit}
use Rattle.pool_ledger.specs.Ledger.{Ledger, is_free, blocks, largest_first, has_block}
use Rattle.pool_ledger.specs.Inside.{free_from, is_open, key_of, block_at, empty_slot, ledger_of, IsSound}
use Rattle.pool_ledger.specs.declared.pools.Slot.{Slot}
use Rattle.pool_ledger.specs.declared.pools.Pool.TheInside.{Inside}
use Rattle.pool_ledger.proofs.Bridges.{free_in_order-is, count_of-known_from}
use Rattle.pool_ledger.proofs.KeyPlaces.{reverse-cons}

-- THE LISTS

map-append : (f : ℕ → Block) (xs ys : List ℕ) → map f (xs ++ ys) ≡ map f xs ++ map f ys
map-append f [] ys = refl
map-append f (x ∷ xs) ys = ap (λ bs. f x ∷ bs) (map-append f xs ys)

map-reverse : (f : ℕ → Block) (xs : List ℕ) → reverse (map f xs) ≡ map f (reverse xs)
map-reverse f [] = refl
map-reverse f (x ∷ xs) =
    reverse-append (f x ∷ []) (map f xs) ∙ ap (λ bs. bs ++ f x ∷ []) (map-reverse f xs) ∙ sym (map-append f (reverse xs) (x ∷ []))
    ∙ ap (map f) (sym (reverse-cons x xs))

pub free_in_order-keys : (a : Inside) → IsSound a → free_in_order (is_free (ledger_of a)) (blocks (ledger_of a)) ≡ map block_at a.free.keys
free_in_order-keys a s =
    let ss = a.slots.items in
    free_in_order-is 0 ss (is_free (ledger_of a)) (omega (arith, s.slots_fit, s.room_fits))
    (λ j h. let zeroth : 0 + j ≡ j = omega arith in ap (is_free (ledger_of a)) zeroth
    ∙ ap (λ n. eqb n 0) (count_of-known_from 0 j j ss (sym zeroth) s.in_range))
    ∙ ap (map block_at) (sym s.free_keys)

pub largest_first-keys : (a : Inside) → IsSound a → largest_first (ledger_of a) ≡ map block_at (reverse a.free.keys)
largest_first-keys a s = ap reverse (free_in_order-keys a s) ∙ map-reverse block_at a.free.keys

-- THE BLOCK THAT FITS

fits-key : (n k : ℕ) → leb n (k / 4294967296) ≡ leb (n * 4294967296) k
fits-key n k =
    elim (cases_lt (k / 4294967296) n) [
      | inl less ↦ rw (lt-leb n _ less, lt-leb (n * 4294967296) k (omega arith))
      | inr more ↦ rw (le-leb n _ more, le-leb (n * 4294967296) k (omega arith))
    ]

pub find-keys : (n : ℕ) (ks : List ℕ) → find (λ (b : Block). leb n b.size) (map block_at ks) ≡ option_map block_at (least_from (n * 4294967296) ks)
find-keys n [] = refl
find-keys n (k ∷ ks) =
    elim (cases_Bool (leb (n * 4294967296) k)) [
      | inl t ↦ rw (fits-key n k, t)
      | inr f ↦ rw (fits-key n k, f) (find-keys n ks)
    ]

abbrev pub has_key : ℕ → List ℕ → Bool
has_key x ks = list_any (λ k. eqb k x) ks

has_key-here : (x z : ℕ) (zs : List ℕ) → z ≡ x → has_key x (z ∷ zs) ≡ true
has_key-here x z zs e = rw (eq-eqb z x e)

has_key-later : (x z : ℕ) (zs : List ℕ) → has_key x zs ≡ true → has_key x (z ∷ zs) ≡ true
has_key-later x z zs h = or_right (eqb z x) (has_key x zs) h

has_key-cases : (x z : ℕ) (zs : List ℕ) → has_key x (z ∷ zs) ≡ true → (z ≡ x) ⊎ (has_key x zs ≡ true)
has_key-cases x z zs h = elim (or_cases (eqb z x) (has_key x zs) h) [ inl t ↦ inl (eqb-true z x t) | inr f ↦ inr f ]

-- what a search finds is there
pub found_any : (p : ℕ → Bool) (ks : List ℕ) (x : ℕ) → find p ks ≡ Some x → has_key x ks ≡ true
found_any p [] x e = absurd (cc)
found_any p (k ∷ ks) x e =
    elim (cases_Bool (p k)) [
      | inl t ↦ let same : Some k ≡ Some x = rw t at e in let is : k ≡ x = cc in has_key-here x k ks is
      | inr f ↦ has_key-later x k ks (found_any p ks x (rw f at e))
    ]

has_key-append : (x : ℕ) (xs ys : List ℕ) → has_key x (xs ++ ys) ≡ true → (has_key x xs ≡ true) ⊎ (has_key x ys ≡ true)
has_key-append x [] ys q = inr q
has_key-append x (z ∷ zs) ys q =
    elim (has_key-cases x z (zs ++ ys) q) [
      | inl t ↦ inl (has_key-here x z zs t)
      | inr r ↦ elim (has_key-append x zs ys r) [ inl a ↦ inl (has_key-later x z zs a) | inr b ↦ inr b ]
    ]

pub has_key-reverse : (x : ℕ) (ks : List ℕ) → has_key x (reverse ks) ≡ true → has_key x ks ≡ true
has_key-reverse x [] h = h
has_key-reverse x (k ∷ ks) h =
    elim (has_key-append x (reverse ks) (k ∷ []) (rw (reverse-cons k ks) at h)) [
      | inl front ↦ has_key-later x k ks (has_key-reverse x ks front)
      | inr back ↦ elim (has_key-cases x k [] back) [ inl t ↦ has_key-here x k ks t | inr f ↦ absurd (cc) ]
    ]

-- THE SLOT OF A KEY

has_key-with_key : (x k : ℕ) (ks : List ℕ) → has_key x (with_key k ks) ≡ true → (k ≡ x) ⊎ (has_key x ks ≡ true)
has_key-with_key x k [] h = has_key-cases x k [] h
has_key-with_key x k (j ∷ js) h =
    elim (cases_Bool (ltb j k)) [
      | inl t ↦
          elim (has_key-cases x j (with_key k js) (rw t at h)) [
            | inl here ↦ inr (has_key-here x j js here)
            | inr later ↦ elim (has_key-with_key x k js later) [ inl same ↦ inl same | inr rest ↦ inr (has_key-later x j js rest) ]
          ]
      | inr f ↦ has_key-cases x k (j ∷ js) (rw f at h)
    ]

-- the slot of a free block
pub record OpenSlot (ss : List Slot) (j size : ℕ) : Type 0 where
  pub inside : j < length ss
  pub shown : is_open (get_or ss j empty_slot) ≡ true
  pub sized : (get_or ss j empty_slot).size ≡ size

same_key : (m i n b : ℕ) → i < 2 ^ 32 → b < 2 ^ 32 → key_of m i ≡ key_of n b → (m ≡ n) × (i ≡ b)
same_key m i n b hi hb e = (omega arith, omega arith)

later : (i b n : ℕ) (s : Slot) (ss : List Slot) → (j : ℕ) × (b ≡ (i + 1) + j) × OpenSlot ss j n → (j : ℕ) × (b ≡ i + j) × OpenSlot (s ∷ ss) j n
later i b n s ss w = (suc w.0, omega (arith, w.1), record { inside = omega (arith, w.2.inside); shown = w.2.shown; sized = w.2.sized })

slot_of_key_from : (i b n : ℕ) (ss : List Slot) → i + length ss ≤ 2 ^ 32 → b < 2 ^ 32 → list_any (λ k. eqb k (key_of n b)) (free_from i ss) ≡ true
    → (j : ℕ) × (b ≡ i + j) × OpenSlot ss j n
slot_of_key_from i b n [] fits hb h = absurd (cc)
slot_of_key_from i b n (s ∷ ss) fits hb h =
    elim (cases_Bool (is_open s)) [
      | inl o ↦
          elim (has_key-with_key (key_of n b) (key_of s.size i) (free_from (i + 1) ss) (rw o at h)) [
            | inl same ↦ let parts = same_key s.size i n b (omega arith) hb same in
                (0, omega (arith, parts.1), record { inside = omega arith; shown = o; sized = parts.0 })
            | inr rest ↦ later i b n s ss (slot_of_key_from (i + 1) b n ss (omega arith) hb rest)
          ]
      | inr f ↦ later i b n s ss (slot_of_key_from (i + 1) b n ss (omega arith) hb (rw f at h))
    ]

pub slot_of_key : (b n : ℕ) (ss : List Slot) → length ss ≤ 2 ^ 32 → b < 2 ^ 32 → list_any (λ k. eqb k (key_of n b)) (free_from 0 ss) ≡ true → OpenSlot ss b n
slot_of_key b n ss fits hb h =
    let w = slot_of_key_from 0 b n ss (omega arith) hb h in
    let same : w.0 ≡ b = omega (arith, w.1) in
    subst (λ j. OpenSlot ss j n) same w.2

-- a key is that of its number and size
pub key-parts : (k : ℕ) → key_of (k / 4294967296) (k % 4294967296) ≡ k
key-parts k = omega arith

block_key : (n s k : ℕ) → n < 2 ^ 32 → (eqb (k % 4294967296) n && eqb (k / 4294967296) s) ≡ true → k ≡ key_of s n
block_key n s k h e = let parts = and_parts (eqb (k % 4294967296) n) (eqb (k / 4294967296) s) e in omega (arith, eqb-true _ _ parts.0, eqb-true _ _ parts.1)

-- a free block with this number and size has its key among the keys
pub has_key-block : (n s : ℕ) (ks : List ℕ) → n < 2 ^ 32 → has_block n s (map block_at ks) ≡ true → has_key (key_of s n) ks ≡ true
has_key-block n s [] h e = e
has_key-block n s (k ∷ ks) h e =
    elim (or_cases (eqb (k % 4294967296) n && eqb (k / 4294967296) s) (has_block n s (map block_at ks)) e) [
      | inl here ↦ has_key-here (key_of s n) k ks (block_key n s k h here)
      | inr later ↦ has_key-later (key_of s n) k ks (has_key-block n s ks h later)
    ]

pub found_block : (p : Block → Bool) (bs : List Block) (x : Block) → find p bs ≡ Some x → has_block x.number x.size bs ≡ true
found_block p [] x e = absurd (cc)
found_block p (b ∷ bs) x e =
    elim (cases_Bool (p b)) [
      | inl t ↦
          let same : Some b ≡ Some x = rw t at e in
          let is : b ≡ x = cc in
          or_left (eqb b.number x.number && eqb b.size x.size) (has_block x.number x.size bs)
          (and_from (eqb b.number x.number) (eqb b.size x.size) (eq-eqb b.number x.number (ap (λ (y : Block). y.number) is))
          (eq-eqb b.size x.size (ap (λ (y : Block). y.size) is)))
      | inr f ↦ or_right (eqb b.number x.number && eqb b.size x.size) (has_block x.number x.size bs) (found_block p bs x (rw f at e))
    ]

-- the free block's key is there
pub key_here : (a : Inside) (p : Ledger) (b n : ℕ) → ledger_of a ≡ p → IsSound a → b < 2 ^ 32 → has_block b n (free_in_order (is_free p) (blocks p)) ≡ true
    → has_key (key_of n b) a.free.keys ≡ true
key_here a p b n e s hb h =
    let mine = subst (λ q. has_block b n (free_in_order (is_free q) (blocks q)) ≡ true) (sym e) h in
    has_key-block b n a.free.keys hb (sym (ap (has_block b n) (free_in_order-keys a s)) ∙ mine)

pub slot_here : (a : Inside) (p : Ledger) (b n : ℕ) → ledger_of a ≡ p → IsSound a → b < 2 ^ 32
    → has_block b n (free_in_order (is_free p) (blocks p)) ≡ true → OpenSlot a.slots.items b n
slot_here a p b n e s hb h =
    slot_of_key b n a.slots.items (omega (arith, s.slots_fit, s.room_fits)) hb (sym (ap (has_key (key_of n b)) s.free_keys) ∙ key_here a p b n e s hb h)

-- the smallest free block that is large enough, by its key
pub smallest_fit-keys : (a : Inside) (p : Ledger) (n : ℕ) → ledger_of a ≡ p → IsSound a
    → smallest_fit n (is_free p) (blocks p) ≡ option_map block_at (least_from (n * 4294967296) a.free.keys)
smallest_fit-keys a p n e s =
    subst (λ q. smallest_fit n (is_free q) (blocks q) ≡ option_map block_at (least_from (n * 4294967296) a.free.keys)) e
    (ap (find (λ (b : Block). leb n b.size)) (free_in_order-keys a s) ∙ find-keys n a.free.keys)
