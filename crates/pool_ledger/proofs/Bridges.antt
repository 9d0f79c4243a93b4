-- What the slots say of the pool's ledger.
use Rattle.std.proofs.Common.{◌≡◌, ℕ, zero, suc, ◌+◌, ◌*◌, ◌/◌, ◌%◌, ◌^◌, ◌<◌, ◌≤◌, Bool, true, eqb, ltb, List, [], ◌∷◌, length, get_or, map, sum_by, refl}
use Rattle.std.proofs.Common.{ap, ◌∙◌, inl, inr, arith}
use Rattle.std.specs.List.{AllByRecursion, filter}
use Rattle.std.proofs.lemmas.Bool.{lt-ltb, le-ltb, eq-eqb, ne_eqb, eqb-true, eqb-false, cases_lt, cases_eq, cases_Bool, or_right}
use Rattle.std.proofs.lemmas.List.Sums.{sum_by-cons}
use Rattle.pool_ledger.specs.Keys.{with_key}
use Rattle.pool_ledger.specs.Grants.{Block, sizes, comes_first, placed, free_in_order}
use Rattle.pool_ledger.specs.Ledger.{Known, block_of, count_of}
use Rattle.pool_ledger.specs.Inside.{known_from, free_from, key_of, block_at, empty_slot, held_bytes}
use Rattle.pool_ledger.specs.declared.pools.Slot.{Slot}

-- a block that isn't there has no holds
abbrev pub InRange : Slot → Type 0
InRange s = (s.size < 2 ^ 32) × (s.size ≡ 0 → s.count ≡ 0)

-- COUNTS

count_of-above : (i b : ℕ) (ss : List Slot) → b < i → count_of (known_from i ss) b ≡ 0
count_of-above i b [] h = refl
count_of-above i b (s ∷ ss) h =
    let rest = count_of-above (i + 1) b ss (omega arith) in
    elim (cases_Bool (eqb s.size 0)) [ inl t ↦ rw t rest | inr f ↦ rw (f, ne_eqb i b (λ q. omega arith)) rest ]

pub count_of-known_from : (i j b : ℕ) (ss : List Slot) → b ≡ i + j → AllByRecursion InRange ss → count_of (known_from i ss) b ≡ (get_or ss j empty_slot).count
count_of-known_from i j b [] e ok = refl
count_of-known_from i zero b (s ∷ ss) e ok =
    elim (cases_Bool (eqb s.size 0)) [
      | inl t ↦ rw (t, ok.0.1 (eqb-true s.size 0 t)) (count_of-above (i + 1) b ss (omega arith))
      | inr f ↦ rw (f, eq-eqb i b (omega arith))
    ]
count_of-known_from i (suc j) b (s ∷ ss) e ok =
    let rest = count_of-known_from (i + 1) j b ss (omega arith) ok.1 in
    elim (cases_Bool (eqb s.size 0)) [ inl t ↦ rw t rest | inr f ↦ rw (f, ne_eqb i b (λ q. omega arith)) rest ]

-- FREE BLOCKS

pub number-key_of : (size i : ℕ) → i < 2 ^ 32 → key_of size i % 4294967296 ≡ i
number-key_of size i h = omega arith

pub size-key_of : (size i : ℕ) → i < 2 ^ 32 → key_of size i / 4294967296 ≡ size
size-key_of size i h = omega arith

pub block_at-key_of : (size i : ℕ) → i < 2 ^ 32 → block_at (key_of size i) ≡ record { number = i; size = size }
block_at-key_of size i h = rw (number-key_of size i h, size-key_of size i h)

-- keys are in the order of their blocks
pub comes_first-block_at : (c k : ℕ) → comes_first (block_at c) (block_at k) ≡ ltb c k
comes_first-block_at c k =
    elim (cases_lt c k) [
      | inl less ↦
          elim (cases_lt (c / 4294967296) (k / 4294967296)) [
            | inl smaller ↦ rw (lt-ltb c k less, lt-ltb _ _ smaller)
            | inr other ↦
                let same : c / 4294967296 ≡ k / 4294967296 = omega arith in
                let number : c % 4294967296 < k % 4294967296 = omega arith in
                rw (lt-ltb c k less, eq-eqb _ _ same, lt-ltb _ _ number) (or_right _ true refl)
          ]
      | inr more ↦
          let larger : k / 4294967296 ≤ c / 4294967296 = omega arith in
          elim (cases_eq (c / 4294967296) (k / 4294967296)) [
            | inl same ↦
                let number : k % 4294967296 ≤ c % 4294967296 = omega arith in
                rw (le-ltb c k more, le-ltb _ _ larger, eq-eqb _ _ same, le-ltb _ _ number)
            | inr differ ↦ rw (le-ltb c k more, le-ltb _ _ larger, ne_eqb _ _ differ)
          ]
    ]

pub placed-block_at : (k : ℕ) (ks : List ℕ) → placed (block_at k) (map block_at ks) ≡ map block_at (with_key k ks)
placed-block_at k [] = refl
placed-block_at k (c ∷ ks) =
    elim (cases_Bool (ltb c k)) [
      | inl t ↦ rw (comes_first-block_at c k, t) (ap (λ bs. block_at c ∷ bs) (placed-block_at k ks))
      | inr f ↦ rw (comes_first-block_at c k, f)
    ]

-- where this test is the one of each slot
pub free_in_order-is : (i : ℕ) (ss : List Slot) (is_free : ℕ → Bool) → i + length ss ≤ 2 ^ 32
    → ((j : ℕ) → j < length ss → is_free (i + j) ≡ eqb (get_or ss j empty_slot).count 0)
    → free_in_order is_free (map block_of (known_from i ss)) ≡ map block_at (free_from i ss)
free_in_order-is i [] is_free fits each = refl
free_in_order-is i (s ∷ ss) is_free fits each =
    let later : (j : ℕ) → j < length ss → is_free ((i + 1) + j) ≡ eqb (get_or ss j empty_slot).count 0 =
    λ j h. let e : (i + 1) + j ≡ i + suc j = omega arith in ap is_free e ∙ each (suc j) (omega arith) in
    let rest = free_in_order-is (i + 1) ss is_free (omega arith) later in
    let zeroth : i ≡ i + 0 = omega arith in
    let here : is_free i ≡ eqb s.count 0 = ap is_free zeroth ∙ each 0 (omega arith) in
    elim (cases_Bool (eqb s.size 0)) [
      | inl t ↦ rw t rest
      | inr f ↦
          elim (cases_Bool (eqb s.count 0)) [
            | inl o ↦ rw (f, here, o, rest, ← block_at-key_of s.size i (omega arith)) (placed-block_at (key_of s.size i) (free_from (i + 1) ss))
            | inr c ↦ rw (f, here, c) rest
          ]
    ]

-- BYTES

pub sizes-known_from : (i : ℕ) (ss : List Slot) → sizes (map block_of (known_from i ss)) ≡ sum_by (λ (s : Slot). s.size) ss
sizes-known_from i [] = refl
sizes-known_from i (s ∷ ss) =
    let rest = sizes-known_from (i + 1) ss in
    elim (cases_Bool (eqb s.size 0)) [
      | inl t ↦ rw (t, sum_by-cons (λ (x : Slot). x.size) s ss, eqb-true s.size 0 t) (omega arith)
      | inr f ↦ rw (
        f,
        sum_by-cons (λ (x : Slot). x.size) s ss,
        sum_by-cons (λ (b : Block). b.size) (record { number = i; size = s.size }) (map block_of (known_from (i + 1) ss)),
      ) (omega arith)
    ]

abbrev held_of : List Known → ℕ
held_of ks = sum_by (λ (k : Known). k.size) (filter (λ k. ltb 0 k.count) ks)

pub held-known_from : (i : ℕ) (ss : List Slot) → AllByRecursion InRange ss → held_of (known_from i ss) ≡ sum_by held_bytes ss
held-known_from i [] ok = refl
held-known_from i (s ∷ ss) ok =
    let rest = held-known_from (i + 1) ss ok.1 in
    elim (cases_Bool (eqb s.size 0)) [
      | inl t ↦ rw (t, sum_by-cons held_bytes s ss, ok.0.1 (eqb-true s.size 0 t)) (omega arith)
      | inr f ↦
          elim (cases_Bool (eqb s.count 0)) [
            | inl o ↦
                let none : s.count ≤ 0 = omega (arith, eqb-true s.count 0 o) in
                rw (f, sum_by-cons held_bytes s ss, o, le-ltb 0 s.count none) (omega arith)
            | inr c ↦
                let some : 0 < s.count = omega (arith, eqb-false s.count 0 c) in
                rw (
                  f,
                  sum_by-cons held_bytes s ss,
                  c,
                  lt-ltb 0 s.count some,
                  sum_by-cons (λ (k : Known). k.size) (record { number = i; size = s.size; count = s.count })
                      (filter (λ k. ltb 0 k.count) (known_from (i + 1) ss)),
                ) (omega arith)
          ]
    ]

-- no sum of sizes passes 64 bits
pub sum_by-size-le : (ss : List Slot) → AllByRecursion InRange ss → sum_by (λ (s : Slot). s.size) ss ≤ length ss * 4294967295
sum_by-size-le [] ok = omega arith
sum_by-size-le (s ∷ ss) ok =
    let rest = sum_by-size-le ss ok.1 in
    let range = ok.0.0 in
    rw (sum_by-cons (λ (x : Slot). x.size) s ss) (omega arith)

pub held_bytes-le-size : (ss : List Slot) → sum_by held_bytes ss ≤ sum_by (λ (s : Slot). s.size) ss
held_bytes-le-size [] = omega arith
held_bytes-le-size (s ∷ ss) =
    let rest = held_bytes-le-size ss in
    elim (cases_Bool (eqb s.count 0)) [
      | inl o ↦ rw (sum_by-cons (λ (x : Slot). x.size) s ss, sum_by-cons held_bytes s ss, o) (omega arith)
      | inr c ↦ rw (sum_by-cons (λ (x : Slot). x.size) s ss, sum_by-cons held_bytes s ss, c) (omega arith)
    ]
