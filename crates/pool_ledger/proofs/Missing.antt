-- The least number that names no block.
use Rattle.std.proofs.Common.{◌≡◌, ◌≢◌, ℕ, zero, suc, ◌+◌, ◌<◌, ◌≤◌, Bool, true, false, not, ◌&&◌, ◌||◌, cond, eqb, List, [], ◌∷◌, length, get_or, map, min}
use Rattle.std.proofs.Common.{unwrap_or, refl, ap, sym, ◌∙◌, inl, inr, arith}
use Rattle.std.specs.List.{list_any}
use Rattle.std.proofs.lemmas.Bool.{le-leb, eq-eqb, ne_eqb, eqb-true, eqb-false, cases_lt, cases_Bool, or_cases, or_right}
use Rattle.pool_ledger.specs.Keys.{least_from}
use Rattle.pool_ledger.specs.Grants.{Block, has_number, above, missing_from, least_missing, new_number}
use Rattle.pool_ledger.specs.Ledger.{Ledger, blocks, block_of}
use Rattle.pool_ledger.specs.Inside.{known_from, unused_from, empty_slot, ledger_of}
use Rattle.pool_ledger.specs.declared.pools.Pool.TheInside.{Inside}
use Rattle.pool_ledger.specs.declared.pools.Slot.{Slot}

-- m is the least number at which the test is false
pub record IsLeastFalse (test : ℕ → Bool) (m : ℕ) : Type 0 where
  pub missing : test m ≡ false
  pub below : (k : ℕ) → k < m → test k ≡ true

abbrev pub is_in : List ℕ → ℕ → Bool
is_in ks k = list_any (λ j. eqb j k) ks

below_above : (k : ℕ) (ks : List ℕ) → is_in ks k ≡ true → k < above ks
below_above k [] h = absurd (cc)
below_above k (j ∷ js) h =
    elim (or_cases (eqb j k) (is_in js k) h) [
      | inl same ↦ omega (arith, eqb-true j k same)
      | inr other ↦ omega (arith, below_above k js other)
    ]

missing_from-is : (steps k m : ℕ) (ks : List ℕ) → IsLeastFalse (is_in ks) m → k ≤ m → m ≤ k + steps → missing_from steps k ks ≡ m
missing_from-is zero k m ks w low high = omega arith
missing_from-is (suc n) k m ks w low high =
    elim (cases_lt k m) [
      | inl less ↦ rw (w.below k less) (missing_from-is n (k + 1) m ks w (omega arith) (omega arith))
      | inr more ↦ let same : k ≡ m = omega arith in rw (ap (is_in ks) same ∙ w.missing) same
    ]

le-above : (m : ℕ) (ks : List ℕ) → IsLeastFalse (is_in ks) m → m ≤ above ks
le-above zero ks w = omega arith
le-above (suc m) ks w = omega (arith, below_above m ks (w.below m (omega arith)))

pub least_missing-is : (m : ℕ) (ks : List ℕ) → IsLeastFalse (is_in ks) m → least_missing ks ≡ m
least_missing-is m ks w = missing_from-is (above ks) 0 m ks w (omega arith) (omega (arith, le-above m ks w))

-- WHAT IS KNOWN

-- whether a block of these has the number
pub is_in-numbers : (k : ℕ) (bs : List Block) → is_in (map (λ (b : Block). b.number) bs) k ≡ has_number k bs
is_in-numbers k [] = refl
is_in-numbers k (b ∷ bs) = ap (λ t. eqb b.number k || t) (is_in-numbers k bs)

pub new_number-is : (m : ℕ) (bs : List Block) → IsLeastFalse (λ k. has_number k bs) m → new_number bs ≡ m
new_number-is m bs w =
    least_missing-is m (map (λ (b : Block). b.number) bs) (record { missing = is_in-numbers m bs ∙ w.missing; below = λ k h. is_in-numbers k bs ∙ w.below k h })

has_number-above : (i b : ℕ) (ss : List Slot) → b < i → has_number b (map block_of (known_from i ss)) ≡ false
has_number-above i b [] h = refl
has_number-above i b (s ∷ ss) h =
    let rest = has_number-above (i + 1) b ss (omega arith) in
    elim (cases_Bool (eqb s.size 0)) [ inl t ↦ rw t rest | inr f ↦ rw (f, ne_eqb i b (λ q. omega arith)) rest ]

pub has_number-known_from : (i j b : ℕ) (ss : List Slot) → b ≡ i + j → has_number b (map block_of (known_from i ss)) ≡ not (eqb (get_or ss j empty_slot).size 0)
has_number-known_from i j b [] e = refl
has_number-known_from i zero b (s ∷ ss) e =
    elim (cases_Bool (eqb s.size 0)) [
      | inl t ↦ rw t (has_number-above (i + 1) b ss (omega arith))
      | inr f ↦ rw (f, eq-eqb i b (omega arith))
    ]
has_number-known_from i (suc j) b (s ∷ ss) e =
    let rest = has_number-known_from (i + 1) j b ss (omega arith) in
    elim (cases_Bool (eqb s.size 0)) [ inl t ↦ rw t rest | inr f ↦ rw (f, ne_eqb i b (λ q. omega arith)) rest ]

-- the first unused number, or the one after the last slot
abbrev pub first_unused : ℕ → List Slot → ℕ
first_unused i ss = unwrap_or (least_from 0 (unused_from i ss)) (i + length ss)

first_unused-cons : (i : ℕ) (s : Slot) (ss : List Slot) → first_unused i (s ∷ ss) ≡ cond (eqb s.size 0) i (first_unused (i + 1) ss)
first_unused-cons i s ss =
    let after : (i + 1) + length ss ≡ i + suc (length ss) = omega arith in
    elim (cases_Bool (eqb s.size 0)) [ inl t ↦ rw (t, le-leb 0 i (omega arith)) | inr f ↦ rw (f, after) ]

pub first_unused-least : (i : ℕ) (ss : List Slot)
    → (j : ℕ) × (first_unused i ss ≡ i + j) × (j ≤ length ss) × ((get_or ss j empty_slot).size ≡ 0) × ((k : ℕ) → k < j → (get_or ss k empty_slot).size ≢ 0)
first_unused-least i [] = (0, omega arith, omega arith, refl, λ k h. absurd (omega arith))
first_unused-least i (s ∷ ss) =
    elim (cases_Bool (eqb s.size 0)) [
      | inl t ↦ (0, rw (first_unused-cons i s ss, t) (omega arith), omega arith, eqb-true s.size 0 t, λ k h. absurd (omega arith))
      | inr f ↦
          let rest = first_unused-least (i + 1) ss in
          (suc rest.0, rw (first_unused-cons i s ss, f) (omega (arith, rest.1)), omega (arith, rest.2), rest.3, each s ss rest.0 f rest.4)
    ]
  where
    each : (s : Slot) (ss : List Slot) (j : ℕ) → eqb s.size 0 ≡ false → ((k : ℕ) → k < j → (get_or ss k empty_slot).size ≢ 0) → (k : ℕ) → k < suc j
        → (get_or (s ∷ ss) k empty_slot).size ≢ 0
    each s ss j f h zero lt = eqb-false s.size 0 f
    each s ss j f h (suc k) lt = h k (omega arith)

-- it is the least number that names no block
pub first_unused-is : (ss : List Slot) → IsLeastFalse (λ k. has_number k (map block_of (known_from 0 ss))) (first_unused 0 ss)
first_unused-is ss =
    let w = first_unused-least 0 ss in
    record {
      missing = has_number-known_from 0 w.0 (first_unused 0 ss) ss (omega (arith, w.1)) ∙ rw (eq-eqb _ 0 w.3);
      below = λ k h. has_number-known_from 0 k k ss (omega arith) ∙ rw (ne_eqb _ 0 (w.4 k (omega (arith, w.1))));
    }

-- one more number given up
pub min-IsLeastFalse : (test : ℕ → Bool) (m w : ℕ) → IsLeastFalse test m → IsLeastFalse (λ k. test k && not (eqb w k)) (min m w)
min-IsLeastFalse test m w h =
    elim (cases_lt w m) [
      | inl less ↦
          let at : min m w ≡ w = omega arith in
          record {
            missing = rw (at, h.below w less, eq-eqb w w refl);
            below = λ k q. let lt : k < w = omega arith in rw (h.below k (omega arith), ne_eqb w k (λ e. omega arith));
          }
      | inr more ↦
          let at : min m w ≡ m = omega arith in
          record {
            missing = rw (at, h.missing);
            below = λ k q. let lt : k < m = omega arith in rw (h.below k lt, ne_eqb w k (λ e. omega arith));
          }
    ]

pub new_number-slots : (ss : List Slot) → new_number (map block_of (known_from 0 ss)) ≡ first_unused 0 ss
new_number-slots ss = new_number-is (first_unused 0 ss) (map block_of (known_from 0 ss)) (first_unused-is ss)

full_from : (i : ℕ) (ss : List Slot) → first_unused i ss ≡ i + length ss → length (known_from i ss) ≡ length ss
full_from i [] e = refl
full_from i (s ∷ ss) e =
    elim (cases_Bool (eqb s.size 0)) [
      | inl t ↦ absurd (omega (arith, rw (t) at (sym (first_unused-cons i s ss) ∙ e)))
      | inr f ↦
          let later : first_unused (i + 1) ss ≡ i + suc (length ss) = rw (f) at (sym (first_unused-cons i s ss) ∙ e) in
          rw f (omega (arith, full_from (i + 1) ss (omega arith)))
    ]

-- where no slot is unused, each has a block
pub full : (ss : List Slot) → first_unused 0 ss ≡ length ss → length (known_from 0 ss) ≡ length ss
full ss e = full_from 0 ss (omega arith)

-- the slot at the new number, where it has one
pub record NewSlot (ss : List Slot) (b : ℕ) : Type 0 where
  pub within : b ≤ length ss
  pub none : (get_or ss b empty_slot).size ≡ 0

pub new_slot : (ss : List Slot) (b : ℕ) → b ≡ new_number (map block_of (known_from 0 ss)) → NewSlot ss b
new_slot ss b e =
    let w = first_unused-least 0 ss in
    let is : b ≡ w.0 = omega (arith, e, new_number-slots ss, w.1) in
    record { within = omega (arith, w.2); none = rw is w.3 }

pub has_unused : (i j b : ℕ) (ss : List Slot) → b ≡ i + j → j < length ss → (get_or ss j empty_slot).size ≡ 0 → is_in (unused_from i ss) b ≡ true
has_unused i j b [] e h none = absurd (omega arith)
has_unused i zero b (s ∷ ss) e h none = rw (eq-eqb s.size 0 none, eq-eqb i b (omega arith))
has_unused i (suc j) b (s ∷ ss) e h none =
    let rest = has_unused (i + 1) j b ss (omega arith) (omega arith) none in
    elim (cases_Bool (eqb s.size 0)) [ inl t ↦ rw t (or_right (eqb i b) (is_in (unused_from (i + 1) ss) b) rest) | inr f ↦ rw f rest ]

pub full_at : (a : Inside) (p : Ledger) (b : ℕ) → ledger_of a ≡ p → b ≡ new_number (blocks p) → b ≡ length a.slots.items
    → length (known_from 0 a.slots.items) ≡ length a.slots.items
full_at a p b e h last =
    let new : b ≡ first_unused 0 a.slots.items = h ∙ ap (λ q. new_number (blocks q)) (sym e) ∙ new_number-slots a.slots.items in
    full a.slots.items (sym new ∙ last)
