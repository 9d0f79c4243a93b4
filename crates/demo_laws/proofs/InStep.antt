-- Indices of frames whose ids go up by one: what goes out without a break, each index once, is those below a number, in their order.
use Rattle.std.proofs.Common.{◌≡◌, ◌≢◌, ℕ, zero, suc, ◌+◌, ◌≤◌, ◌<◌, Bool, true, false, cond, eqb, ltb, List, [], ◌∷◌, length, refl, ap, ◌∙◌, arith}
use Rattle.std.proofs.Common.{inl, inr, ◌⊎◌, ℤ, pos}
use Rattle.std.specs.Prelude.{◌+ℤ◌, All, slice_index_or}
use Rattle.std.specs.Ordering.{int_eq}
use Rattle.std.proofs.lemmas.Bool.{and_from, or_cases, or_right, eq-eqb, ne_eqb, ltb-true, ltb-false, lt-ltb, cases_Bool}
use Rattle.std.proofs.lemmas.Bool.Decides.{Decides-int_eq}
use Rattle.std.proofs.lemmas.Int.{ints}
use Rattle.std.proofs.lemmas.List.Elements.{All-nil, All-cons, All-head, All-tail}
use Rattle.flow_journal.specs.Setting.{Setting, id_at, first_prev}
use Rattle.queue_sort.specs.Sorting.{keeps_step}
use Rattle.flow_journal.specs.Breaks.{prev_of, breaks_of}
use Rattle.flow_journal.specs.IndexLaws.{below}
use Rattle.flow_journal.proofs.EntryCounts.{bit, count-cons}
use Rattle.run_laws.proofs.Falling.{AreInStep, falls, falls_below, times_in}

-- THE NUMBERS BELOW ONE

falls-under : (k n : ℕ) → n ≤ k → falls_below k (below n) ≡ true
falls-under k zero h = refl
falls-under k (suc n) h = let less : n < k = omega (arith, h) in and_from _ _ (lt-ltb n k less) (falls-under n n (omega arith))

pub below-falls : (n : ℕ) → falls (below n) ≡ true
below-falls zero = refl
below-falls (suc n) = falls-under n n (omega arith)

pub none-below : (j n : ℕ) → n ≤ j → times_in j (below n) ≡ 0
none-below j zero h = refl
none-below j (suc n) h =
    let other : n ≢ j = λ e. absurd (omega (arith, h, e)) in
    omega (arith, none-below j n (omega (arith, h)), count-cons (λ i. eqb i j) n (below n), ap bit (ne_eqb n j other))

pub once-below : (j n : ℕ) → j < n → times_in j (below n) ≡ 1
once-below j zero h = absurd (omega (arith, h))
once-below j (suc n) h =
    elim (cases_Bool (ltb j n)) [
      | inl low ↦
          let less : j < n = ltb-true j n low in
          let other : n ≢ j = λ e. absurd (omega (arith, less, e)) in
          omega (arith, once-below j n less, count-cons (λ i. eqb i j) n (below n), ap bit (ne_eqb n j other))
      | inr high ↦
          let is : n ≡ j = omega (arith, ltb-false j n high, h) in
          omega (arith, none-below j n (omega (arith, is)), count-cons (λ i. eqb i j) n (below n), ap bit (eq-eqb n j is))
    ]

pub length-below : (n : ℕ) → length (below n) ≡ n
length-below zero = refl
length-below (suc n) = omega (arith, length-below n)

-- numbers that each stand once at most below n, and not beyond it
pub all-within : (n : ℕ) (ks : List ℕ) → ((k : ℕ) → times_in k ks ≤ bit (ltb k n)) → All (λ k. k < n) ks
all-within n [] few = All-nil (λ k. k < n)
all-within n (x ∷ xs) few =
    All-cons (λ k. k < n) x xs (low (cases_Bool (ltb x n)))
    (all-within n xs (λ k. omega (arith, few k, count-cons (λ i. eqb i k) x xs)))
  where
    low : (ltb x n ≡ true) ⊎ (ltb x n ≡ false) → x < n
    low (inl less) = ltb-true x n less
    low (inr more) = absurd (omega (arith, few x, count-cons (λ i. eqb i x) x xs, ap bit (eq-eqb x x refl), ap bit more))

-- IDS

is_next : (before id : ℤ) → id ≡ before +ℤ pos 1 → keeps_step before id ≡ true
is_next before id h = or_right (int_eq id before) (int_eq id (before +ℤ pos 1)) ((Decides-int_eq id (before +ℤ pos 1)).1 h)

first_is : (ids : List ℤ) → 0 < length ids → slice_index_or ids 0 (pos 0) ≡ first_prev ids +ℤ pos 1
first_is [] h = absurd (omega (arith, h))
first_is (i ∷ ids) h = omega (arith, ints)

-- the next one keeps step
pub keeps-next : (s : Setting) (n : ℕ) → AreInStep s (length s.ids) → n < length s.ids → keeps_step (prev_of s (below n)) (id_at s n) ≡ true
keeps-next s zero step low = is_next (first_prev s.ids) (id_at s 0) (first_is s.ids low)
keeps-next s (suc n) step low =
    let here = step (suc n) low in
    let before = step n (omega (arith, low)) in
    is_next (id_at s n) (id_at s (suc n)) (omega (arith, ints, here, before))

pub none-breaks : (s : Setting) (n : ℕ) → AreInStep s (length s.ids) → n ≤ length s.ids → breaks_of s (below n) ≡ 0
none-breaks s zero step within = refl
none-breaks s (suc n) step within =
    let keeps : keeps_step (prev_of s (below n)) (id_at s n) ≡ true = keeps-next s n step (omega (arith, within)) in
    omega (arith, none-breaks s n step (omega (arith, within)), ap (λ (b : Bool). cond {A = ℕ} b 0 1) keeps)

unbroken-last : (b : Bool) (n : ℕ) → n + cond b 0 1 ≡ 0 → (b ≡ true) × (n ≡ 0)
unbroken-last true n h = (refl, omega (arith, h))
unbroken-last false n h = absurd (omega (arith, h))

-- the index that keeps step with another is that one or the next
step-index : (s : Setting) (n j k : ℕ) → AreInStep s n → j < n → k < n → keeps_step (id_at s j) (id_at s k) ≡ true → (k ≡ j) ⊎ (k ≡ j + 1)
step-index s n j k step low_j low_k h =
    let at_j = step j low_j in
    let at_k = step k low_k in
    elim (or_cases (int_eq (id_at s k) (id_at s j)) (int_eq (id_at s k) (id_at s j +ℤ pos 1)) h) [
      | inl same ↦ let is = (Decides-int_eq (id_at s k) (id_at s j)).0 same in inl (omega (arith, ints, at_j, at_k, is))
      | inr next ↦ let is = (Decides-int_eq (id_at s k) (id_at s j +ℤ pos 1)).0 next in inr (omega (arith, ints, at_j, at_k, is))
    ]

-- and with none the first
first-index : (s : Setting) (n k : ℕ) → AreInStep s n → n ≤ length s.ids → k < n → keeps_step (first_prev s.ids) (id_at s k) ≡ true → k ≡ 0
first-index s n k step within low h =
    let at_k = step k low in
    let first = first_is s.ids (omega (arith, within, low)) in
    elim (or_cases (int_eq (id_at s k) (first_prev s.ids)) (int_eq (id_at s k) (first_prev s.ids +ℤ pos 1)) h) [
      | inl same ↦ let is = (Decides-int_eq (id_at s k) (first_prev s.ids)).0 same in absurd (omega (arith, ints, at_k, first, is))
      | inr next ↦ let is = (Decides-int_eq (id_at s k) (first_prev s.ids +ℤ pos 1)).0 next in omega (arith, ints, at_k, first, is)
    ]

pub unbroken : (s : Setting) (n : ℕ) (ks : List ℕ) → AreInStep s n → n ≤ length s.ids → All (λ k. k < n) ks → ((k : ℕ) → times_in k ks ≤ 1)
    → breaks_of s ks ≡ 0 → ks ≡ below (length ks)
unbroken s n [] step within low once none = refl
unbroken s n (k ∷ []) step within low once none =
    let keeps = unbroken-last (keeps_step (first_prev s.ids) (id_at s k)) 0 none in
    let is : k ≡ 0 = first-index s n k step within (All-head (λ i. i < n) k [] low) keeps.0 in
    ap (λ (i : ℕ). i ∷ []) is
unbroken s n (k ∷ j ∷ js) step within low once none =
    let p = unbroken-last (keeps_step (id_at s j) (id_at s k)) (breaks_of s (j ∷ js)) none in
    let tail = All-tail (λ i. i < n) k (j ∷ js) low in
    let rest : j ∷ js ≡ below (length (j ∷ js)) =
    unbroken s n (j ∷ js) step within tail (λ i. omega (arith, once i, count-cons (λ x. eqb x i) k (j ∷ js))) p.1 in
    let last : j ≡ length js = cc in
    elim (step-index s n j k step (All-head (λ i. i < n) j js tail) (All-head (λ i. i < n) k (j ∷ js) low) p.0) [
      | inl same ↦
          absurd (omega (
            arith,
            once j,
            count-cons (λ x. eqb x j) k (j ∷ js),
            count-cons (λ x. eqb x j) j js,
            ap bit (eq-eqb k j same),
            ap bit (eq-eqb j j refl),
          ))
      | inr next ↦
          let is : k ≡ suc (length js) = omega (arith, next, last) in
          ap (λ (i : ℕ). i ∷ j ∷ js) is ∙ ap (λ (is : List ℕ). suc (length js) ∷ is) rest
    ]
