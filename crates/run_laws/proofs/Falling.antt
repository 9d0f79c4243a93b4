-- Lists of numbers that fall. What goes out without a break, of a stack whose ids go up by one, falls from the newest on.
use Rattle.std.proofs.Common.{◌≡◌, ◌≢◌, ℕ, zero, suc, ◌+◌, ◌≤◌, ◌<◌, Bool, true, false, ◌&&◌, cond, eqb, ltb, List, [], ◌∷◌, ◌++◌, length, refl, sym, ap}
use Rattle.std.proofs.Common.{◌∙◌, subst, arith, inl, inr, ◌⊎◌, ℤ, pos}
use Rattle.std.specs.Prelude.{◌+ℤ◌, All, AllPairs, reverse}
use Rattle.std.specs.List.{range_with_len}
use Rattle.std.specs.Ordering.{int_eq}
use Rattle.std.proofs.lemmas.Bool.{and_parts, and_from, or_cases, eq-eqb, ne_eqb, ltb-true, ltb-false, lt-ltb, cases_Bool}
use Rattle.std.proofs.lemmas.Int.{ints}
use Rattle.std.proofs.lemmas.List.{reverse-append}
use Rattle.std.proofs.lemmas.List.Elements.{All-head, All-tail}
use Rattle.flow_journal.specs.Setting.{Setting, id_at}
use Rattle.queue_sort.specs.Sorting.{keeps_step}
use Rattle.flow_journal.specs.Breaks.{prev_of, breaks_of}
use Rattle.flow_journal.specs.IndexLaws.{below}
use Rattle.flow_journal.proofs.EntryCounts.{count, bit, count-cons, count-append}

-- LISTS THAT FALL

abbrev pub falls_below : ℕ → List ℕ → Bool
falls_below k [] = true
falls_below k (j ∷ js) = ltb j k && falls_below j js

-- each number is below the one before it
abbrev pub falls : List ℕ → Bool
falls [] = true
falls (k ∷ ks) = falls_below k ks

-- how often a number stands in a list
abbrev pub times_in : ℕ → List ℕ → ℕ
times_in k xs = count (λ j. eqb j k) xs

falls-rest : (k : ℕ) (ks : List ℕ) → falls_below k ks ≡ true → falls ks ≡ true
falls-rest k [] h = refl
falls-rest k (j ∷ js) h = (and_parts (ltb j k) (falls_below j js) h).1

none-above : (k n : ℕ) (ks : List ℕ) → falls_below k ks ≡ true → k ≤ n → times_in n ks ≡ 0
none-above k n [] h le = refl
none-above k n (j ∷ js) h le =
    let p = and_parts (ltb j k) (falls_below j js) h in
    let less : j < k = ltb-true j k p.0 in
    let other : j ≢ n = λ e. absurd (omega (arith, less, le, e)) in
    omega (arith, none-above j n js p.1 (omega (arith, less, le)), count-cons (λ i. eqb i n) j js, ap bit (ne_eqb j n other))

here : (k : ℕ) (ks : List ℕ) → times_in k (k ∷ ks) ≡ 1 + times_in k ks
here k ks = omega (arith, count-cons (λ j. eqb j k) k ks, ap bit (eq-eqb k k refl))

-- two that fall and have the same numbers are one list
pub same_falling : (xs ys : List ℕ) → falls xs ≡ true → falls ys ≡ true → ((k : ℕ) → times_in k xs ≡ times_in k ys) → xs ≡ ys
same_falling [] [] f g h = refl
same_falling [] (y ∷ ys) f g h = absurd (omega (arith, h y, here y ys))
same_falling (x ∷ xs) [] f g h = absurd (omega (arith, h x, here x xs))
same_falling (x ∷ xs) (y ∷ ys) f g h =
    elim (cases_Bool (ltb x y)) [
      | inl less ↦
          let le : x < y = ltb-true x y less in
          let other : x ≢ y = λ e. absurd (omega (arith, le, e)) in
          absurd (omega (arith, h y, here y ys, count-cons (λ j. eqb j y) x xs, ap bit (ne_eqb x y other), none-above x y xs f (omega (arith, le))))
      | inr not_less ↦ elim (cases_Bool (ltb y x)) [
        | inl more ↦
            let le : y < x = ltb-true y x more in
            let other : y ≢ x = λ e. absurd (omega (arith, le, e)) in
            absurd (omega (arith, h x, here x xs, count-cons (λ j. eqb j x) y ys, ap bit (ne_eqb y x other), none-above y x ys g (omega (arith, le))))
        | inr not_more ↦
            let is : x ≡ y = omega (arith, ltb-false x y not_less, ltb-false y x not_more) in
            let rest : xs ≡ ys =
            same_falling xs ys (falls-rest x xs f) (falls-rest y ys g)
            (λ k. omega (arith, h k, count-cons (λ j. eqb j k) x xs, count-cons (λ j. eqb j k) y ys, ap (λ (i : ℕ). bit (eqb i k)) is)) in
            cc
      ]
    ]

-- NUMBERS IN ORDER

range-more : (a n : ℕ) → range_with_len a (suc n) ≡ range_with_len a n ++ (a + n) ∷ []
range-more a zero = let e : a ≡ a + 0 = omega arith in ap (λ (k : ℕ). k ∷ []) e
range-more a (suc n) =
    let e : a + 1 + n ≡ a + suc n = omega arith in ap (λ (ks : List ℕ). a ∷ ks) (range-more (a + 1) n ∙ ap (λ (k : ℕ). range_with_len (a + 1) n ++ k ∷ []) e)

pub reverse-below : (n : ℕ) → reverse (below n) ≡ range_with_len 0 n
reverse-below zero = refl
reverse-below (suc n) =
    let e : n ≡ 0 + n = omega arith in
    reverse-append (n ∷ []) (below n)
    ∙ (ap (λ (ks : List ℕ). ks ++ n ∷ []) (reverse-below n) ∙ (ap (λ (k : ℕ). range_with_len 0 n ++ k ∷ []) e ∙ sym (range-more 0 n)))

pub count-reverse : (p : ℕ → Bool) (xs : List ℕ) → count p (reverse xs) ≡ count p xs
count-reverse p [] = refl
count-reverse p (x ∷ xs) =
    omega (arith, ap (count p) (reverse-append (x ∷ []) xs), count-append p (reverse xs) (x ∷ []), count-reverse p xs, count-cons p x [], count-cons p x xs)

-- IDS

-- the ids go up by one, as far as this
abbrev pub AreInStep : Setting → ℕ → Type 0
AreInStep s n = (k : ℕ) → k < n → id_at s k ≡ id_at s 0 +ℤ pos k

-- the id is that of the one before, or the next
stepped : (before id : ℤ) → keeps_step before id ≡ true → (id ≡ before) ⊎ (id ≡ before +ℤ pos 1)
stepped before id h =
    elim (or_cases (int_eq id before) (int_eq id (before +ℤ pos 1)) h) [
      | inl same ↦ inl (grind (arith, ints))
      | inr next ↦ inr (grind (arith, ints))
    ]

no_break : (b : Bool) (n : ℕ) → n + cond b 0 1 ≡ 0 → (b ≡ true) × (n ≡ 0)
no_break true n h = (refl, omega (arith, h))
no_break false n h = absurd (omega (arith, h))

-- where the frames went out in their order without a break, and no two have one id
pub ids-in_step : (s : Setting) (n : ℕ) → n ≤ length s.ids → AllPairs (λ a b. a ≢ b) s.ids → breaks_of s (below n) ≡ 0 → AreInStep s n
ids-in_step s zero within apart none k low = absurd (omega (arith, low))
ids-in_step s (suc n) within apart none k low =
    let last = no_break (keeps_step (prev_of s (below n)) (id_at s n)) (breaks_of s (below n)) none in
    let before : AreInStep s n = ids-in_step s n (omega (arith, within)) apart last.1 in
    elim (cases_Bool (ltb k n)) [
      | inl less ↦ before k (ltb-true k n less)
      | inr not_less ↦
          let is : n ≡ k = omega (arith, ltb-false k n not_less, low) in
          subst (λ (i : ℕ). id_at s i ≡ id_at s 0 +ℤ pos i) is (newest n before last.0 within)
    ]
  where
    newest : (n : ℕ) → AreInStep s n → keeps_step (prev_of s (below n)) (id_at s n) ≡ true → suc n ≤ length s.ids → id_at s n ≡ id_at s 0 +ℤ pos n
    newest zero before keeps within = omega (arith, ints)
    newest (suc m) before keeps within =
        let was : id_at s m ≡ id_at s 0 +ℤ pos m = before m (omega arith) in
        elim (stepped (id_at s m) (id_at s (suc m)) keeps) [
          | inl same ↦ absurd (apart m (suc m) (pos 0) (omega arith) (omega (arith, within)) (sym same))
          | inr next ↦ omega (arith, ints, was, next)
        ]

same_index : (a b c : ℤ) (k j : ℕ) → a ≡ c +ℤ pos k → b ≡ c +ℤ pos j → a ≡ b → k ≡ j
same_index a b c k j p q h = omega (arith, ints, p, q, h)

next_index : (a b c : ℤ) (k j : ℕ) → a ≡ c +ℤ pos k → b ≡ c +ℤ pos j → a ≡ b +ℤ pos 1 → k ≡ j + 1
next_index a b c k j p q h = omega (arith, ints, p, q, h)

-- what goes out without a break, each index once, falls from the newest on
pub falls-unbroken : (s : Setting) (n : ℕ) (ks : List ℕ) → AreInStep s n → All (λ k. k < n) ks → ((k : ℕ) → times_in k ks ≤ 1)
    → breaks_of s ks ≡ 0 → falls ks ≡ true
falls-unbroken s n [] step within once none = refl
falls-unbroken s n (k ∷ []) step within once none = refl
falls-unbroken s n (k ∷ j ∷ js) step within once none =
    let p = no_break (keeps_step (id_at s j) (id_at s k)) (breaks_of s (j ∷ js)) none in
    let tail = All-tail (λ i. i < n) k (j ∷ js) within in
    let now_k : id_at s k ≡ id_at s 0 +ℤ pos k = step k (All-head (λ i. i < n) k (j ∷ js) within) in
    let now_j : id_at s j ≡ id_at s 0 +ℤ pos j = step j (All-head (λ i. i < n) j js tail) in
    let rest : falls (j ∷ js) ≡ true = falls-unbroken s n (j ∷ js) step tail (λ i. omega (arith, once i, count-cons (λ x. eqb x i) k (j ∷ js))) p.1 in
    let up : j < k = elim (stepped (id_at s j) (id_at s k) p.0) [
      | inl same ↦
          let is : k ≡ j = same_index (id_at s k) (id_at s j) (id_at s 0) k j now_k now_j same in
          absurd (omega (arith, once j, count-cons (λ x. eqb x j) k (j ∷ js), here j js, ap bit (eq-eqb k j is)))
      | inr next ↦ omega (arith, next_index (id_at s k) (id_at s j) (id_at s 0) k j now_k now_j next)
    ] in
    and_from _ _ (lt-ltb j k up) rest
