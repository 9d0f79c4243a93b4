-- Entries counted by a number that each has: where of each number there are few, there are few in all.
use Rattle.std.proofs.Common.{◌≡◌, ◌≢◌, ℕ, zero, suc, ◌+◌, ◌*◌, ◌≤◌, ◌<◌, Bool, true, false, ◌&&◌, cond, eqb, ltb, List, [], ◌∷◌, refl, ap, ◌∙◌, arith, inl}
use Rattle.std.proofs.Common.{inr}
use Rattle.std.proofs.lemmas.Bool.{eq-eqb, ne_eqb, eqb-true, eqb-false, ltb-true, ltb-false, lt-ltb, cases_Bool}
use Rattle.std.proofs.Math.Nat.{suc-mul}
use Rattle.flow_journal.specs.declared.entry.Entry.{Entry}
use Rattle.flow_journal.proofs.EntryCounts.{count, bit, count-cons}

-- f 0 + .. + f (n - 1)
abbrev pub sum_to : (ℕ → ℕ) → ℕ → ℕ
sum_to f zero = 0
sum_to f (suc n) = sum_to f n + f n

pub sum_same : (b n : ℕ) → sum_to (λ k. b) n ≡ n * b
sum_same b zero = omega arith
sum_same b (suc n) = omega (arith, sum_same b n, suc-mul n b)

-- the first is apart
pub sum_nodes : (f b n : ℕ) → sum_to (λ v. cond (eqb v 0) f b) (suc n) ≡ f + n * b
sum_nodes f b zero = omega arith
sum_nodes f b (suc n) =
    let nonzero : suc n ≢ 0 = λ e. absurd (omega (arith, e)) in
    omega (arith, sum_nodes f b n, suc-mul n b, ap (λ (c : Bool). cond c f b) (ne_eqb (suc n) 0 nonzero))

sum-le : (f g : ℕ → ℕ) (n : ℕ) → ((v : ℕ) → v < n → f v ≤ g v) → sum_to f n ≤ sum_to g n
sum-le f g zero h = omega arith
sum-le f g (suc n) h = omega (arith, sum-le f g n (λ v less. h v (omega (arith, less))), h n (omega arith))

-- below the next number are those below this one, and this one
next_below : (w n : ℕ) → bit (ltb w (suc n)) ≡ bit (ltb w n) + bit (eqb w n)
next_below w n =
    elim (cases_Bool (ltb w n)) [
      | inl low ↦
          let less : w < n = ltb-true w n low in
          let other : w ≢ n = λ e. absurd (omega (arith, less, e)) in
          omega (arith, ap bit low, ap bit (lt-ltb w (suc n) (omega (arith, less))), ap bit (ne_eqb w n other))
      | inr high ↦ elim (cases_Bool (eqb w n)) [
        | inl same ↦
            let is : w ≡ n = eqb-true w n same in
            omega (arith, ap bit high, ap bit same, ap bit (lt-ltb w (suc n) (omega (arith, is))))
        | inr other ↦ elim (cases_Bool (ltb w (suc n))) [
          | inl low ↦
              let ne : w ≢ n = eqb-false w n other in
              absurd (ne (omega (arith, ltb-true w (suc n) low, ltb-false w n high)))
          | inr none ↦ omega (arith, ap bit high, ap bit other, ap bit none)
        ]
      ]
    ]

and-next : (b : Bool) (w n : ℕ) → bit (b && ltb w (suc n)) ≡ bit (b && ltb w n) + bit (b && eqb w n)
and-next true w n = next_below w n
and-next false w n = refl

-- q v are the entries that pass p and whose number is v
abbrev pub AreBuckets : (Entry → Bool) → (Entry → ℕ) → (ℕ → Entry → Bool) → Type 0
AreBuckets p of q = (e : Entry) (v : ℕ) → q v e ≡ (p e && eqb (of e) v)

none_low : (b : Bool) (w : ℕ) → (b && ltb w 0) ≡ false
none_low false w = refl
none_low true w = elim (cases_Bool (ltb w 0)) [ inl low ↦ absurd (omega (arith, ltb-true w 0 low)) | inr none ↦ none ]

none_below : (p : Entry → Bool) (of : Entry → ℕ) (es : List Entry) → count (λ e. p e && ltb (of e) 0) es ≡ 0
none_below p of [] = refl
none_below p of (e ∷ es) =
    omega (arith, count-cons (λ d. p d && ltb (of d) 0) e es, ap bit (none_low (p e) (of e)), none_below p of es)

one_more : (p : Entry → Bool) (of : Entry → ℕ) (q : ℕ → Entry → Bool) → AreBuckets p of q → (n : ℕ) (es : List Entry)
    → count (λ e. p e && ltb (of e) (suc n)) es ≡ count (λ e. p e && ltb (of e) n) es + count (q n) es
one_more p of q are n [] = refl
one_more p of q are n (e ∷ es) =
    omega (
      arith,
      one_more p of q are n es,
      count-cons (λ d. p d && ltb (of d) (suc n)) e es,
      count-cons (λ d. p d && ltb (of d) n) e es,
      count-cons (q n) e es,
      and-next (p e) (of e) n,
      ap bit (are e n),
    )

summed : (p : Entry → Bool) (of : Entry → ℕ) (q : ℕ → Entry → Bool) → AreBuckets p of q → (n : ℕ) (es : List Entry)
    → count (λ e. p e && ltb (of e) n) es ≡ sum_to (λ v. count (q v) es) n
summed p of q are zero es = none_below p of es
summed p of q are (suc n) es = omega (arith, one_more p of q are n es, summed p of q are n es)

-- where no bucket from n on has any, all have numbers below n
all_below : (p : Entry → Bool) (of : Entry → ℕ) (q : ℕ → Entry → Bool) → AreBuckets p of q → (n : ℕ) (es : List Entry)
    → ((v : ℕ) → ltb v n ≡ false → count (q v) es ≡ 0) → count p es ≡ count (λ e. p e && ltb (of e) n) es
all_below p of q are n [] h = refl
all_below p of q are n (e ∷ es) h =
    let rest = all_below p of q are n es (λ v high. omega (arith, count-cons (q v) e es, h v high)) in
    let one = count-cons p e es in
    let other = count-cons (λ d. p d && ltb (of d) n) e es in
    elim (cases_Bool (ltb (of e) n)) [
      | inl low ↦
          let same : (p e && ltb (of e) n) ≡ p e = ap (λ b. p e && b) low ∙ elim (p e) as (λ b. (b && true) ≡ b) [ true ↦ refl | false ↦ refl ] in
          omega (arith, rest, one, other, ap bit same)
      | inr high ↦
          let own : q (of e) e ≡ p e =
          are e (of e) ∙ (ap (λ b. p e && b) (eq-eqb (of e) (of e) refl) ∙ elim (p e) as (λ b. (b && true) ≡ b) [ true ↦ refl | false ↦ refl ]) in
          let none : (p e && ltb (of e) n) ≡ false = ap (λ b. p e && b) high ∙ elim (p e) as (λ b. (b && false) ≡ false) [ true ↦ refl | false ↦ refl ] in
          omega (arith, rest, one, other, ap bit none, ap bit own, count-cons (q (of e)) e es, h (of e) high)
    ]

-- no bucket from n on has any, and those below have no more than the bound says
pub few_in_buckets : (p : Entry → Bool) (of : Entry → ℕ) (q : ℕ → Entry → Bool) → AreBuckets p of q → (n : ℕ) (bound : ℕ → ℕ) (es : List Entry)
    → ((v : ℕ) → count (q v) es ≤ cond (ltb v n) (bound v) 0) → count p es ≤ sum_to bound n
few_in_buckets p of q are n bound es h =
    let none : (v : ℕ) → ltb v n ≡ false → count (q v) es ≡ 0 = λ v high. omega (arith, h v, ap (λ (b : Bool). cond b (bound v) 0) high) in
    let few : (v : ℕ) → v < n → count (q v) es ≤ bound v = λ v less. omega (arith, h v, ap (λ (b : Bool). cond b (bound v) 0) (lt-ltb v n less)) in
    omega (arith, all_below p of q are n es none, summed p of q are n es, sum-le (λ v. count (q v) es) bound n few)

-- one in each bucket at most
pub one_in_buckets : (p : Entry → Bool) (of : Entry → ℕ) (q : ℕ → Entry → Bool) → AreBuckets p of q → (n : ℕ) (es : List Entry)
    → ((v : ℕ) → count (q v) es ≤ bit (ltb v n)) → count p es ≤ n
one_in_buckets p of q are n es h =
    omega (arith, few_in_buckets p of q are n (λ v. 1) es (λ v. omega (arith, h v, as_cond (ltb v n))), sum_same 1 n)
  where
    as_cond : (b : Bool) → bit b ≡ cond b 1 0
    as_cond true = refl
    as_cond false = refl
