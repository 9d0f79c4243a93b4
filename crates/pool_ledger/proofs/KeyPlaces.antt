-- Rising lists, looked through from either end.
use Rattle.std.proofs.Common.{◌≡◌, ◌≢◌, ℕ, suc, ◌<◌, ◌≤◌, Bool, eqb, ltb, List, [], ◌∷◌, ◌++◌, reverse, Some, None, refl, ap, ◌∙◌, inl, inr, arith}
use Rattle.std.specs.List.{AllByRecursion, find}
use Rattle.std.proofs.lemmas.Bool.{lt-ltb, le-ltb, cases_lt, cases_order, cases_Bool}
use Rattle.std.proofs.lemmas.List.{reverse-append}
use Rattle.pool_ledger.specs.Keys.{IsRising, with_key, without_key, count_below, greatest_below}
use Rattle.pool_ledger.proofs.KeyLists.{with_key-past, with_key-here}

count_below-past : (bound k : ℕ) (ks : List ℕ) → k < bound → count_below bound (k ∷ ks) ≡ suc (count_below bound ks)
count_below-past bound k ks h = rw (lt-ltb k bound h) (omega arith)

pub count_below-here : (bound k : ℕ) (ks : List ℕ) → bound ≤ k → count_below bound (k ∷ ks) ≡ 0
count_below-here bound k ks h = rw (le-ltb k bound h)

pub find-append : (p : ℕ → Bool) (xs ys : List ℕ) (x : ℕ) → find p xs ≡ Some x → find p (xs ++ ys) ≡ Some x
find-append p [] ys x e = absurd (cc)
find-append p (y ∷ xs) ys x e = elim (cases_Bool (p y)) [ inl t ↦ rw t (rw t at e) | inr f ↦ rw f (find-append p xs ys x (rw f at e)) ]

pub find-append_none : (p : ℕ → Bool) (xs ys : List ℕ) → find p xs ≡ None → find p (xs ++ ys) ≡ find p ys
find-append_none p [] ys e = refl
find-append_none p (y ∷ xs) ys e = elim (cases_Bool (p y)) [ inl t ↦ absurd (let n = rw t at e in cc) | inr f ↦ rw f (find-append_none p xs ys (rw f at e)) ]

pub reverse-cons : (k : ℕ) (ks : List ℕ) → reverse (k ∷ ks) ≡ reverse ks ++ k ∷ []
reverse-cons k ks = reverse-append (k ∷ []) ks

none_below : (bound k : ℕ) (ks : List ℕ) → bound ≤ k → AllByRecursion (λ x. k < x) ks → count_below bound ks ≡ 0
none_below bound k [] here a = refl
none_below bound k (j ∷ js) here a = let past : k < j = a.0 in count_below-here bound j js (omega arith)

pub greatest_below-none : (bound : ℕ) (ks : List ℕ) → IsRising ks → count_below bound ks ≡ 0 → greatest_below bound ks ≡ None
greatest_below-none bound [] r e = refl
greatest_below-none bound (k ∷ ks) r e =
    elim (cases_lt k bound) [
      | inl past ↦ absurd (omega (arith, count_below-past bound k ks past))
      | inr here ↦ ap (find (λ x. ltb x bound)) (reverse-cons k ks)
          ∙ find-append_none (λ x. ltb x bound) (reverse ks) (k ∷ []) (greatest_below-none bound ks r.1 (none_below bound k ks here r.0))
          ∙ rw (le-ltb k bound here)
    ]

pub weaker : (a b : ℕ) (ks : List ℕ) → a < b → AllByRecursion (λ k. b < k) ks → AllByRecursion (λ k. a < k) ks
weaker a b [] h r = tt
weaker a b (k ∷ ks) h r = let past : b < k = r.0 in (omega arith, weaker a b ks h r.1)

below_all-with_key : (k key : ℕ) (ks : List ℕ) → k < key → AllByRecursion (λ j. k < j) ks → AllByRecursion (λ j. k < j) (with_key key ks)
below_all-with_key k key [] h a = (h, tt)
below_all-with_key k key (j ∷ js) h a =
    elim (cases_Bool (ltb j key)) [ inl t ↦ rw t (a.0, below_all-with_key k key js h a.1) | inr f ↦ rw f (h, a) ]

pub IsRising-with_key : (key : ℕ) (ks : List ℕ) → IsRising ks → AllByRecursion (λ k. k ≢ key) ks → IsRising (with_key key ks)
IsRising-with_key key [] r a = (tt, tt)
IsRising-with_key key (k ∷ ks) r a =
    elim (cases_order k key) [
      | inl same ↦ absurd (a.0 same)
      | inr (inl past) ↦ rw (with_key-past key k ks past) (below_all-with_key k key ks past r.0, IsRising-with_key key ks r.1 a.1)
      | inr (inr here) ↦ rw (with_key-here key k ks (omega arith)) ((here, weaker key k ks here r.0), r)
    ]

below_all-without : (k key : ℕ) (ks : List ℕ) → AllByRecursion (λ j. k < j) ks → AllByRecursion (λ j. k < j) (without_key key ks)
below_all-without k key [] a = tt
below_all-without k key (j ∷ js) a =
    elim (cases_Bool (eqb j key)) [ inl t ↦ rw t (below_all-without k key js a.1) | inr f ↦ rw f (a.0, below_all-without k key js a.1) ]

pub IsRising-without_key : (key : ℕ) (ks : List ℕ) → IsRising ks → IsRising (without_key key ks)
IsRising-without_key key [] r = tt
IsRising-without_key key (k ∷ ks) r =
    elim (cases_Bool (eqb k key)) [
      | inl t ↦ rw t (IsRising-without_key key ks r.1)
      | inr f ↦ rw f (below_all-without k key ks r.0, IsRising-without_key key ks r.1)
    ]
