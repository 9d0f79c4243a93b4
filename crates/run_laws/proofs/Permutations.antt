-- Lists of numbers in which each number stands equally often are permutations of one another.
use Rattle.std.proofs.Common.{◌≡◌, ℕ, Bool, ◌≤◌, eqb, List, [], ◌∷◌, ◌++◌, refl, sym, ap, subst, arith, inl, inr}
use Rattle.std.proofs.Common.{◌∙◌}
use Rattle.std.specs.List.{flat_map, sum_by}
use Rattle.std.proofs.lemmas.List.{append_assoc}
use Rattle.std.proofs.lemmas.Grind.{flat_map-append}
use Rattle.std.proofs.lemmas.List.Sorted.{IsPermutation-append_left, IsPermutation-append_right, IsPermutation-append_comm}
use Rattle.std.specs.List.Sorted.{IsPermutation}
use Rattle.std.proofs.lemmas.List.Sums.{sum_by-cons}
use Rattle.std.proofs.lemmas.Bool.{eq-eqb, eqb-true, cases_Bool}
use Rattle.std.proofs.lemmas.List.Sorted.{IsPermutation-refl, IsPermutation-sym, IsPermutation-trans, IsPermutation-cons, IsPermutation-middle}
use Rattle.std.proofs.lemmas.List.Sorted.{sum_by-IsPermutation}
use Rattle.flow_journal.proofs.EntryCounts.{count, bit, count-cons, count-append}

-- a number that stands in a list, with what is before and after it
record Standing (k : ℕ) (xs : List ℕ) : Type 0 where
  front : List ℕ
  back : List ℕ
  is : xs ≡ front ++ k ∷ back

stands : (k : ℕ) (xs : List ℕ) → 1 ≤ count (λ j. eqb j k) xs → Standing k xs
stands k [] h = absurd (omega (arith, h))
stands k (x ∷ xs) h =
    elim (cases_Bool (eqb x k)) [
      | inl here ↦ record { front = []; back = xs; is = ap (λ (j : ℕ). j ∷ xs) (eqb-true x k here) }
      | inr away ↦
          let more = stands k xs (omega (arith, h, count-cons (λ j. eqb j k) x xs, ap bit away)) in
          record { front = x ∷ more.front; back = more.back; is = ap (λ (ys : List ℕ). x ∷ ys) more.is }
    ]

none : (xs : List ℕ) → ((k : ℕ) → count (λ j. eqb j k) xs ≡ 0) → xs ≡ []
none [] h = refl
none (x ∷ xs) h = absurd (omega (arith, h x, count-cons (λ j. eqb j x) x xs, ap bit (eq-eqb x x refl)))

pub permutes : (xs ys : List ℕ) → ((k : ℕ) → count (λ j. eqb j k) xs ≡ count (λ j. eqb j k) ys) → IsPermutation xs ys
permutes [] ys h = subst (λ (zs : List ℕ). IsPermutation [] zs) (sym (none ys (λ k. sym (h k)))) (IsPermutation-refl [])
permutes (x ∷ xs) ys h =
    let s = stands x ys (omega (arith, h x, count-cons (λ j. eqb j x) x xs, ap bit (eq-eqb x x refl))) in
    let rest : IsPermutation xs (s.front ++ s.back) = permutes xs (s.front ++ s.back) (λ k.
    let whole : count (λ j. eqb j k) ys ≡ count (λ j. eqb j k) (s.front ++ x ∷ s.back) = ap (count (λ j. eqb j k)) s.is in
    omega (
      arith,
      h k,
      whole,
      count-cons (λ j. eqb j k) x xs,
      count-append (λ j. eqb j k) s.front (x ∷ s.back),
      count-cons (λ j. eqb j k) x s.back,
      count-append (λ j. eqb j k) s.front s.back,
    )) in
    let there : IsPermutation (x ∷ xs) (s.front ++ x ∷ s.back) =
    IsPermutation-trans (x ∷ xs) (x ∷ (s.front ++ s.back)) (s.front ++ x ∷ s.back) (IsPermutation-cons x xs (s.front ++ s.back) rest)
    (IsPermutation-sym (s.front ++ x ∷ s.back) (x ∷ (s.front ++ s.back)) (IsPermutation-middle s.front x s.back)) in
    subst (λ (zs : List ℕ). IsPermutation (x ∷ xs) zs) (sym s.is) there

-- and so are the lists that are made of them piece by piece
permutes-pieces : {X : Type 0} (f : ℕ → List X) (xs ys : List ℕ) → ((k : ℕ) → count (λ j. eqb j k) xs ≡ count (λ j. eqb j k) ys)
    → IsPermutation (flat_map f xs) (flat_map f ys)
permutes-pieces f [] ys h = subst (λ (zs : List ℕ). IsPermutation [] (flat_map f zs)) (sym (none ys (λ k. sym (h k)))) (IsPermutation-refl [])
permutes-pieces f (x ∷ xs) ys h =
    let s = stands x ys (omega (arith, h x, count-cons (λ j. eqb j x) x xs, ap bit (eq-eqb x x refl))) in
    let rest : IsPermutation (flat_map f xs) (flat_map f (s.front ++ s.back)) = permutes-pieces f xs (s.front ++ s.back) (λ k.
    let whole : count (λ j. eqb j k) ys ≡ count (λ j. eqb j k) (s.front ++ x ∷ s.back) = ap (count (λ j. eqb j k)) s.is in
    omega (
      arith,
      h k,
      whole,
      count-cons (λ j. eqb j k) x xs,
      count-append (λ j. eqb j k) s.front (x ∷ s.back),
      count-cons (λ j. eqb j k) x s.back,
      count-append (λ j. eqb j k) s.front s.back,
    )) in
    let A = flat_map f s.front in
    let B = flat_map f s.back in
    let parts : IsPermutation (flat_map f xs) (A ++ B) = subst (λ zs. IsPermutation (flat_map f xs) zs) (flat_map-append f s.front s.back) rest in
    let one : IsPermutation (f x ++ flat_map f xs) (f x ++ (A ++ B)) = IsPermutation-append_right (f x) (flat_map f xs) (A ++ B) parts in
    let two : IsPermutation ((f x ++ A) ++ B) ((A ++ f x) ++ B) = IsPermutation-append_left B (f x ++ A) (A ++ f x) (IsPermutation-append_comm (f x) A) in
    let two_there : IsPermutation (f x ++ (A ++ B)) (A ++ (f x ++ B)) =
    subst (λ zs. IsPermutation zs (A ++ (f x ++ B))) (append_assoc (f x) A B) (subst (λ zs. IsPermutation ((f x ++ A) ++ B) zs) (append_assoc A (f x) B) two) in
    let all : flat_map f ys ≡ A ++ (f x ++ B) = ap (flat_map f) s.is ∙ flat_map-append f s.front (x ∷ s.back) in
    subst (λ zs. IsPermutation (flat_map f (x ∷ xs)) zs) (sym all)
    (IsPermutation-trans (f x ++ flat_map f xs) (f x ++ (A ++ B)) (A ++ (f x ++ B)) one two_there)

count-sum : (p : ℕ → Bool) (xs : List ℕ) → count p xs ≡ sum_by (λ x. bit (p x)) xs
count-sum p [] = refl
count-sum p (x ∷ xs) = omega (arith, count-cons p x xs, count-sum p xs, sum_by-cons (λ x. bit (p x)) x xs)

-- the same of two permutations
pub permute-pieces : {X : Type 0} (f : ℕ → List X) (xs ys : List ℕ) → IsPermutation xs ys → IsPermutation (flat_map f xs) (flat_map f ys)
permute-pieces f xs ys h =
    permutes-pieces f xs ys (λ k. omega (arith, count-sum (λ j. eqb j k) xs, count-sum (λ j. eqb j k) ys, sum_by-IsPermutation (λ j. bit (eqb j k)) xs ys h))
