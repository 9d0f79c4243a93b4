-- Sums over the views of all seats.
use Rattle.std.proofs.Common.{◌≡◌, ◌≢◌, ℕ, suc, zero, ◌+◌, ◌≤◌, List, [], ◌∷◌, ◌++◌, set, refl, sym, ap, arith}
use mathlib.Core.Option.{some, some-injective, some-ne-none}
use lib.ListN.{get_elem?}
use Rattle.turn_lock.specs.Views.{total}

module _ {V : Type 0} where
  pub total_set : (f : V → ℕ) (l : List V) (i : ℕ) (v w : V) → get_elem? l i ≡ some v → total f (set l i w) + f v ≡ total f l + f w
  total_set f [] i v w e = absurd (some-ne-none v (sym e))
  total_set f (x ∷ xs) zero v w e = let is : f x ≡ f v = ap f (some-injective x v e) in omega arith
  total_set f (x ∷ xs) (suc i) v w e = let r = total_set f xs i v w e in omega arith

  pub total_snoc : (f : V → ℕ) (l : List V) (w : V) → total f (l ++ w ∷ []) ≡ total f l + f w
  total_snoc f [] w = omega arith
  total_snoc f (x ∷ xs) w = let r = total_snoc f xs w in omega arith

  pub total_at : (f : V → ℕ) (l : List V) (i : ℕ) (v : V) → get_elem? l i ≡ some v → f v ≤ total f l
  total_at f [] i v e = absurd (some-ne-none v (sym e))
  total_at f (x ∷ xs) zero v e = let is : f x ≡ f v = ap f (some-injective x v e) in omega arith
  total_at f (x ∷ xs) (suc i) v e = let r = total_at f xs i v e in omega arith

  pub total_two : (f : V → ℕ) (l : List V) (i j : ℕ) (v w : V)
      → j ≢ i → get_elem? l i ≡ some v → get_elem? l j ≡ some w → f v + f w ≤ total f l
  total_two f [] i j v w ne a b = absurd (some-ne-none v (sym a))
  total_two f (x ∷ xs) zero zero v w ne a b = absurd (ne refl)
  total_two f (x ∷ xs) zero (suc j) v w ne a b =
      let is : f x ≡ f v = ap f (some-injective x v a) in let r = total_at f xs j w b in omega arith
  total_two f (x ∷ xs) (suc i) zero v w ne a b =
      let is : f x ≡ f w = ap f (some-injective x w b) in let r = total_at f xs i v a in omega arith
  total_two f (x ∷ xs) (suc i) (suc j) v w ne a b = let r = total_two f xs i j v w (λ e. ne (ap suc e)) a b in omega arith

  pub total_le : (f g : V → ℕ) (l : List V) → ((j : ℕ) (v : V) → get_elem? l j ≡ some v → f v ≤ g v) → total f l ≤ total g l
  total_le f g [] le = omega arith
  total_le f g (x ∷ xs) le = let a = le 0 x refl in let b = total_le f g xs (λ j v e. le (suc j) v e) in omega arith

  rest_none : (f g : V → ℕ) → ((v : V) → g v ≤ f v) → (l : List V) → total f l ≤ 0 → total g l ≤ 0
  rest_none f g le [] h = omega arith
  rest_none f g le (x ∷ xs) h = let a = le x in let r = rest_none f g le xs (omega arith) in omega arith

  -- where one view has all of a sum, what is never more is nothing elsewhere
  pub total_all : (f g : V → ℕ) → ((v : V) → g v ≤ f v) → (l : List V) (i : ℕ) (v : V)
      → get_elem? l i ≡ some v → total f l ≤ f v → total g l ≤ g v
  total_all f g le [] i v e h = absurd (some-ne-none v (sym e))
  total_all f g le (x ∷ xs) zero v e h = let is : f x ≡ f v = ap f (some-injective x v e) in
      let is' : g x ≡ g v = ap g (some-injective x v e) in let r = rest_none f g le xs (omega arith) in omega arith
  total_all f g le (x ∷ xs) (suc i) v e h = let a = total_at f xs i v e in let b = le x in
      let r = total_all f g le xs i v e (omega arith) in omega arith
