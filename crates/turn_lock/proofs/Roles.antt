-- Lists of roles: how often a role stands there, and what it has made.
use Rattle.std.proofs.Common.{◌≡◌, ℕ, suc, zero, ◌+◌, ◌<◌, ◌≤◌, ◌⊎◌, Bool, true, false, eqb, List, [], ◌∷◌, ◌++◌, length, take, drop, refl, ap, arith, inl}
use Rattle.std.proofs.Common.{inr, ⊎_elim, eq-eqb, ne_eqb}
use mathlib.Core.Logic.{dite}
use native.Mathlib.Decide.{ℕ_discrete}
use Rattle.std.specs.Prelude.{Option}
use Rattle.turn_lock.specs.declared.rule.Moves.{Moves}
use Rattle.turn_lock.specs.Views.{one_if, times, adds, unused}
use Rattle.turn_lock.specs.Rule.{AreExact}

module _ {E : Type 0} where
  pub times_adds : (r : ℕ) (new : List E) (ms : List (Moves E)) → times r (adds new ms) ≡ times r ms
  times_adds r new [] = refl
  times_adds r new (m ∷ ms) = refl

  pub length_adds : (new : List E) (ms : List (Moves E)) → length (adds new ms) ≡ length ms
  length_adds new [] = refl
  length_adds new (m ∷ ms) = refl

  pub times_append : (r : ℕ) (xs ys : List (Moves E)) → times r (xs ++ ys) ≡ times r xs + times r ys
  times_append r [] ys = omega arith
  times_append r (x ∷ xs) ys = let e = times_append r xs ys in omega arith

  pub times_cut : (r : ℕ) (xs : List (Moves E)) → times r (take 1 xs) + times r (drop 1 xs) ≡ times r xs
  times_cut r [] = omega arith
  times_cut r (x ∷ xs) = omega arith

  pub length_cut : (xs : List (Moves E)) → length (take 1 xs) + length (drop 1 xs) ≡ length xs
  length_cut [] = omega arith
  length_cut (x ∷ xs) = omega arith

  pub length_first : (xs : List (Moves E)) → 0 < length xs → 0 < length (take 1 xs)
  length_first [] some_role = some_role
  length_first (x ∷ xs) some_role = omega arith

one_at_most : (b : Bool) → one_if b ≤ 1
one_at_most true = omega arith
one_at_most false = omega arith

module _ {E : Type 0} where
  pub times_few : (r : ℕ) (ms : List (Moves E)) → times r ms ≤ length ms
  times_few r [] = omega arith
  times_few r (m ∷ ms) = let a = times_few r ms in let b = one_at_most (eqb m.role r) in omega arith

module _ (E : Type 0) where
  pub times_outside : (r k n : ℕ) → (r < k) ⊎ (k + n ≤ r) → times {E = E} r (unused k n) ≡ 0
  times_outside r k zero out = refl
  times_outside r k (suc n) out =
      let none_here : one_if (eqb k r) ≡ 0 = ap one_if (ne_eqb k r (⊎_elim (λ a e. omega arith) (λ a e. omega arith) out)) in
      let more = times_outside r (suc k) n (⊎_elim (λ a. inl (omega arith)) (λ a. inr (omega arith)) out) in omega arith

  pub times_inside : (r k n : ℕ) → k ≤ r → r < k + n → times {E = E} r (unused k n) ≡ 1
  times_inside r k zero a b = absurd (omega arith)
  times_inside r k (suc n) a b = dite (ℕ_discrete k r)
      (λ is. let one : one_if (eqb k r) ≡ 1 = ap one_if (eq-eqb k r is) in let no_more = times_outside r (suc k) n (inl (omega arith)) in omega arith)
      (λ ne. let none_here : one_if (eqb k r) ≡ 0 = ap one_if (ne_eqb k r ne) in
      let more = times_inside r (suc k) n (omega arith) (omega arith) in omega arith)

  pub length_unused : (k n : ℕ) → length (unused {E = E} k n) ≡ n
  length_unused k zero = refl
  length_unused k (suc n) = let a = length_unused (suc k) n in omega arith

module _ {E : Type 0} (begins : E → Option ℕ) where
  pub exact_unused : (k n : ℕ) → AreExact begins [] (unused k n)
  exact_unused k zero = tt
  exact_unused k (suc n) = (refl, exact_unused (suc k) n)
