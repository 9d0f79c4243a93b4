-- A fact of each item of a list, where one item is written.
use Rattle.std.proofs.Common.{◌≡◌, ◌≢◌, ℕ, zero, suc, List, [], ◌∷◌, Some, set, subst, arith}
use Rattle.std.specs.Prelude.{slice_get}

pub set_each : {X : Type 0} (Q R : ℕ → X → Type 0) (xs : List X) (i : ℕ) (x : X) → ((j : ℕ) (y : X) → slice_get xs j ≡ Some y → Q j y)
    → ((j : ℕ) (y : X) → j ≢ i → Q j y → R j y) → R i x → (j : ℕ) (y : X) → slice_get (set xs i x) j ≡ Some y → R j y
set_each Q R [] i x each others here j y h = cc
set_each Q R (z ∷ zs) zero x each others here zero y h =
    let same : x ≡ y = cc in
    subst (λ w. R 0 w) same here
set_each Q R (z ∷ zs) zero x each others here (suc j) y h = others (suc j) y (λ e. cc) (each (suc j) y h)
set_each Q R (z ∷ zs) (suc i) x each others here zero y h = others 0 y (λ e. cc) (each 0 y h)
set_each Q R (z ∷ zs) (suc i) x each others here (suc j) y h =
    set_each (λ k. Q (suc k)) (λ k. R (suc k)) zs i x (λ k w e. each (suc k) w e) (λ k w ne q. others (suc k) w (λ e. ne (suc-is k i e)) q) here j y h where
      suc-is : (a b : ℕ) → suc a ≡ suc b → a ≡ b
      suc-is a b e = omega (arith, e)
