-- The last tick of a list.
use Rattle.std.proofs.Common.{◌≡◌, ℕ, ◌-◌, suc, List, [], ◌∷◌, length, Some, None, subst, arith}
use Rattle.std.specs.List.{slice_get}
use Rattle.edge_traits.specs.Ticks.{last_tick}

-- it is the one at the last place
pub last_tick-is : (ts : List ℕ) (t : ℕ) → slice_get ts (length ts - 1) ≡ Some t → last_tick ts ≡ t
last_tick-is [] t h = let impossible : None ≡ Some t = h in cc
last_tick-is (x ∷ []) t h = let same : Some x ≡ Some t = h in cc
last_tick-is (x ∷ y ∷ ts) t h =
    let place : length (x ∷ y ∷ ts) - 1 ≡ suc (length (y ∷ ts) - 1) = omega arith in
    last_tick-is (y ∷ ts) t (subst (λ k. slice_get (x ∷ y ∷ ts) k ≡ Some t) place h)
