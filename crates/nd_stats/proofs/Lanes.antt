-- What the lanes of a vector come to.
use Rattle.std.proofs.Common.{◌≡◌, ℕ, suc, zero, ◌<◌, List, [], ◌∷◌, length, get_or, map, refl, ap, ◌∙◌, arith, Bool, if◌then◌else◌}
use Rattle.std.specs.Simd.Lanes.{zip2, sel_l}
use Rattle.std.specs.Prelude.{replicate}

-- two operations that give the same at each lane
pub zip2-same : (f g : ℕ → ℕ → ℕ) (xs ys : List ℕ) → length xs ≡ length ys
    → ((k : ℕ) → k < length xs → f (get_or xs k 0) (get_or ys k 0) ≡ g (get_or xs k 0) (get_or ys k 0)) → zip2 f xs ys ≡ zip2 g xs ys
zip2-same f g [] ys e h = refl
zip2-same f g (x ∷ xs) [] e h = absurd (omega (arith, e))
zip2-same f g (x ∷ xs) (y ∷ ys) e h =
    ap (λ z. z ∷ zip2 f xs ys) (h 0 (omega arith)) ∙ ap (λ zs. g x y ∷ zs) (zip2-same f g xs ys (omega (arith, e)) (λ k b. h (suc k) (omega (arith, b))))

-- the lanes that pass, and 0 in place of each other one
pub sel-map : (p : ℕ → Bool) (n : ℕ) (vs : List ℕ) → length vs ≡ n → sel_l (map p vs) vs (replicate n 0) ≡ map (λ v. if p v then v else 0) vs
sel-map p zero [] e = refl
sel-map p (suc n) [] e = refl
sel-map p zero (v ∷ vs) e = absurd (omega (arith, e))
sel-map p (suc n) (v ∷ vs) e = ap (λ zs. (if p v then v else 0) ∷ zs) (sel-map p n vs (omega (arith, e)))
