-- What an append of a part of a piece leaves.
use Rattle.std.proofs.Common.{◌≡◌, ℕ, zero, suc, List, [], ◌∷◌, take, Option, Result, Ok, Err, OnOk, OnErr, refl, ap, ◌∙◌}
use Rattle.edge_traits.specs.Files.{Files, with_more, MayAppend}

-- a front of a front is a front
take_twice : (k n : ℕ) (xs : List ℕ) → (m : ℕ) × (take k (take n xs) ≡ take m xs)
take_twice zero n xs = (0, refl)
take_twice (suc k) zero xs = (0, refl)
take_twice (suc k) (suc n) [] = (0, refl)
take_twice (suc k) (suc n) (x ∷ xs) = let r = take_twice k n xs in (suc r.0, ap (λ ys. x ∷ ys) r.1)

-- whether all of the part was added or a front of it, that is a front of the piece
pub append_part : {T E : Type 0} (t u : Option Files) (name bytes : List ℕ) (n : ℕ) (r : Result T E) → OnOk r (u ≡ with_more t name (take n bytes))
    → OnErr r (MayAppend t name (take n bytes) u) → MayAppend t name bytes u
append_part t u name bytes n (Ok x) ok err = (n, ok)
append_part t u name bytes n (Err e) ok err = let f = take_twice err.0 n bytes in (f.0, err.1 ∙ ap (with_more t name) f.1)
