-- The numbers of two pieces in one.
use Rattle.std.proofs.Common.{◌≡◌, ℕ, zero, suc, ◌+◌, ◌<◌, ◌^◌, List, [], ◌∷◌, length, take, get_or, set, refl, ap, sym, ◌∙◌, arith, ℤ, pos, ◌+ℤ◌}
use Rattle.std.proofs.Common.{to_z, of_z, w64, FitsSigned}
use Rattle.std.specs.Int.{w128, Width}
use Rattle.std.specs.Prelude.{unsigned_abs}
use Rattle.std.proofs.lemmas.Int.{to_z-of_z, fits_signed_from_abs}
use Rattle.nd_stats.proofs.Sums.{abs-add}
use Rattle.nd_stats.specs.Samples.{table}
use Rattle.nd_stats.specs.Joined.{summed}
use Rattle.nd_stats.specs.Tallies.{HasRoom}

pub length-summed : (xs ys : List ℤ) → length (summed xs ys) ≡ length xs
length-summed [] ys = refl
length-summed (x ∷ xs) [] = refl
length-summed (x ∷ xs) (y ∷ ys) = ap suc (length-summed xs ys)

pub summed-nil : (xs : List ℤ) → summed xs [] ≡ xs
summed-nil [] = refl
summed-nil (x ∷ xs) = refl

-- a place that no partner has reached yet
pub get_or-summed : (xs ys : List ℤ) (k : ℕ) → get_or (summed xs (take k ys)) k (pos 0) ≡ get_or xs k (pos 0)
get_or-summed [] ys k = refl
get_or-summed (x ∷ xs) [] zero = refl
get_or-summed (x ∷ xs) [] (suc k) = refl
get_or-summed (x ∷ xs) (y ∷ ys) zero = refl
get_or-summed (x ∷ xs) (y ∷ ys) (suc k) = get_or-summed xs ys k

-- one partner more
pub summed-more : (xs ys : List ℤ) (k : ℕ) → k < length ys → length xs ≡ length ys
    → set (summed xs (take k ys)) k (get_or xs k (pos 0) +ℤ get_or ys k (pos 0)) ≡ summed xs (take (suc k) ys)
summed-more [] [] k h e = absurd (omega arith)
summed-more [] (y ∷ ys) k h e = absurd (omega arith)
summed-more (x ∷ xs) [] k h e = absurd (omega arith)
summed-more (x ∷ xs) (y ∷ ys) zero h e = ap (λ rest. (x +ℤ y) ∷ rest) (sym (summed-nil xs))
summed-more (x ∷ xs) (y ∷ ys) (suc k) h e = ap (λ rest. (x +ℤ y) ∷ rest) (summed-more xs ys k (omega arith) (omega arith))

-- tables place by place
pub summed-table : (f g : ℕ → ℤ) (k n : ℕ) → summed (table f k n) (table g k n) ≡ table (λ j. f j +ℤ g j) k n
summed-table f g k zero = refl
summed-table f g k (suc n) = ap (λ rest. (f k +ℤ g k) ∷ rest) (summed-table f g (k + 1) n)

pub stored_sum : (w : Width) (a b : ℤ) → FitsSigned w a → FitsSigned w b → FitsSigned w (a +ℤ b) → to_z w (of_z w (to_z w (of_z w a) +ℤ to_z w (of_z w b))) ≡ a +ℤ b
stored_sum w a b fa fb fs = simp to_z-of_z

pub fits_room : (v : ℤ) → HasRoom v → FitsSigned w64 v
fits_room v h = fits_signed_from_abs w64 v (omega arith)

pub fits_rooms : (a b : ℤ) → HasRoom a → HasRoom b → FitsSigned w64 (a +ℤ b)
fits_rooms a b ha hb = fits_signed_from_abs w64 (a +ℤ b) (let s = abs-add a b in omega (arith, s))

-- a sum of two that have room
pub room_sum : (a b : ℤ) → HasRoom a → HasRoom b → to_z w64 (of_z w64 (to_z w64 (of_z w64 a) +ℤ to_z w64 (of_z w64 b))) ≡ a +ℤ b
room_sum a b ha hb = stored_sum w64 a b (fits_room a ha) (fits_room b hb) (fits_rooms a b ha hb)

-- a sum that is stored, and one that has room
pub room_more : (a b : ℤ) → HasRoom a → HasRoom b → to_z w64 (of_z w64 (a +ℤ to_z w64 (of_z w64 b))) ≡ a +ℤ b
room_more a b ha hb =
    ap (λ z. to_z w64 (of_z w64 (a +ℤ z))) (to_z-of_z w64 b (fits_room b hb)) ∙ to_z-of_z w64 (a +ℤ b) (fits_rooms a b ha hb)

-- a sum of two moments
pub moment_sum : (a b : ℤ) → unsigned_abs a < 2 ^ 100 → unsigned_abs b < 2 ^ 100
    → to_z w128 (of_z w128 (to_z w128 (of_z w128 a) +ℤ to_z w128 (of_z w128 b))) ≡ a +ℤ b
moment_sum a b ha hb =
    stored_sum w128 a b (fits_signed_from_abs w128 a (omega arith)) (fits_signed_from_abs w128 b (omega arith))
    (fits_signed_from_abs w128 (a +ℤ b) (let s = abs-add a b in omega (arith, s)))
