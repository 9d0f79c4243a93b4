-- Lanes of which the sum is known, but for what leaves them.
use Rattle.std.proofs.Common.{◌≡◌, ℕ, zero, suc, ◌+◌, ◌*◌, ◌%◌, ◌^◌, ◌/◌, ◌<◌, ◌≤◌, ◌≢◌, List, [], ◌∷◌, length, map, take, drop, replicate, FitsSigned, w32, w64, to_z, of_z, ℤ, pos, ◌+ℤ◌, refl, ap, sym, subst, ◌∙◌, arith, suc-mul, mul-le-mul}
use Rattle.std.specs.Prelude.{unsigned_abs}
use Rattle.std.specs.Int.{Width, int_wrap}
use Rattle.std.specs.Simd.Lanes.{Each1, zip2, fold_l, sum_l}
use Rattle.std.proofs.Math.Facts.{Fits-of_z}
use Rattle.std.proofs.Math.Nat.{mod-mod, mod-add-mod, mod-eq_of_lt, zero-mod}
use Rattle.std.proofs.lemmas.Int.{to_z-of_z, fits_signed_from_abs, int_wrap_fits, int_wrap-add_left, int_wrap-add_right}
use Rattle.std.proofs.lemmas.List.{length-map}
use Rattle.std.proofs.lemmas.Simd.{length-zip2, length-replicate, Each1-weaker}
use Rattle.nd_base.specs.declared.array.SampleType.{SampleType}
use Rattle.nd_base.specs.Samples.{width, number, numbers, samples_of}
use Rattle.nd_base.specs.declared.array.SampleType.TheVariants.{UInt16}
use Rattle.nd_base.specs.SampleLaws.{AreBytes, length-numbers, number-IsSample, sample-IsSmall}
use Rattle.std.proofs.lemmas.List.Elements.{All-take, All-drop}
use Rattle.lane_kernels.specs.Plain.{total, squares, square}
use Rattle.lane_kernels.proofs.Samples.{total-append, squares-append, abs-add}
use Rattle.lane_kernels.proofs.Rows.{narrow_fits, wide_fits, squares_fit, fits_wider, bits_wider}
use Rattle.lane_kernels.proofs.Slices.{numbers-split, samples_behind}
use mir.Val.{bits}

-- sums of lanes that wrap at m
module _ (m : ℕ) where
  sum_zipped : (bs cs : List ℕ) → length bs ≡ length cs → sum_l (zip2 (λ a b. (a + b) % m) bs cs) % m ≡ (sum_l bs + sum_l cs) % m
  sum_zipped [] [] e = refl
  sum_zipped [] (c ∷ cs) e = absurd (omega (arith, e))
  sum_zipped (b ∷ bs) [] e = absurd (omega (arith, e))
  sum_zipped (b ∷ bs) (c ∷ cs) e =
      let rest = sum_l (zip2 (λ a b. (a + b) % m) bs cs) in
      let turned : b + c + rest ≡ rest + (b + c) = omega arith in
      let regrouped : sum_l bs + sum_l cs + (b + c) ≡ b + sum_l bs + (c + sum_l cs) = omega arith in
      mod-add-mod (b + c) m rest ∙ ap (λ n. n % m) turned ∙ sym (mod-add-mod rest m (b + c))
      ∙ ap (λ n. (n + (b + c)) % m) (sum_zipped bs cs (omega (arith, e))) ∙ mod-add-mod (sum_l bs + sum_l cs) m (b + c) ∙ ap (λ n. n % m) regrouped

  sum_folded : (a : ℕ) (bs : List ℕ) → a % m ≡ a → fold_l (λ s b. (s + b) % m) a bs ≡ (a + sum_l bs) % m
  sum_folded a [] e = let none : a ≡ a + 0 = omega arith in sym e ∙ ap (λ n. n % m) none
  sum_folded a (b ∷ bs) e =
      let regrouped : a + b + sum_l bs ≡ a + (b + sum_l bs) = omega arith in
      sum_folded ((a + b) % m) bs (mod-mod (a + b) m) ∙ mod-add-mod (a + b) m (sum_l bs) ∙ ap (λ n. n % m) regrouped

-- n lanes of so many bits that add up to z, but for what left them
abbrev pub IsSummed : Width → ℕ → List ℕ → ℤ → Type 0
IsSummed w n bs z = (length bs ≡ n) × (int_wrap w (pos (sum_l bs)) ≡ int_wrap w z)

module _ (w : Width) where
  read : (n : ℕ) → to_z w (n % 2 ^ bits w) ≡ int_wrap w (pos n)
  unfolding int_wrap
  read n = refl

  wrapped : (n : ℕ) → int_wrap w (pos (n % 2 ^ bits w)) ≡ int_wrap w (pos n)
  wrapped n = sym (read (n % 2 ^ bits w)) ∙ ap (to_z w) (mod-mod n (2 ^ bits w)) ∙ read n

  wrapped_both : (a b y z : ℤ) → int_wrap w a ≡ int_wrap w y → int_wrap w b ≡ int_wrap w z → int_wrap w (a +ℤ b) ≡ int_wrap w (y +ℤ z)
  wrapped_both a b y z e f =
      sym (int_wrap-add_left w a b) ∙ ap (λ v. int_wrap w (v +ℤ b)) e ∙ int_wrap-add_left w y b
      ∙ sym (int_wrap-add_right w y b) ∙ ap (λ v. int_wrap w (y +ℤ v)) f ∙ int_wrap-add_right w y z

  -- lanes that were added up
  pub summed_both : (n : ℕ) (bs cs : List ℕ) (y z : ℤ) → IsSummed w n bs y → IsSummed w n cs z → IsSummed w n (zip2 (λ a b. (a + b) % 2 ^ bits w) bs cs) (y +ℤ z)
  summed_both n bs cs y z p q =
      let m = 2 ^ bits w in
      let f : ℕ → ℕ → ℕ = λ a b. (a + b) % m in
      let same : length bs ≡ length cs = p.0 ∙ sym q.0 in (
        length-zip2 f bs cs same ∙ p.0,
        sym (wrapped (sum_l (zip2 f bs cs))) ∙ ap (λ k. int_wrap w (pos k)) (sum_zipped m bs cs same) ∙ wrapped (sum_l bs + sum_l cs)
            ∙ wrapped_both (pos (sum_l bs)) (pos (sum_l cs)) y z p.1 q.1,
      )

  -- lanes of numbers
  pub summed_row : (n : ℕ) (vs : List ℤ) → length vs ≡ n → Each1 (FitsSigned w) vs → IsSummed w n (map (of_z w) vs) (total vs)
  summed_row n vs long fits = (length-map vs (of_z w) ∙ long, sum vs fits)
    where
      sum : (vs : List ℤ) → Each1 (FitsSigned w) vs → int_wrap w (pos (sum_l (map (of_z w) vs))) ≡ int_wrap w (total vs)
      sum [] f = refl
      sum (v ∷ vs) f =
          let small = (Fits-of_z f.0).fits in
          let first : int_wrap w (pos (of_z w v)) ≡ int_wrap w v =
          sym (read (of_z w v)) ∙ ap (to_z w) (mod-eq_of_lt small) ∙ to_z-of_z w v f.0 ∙ sym (int_wrap_fits w v f.0) in
          wrapped_both (pos (of_z w v)) (pos (sum_l (map (of_z w) vs))) v (total vs) first (sum vs f.1)

  pub summed_none : (n : ℕ) → IsSummed w n (replicate n 0) (pos 0)
  summed_none n = (length-replicate n 0, ap (λ k. int_wrap w (pos k)) (none n))
    where
      none : (n : ℕ) → sum_l (replicate n 0) ≡ 0
      none zero = refl
      none (suc n) = let e = none n in omega (arith, e)

  -- the sum of the lanes, where it fits
  pub summed : (n : ℕ) (bs : List ℕ) (z : ℤ) → IsSummed w n bs z → FitsSigned w z → to_z w (fold_l (λ a b. (a + b) % 2 ^ bits w) 0 bs) ≡ z
  summed n bs z p fits =
      let none : 0 + sum_l bs ≡ sum_l bs = omega arith in
      ap (to_z w) (sum_folded (2 ^ bits w) 0 bs (zero-mod (2 ^ bits w)) ∙ ap (λ k. k % 2 ^ bits w) none) ∙ read (sum_l bs) ∙ p.1 ∙ int_wrap_fits w z fits

-- what squares add up to
pub total-squares : (vs : List ℤ) → total (map square vs) ≡ pos (squares vs)
total-squares [] = refl
total-squares (v ∷ vs) = ap (λ z. square v +ℤ z) (total-squares vs)

-- rows of samples
module _ (kind : SampleType) (n : ℕ) (bytes : List ℕ) (small : AreBytes bytes) (row : List ℤ) where
  pub summed_narrow : width kind ≤ 2 → row ≡ numbers kind n bytes → IsSummed w32 n (map (of_z w32) row) (total (numbers kind n bytes))
  summed_narrow few e = subst (λ r. IsSummed w32 n (map (of_z w32) r) (total (numbers kind n bytes))) (sym e)
      (summed_row w32 n (numbers kind n bytes) (length-numbers kind n bytes) (narrow_fits kind few n bytes small))

  pub summed_wide : row ≡ numbers kind n bytes → IsSummed w64 n (map (of_z w64) row) (total (numbers kind n bytes))
  summed_wide e = subst (λ r. IsSummed w64 n (map (of_z w64) r) (total (numbers kind n bytes))) (sym e)
      (summed_row w64 n (numbers kind n bytes) (length-numbers kind n bytes) (wide_fits kind n bytes small))

  module _ (few : width kind ≤ 2) (other : kind ≢ UInt16) (e : row ≡ map square (numbers kind n bytes)) where
    long : length (map square (numbers kind n bytes)) ≡ n
    long = length-map (numbers kind n bytes) square ∙ length-numbers kind n bytes

    fits : Each1 (FitsSigned w32) (map square (numbers kind n bytes))
    fits = squares_fit kind few other n bytes small

    pub summed_squares : IsSummed w32 n (map (of_z w32) row) (pos (squares (numbers kind n bytes)))
    summed_squares = subst (λ r. IsSummed w32 n (map (of_z w32) r) (pos (squares (numbers kind n bytes)))) (sym e)
        (subst (IsSummed w32 n _) (total-squares (numbers kind n bytes)) (summed_row w32 n (map square (numbers kind n bytes)) long fits))

    -- the same, in lanes of 64 bits
    pub summed_squares_wide : IsSummed w64 n (map (λ b. of_z w64 (to_z w32 b)) (map (of_z w32) row)) (pos (squares (numbers kind n bytes)))
    summed_squares_wide = subst (λ r. IsSummed w64 n (map (λ b. of_z w64 (to_z w32 b)) (map (of_z w32) r)) (pos (squares (numbers kind n bytes)))) (sym e)
        (subst (λ bs. IsSummed w64 n bs (pos (squares (numbers kind n bytes)))) (sym (bits_wider (map square (numbers kind n bytes)) fits))
        (subst (IsSummed w64 n _) (total-squares (numbers kind n bytes)) (summed_row w64 n (map square (numbers kind n bytes)) long
        (Each1-weaker (FitsSigned w32) (FitsSigned w64) fits_wider (map square (numbers kind n bytes)) fits))))

-- a front and a row behind it
pub total-row : (kind : SampleType) (k n : ℕ) (bytes : List ℕ)
    → total (numbers kind (k + n) bytes) ≡ total (numbers kind k bytes) +ℤ total (numbers kind n (drop (k * width kind) bytes))
total-row kind k n bytes = ap total (numbers-split kind k n bytes) ∙ total-append (numbers kind k bytes) (numbers kind n (drop (k * width kind) bytes))

pub squares-row : (kind : SampleType) (k n : ℕ) (bytes : List ℕ)
    → squares (numbers kind (k + n) bytes) ≡ squares (numbers kind k bytes) + squares (numbers kind n (drop (k * width kind) bytes))
squares-row kind k n bytes = ap squares (numbers-split kind k n bytes) ∙ squares-append (numbers kind k bytes) (numbers kind n (drop (k * width kind) bytes))

-- the most that so many samples add up to
pub total_most : (b : ℕ) (kind : SampleType) → ((bytes : List ℕ) → AreBytes bytes → unsigned_abs (number kind bytes) ≤ b)
    → (n : ℕ) (bytes : List ℕ) → AreBytes bytes → unsigned_abs (total (numbers kind n bytes)) ≤ n * b
total_most b kind most zero bytes small = omega arith
total_most b kind most (suc n) bytes small =
    let first = most (take (width kind) bytes) (All-take (λ b. b < 256) (width kind) bytes small) in
    let rest = total_most b kind most n (drop (width kind) bytes) (All-drop (λ b. b < 256) (width kind) bytes small) in
    let both = abs-add (number kind (take (width kind) bytes)) (total (numbers kind n (drop (width kind) bytes))) in
    let more = suc-mul n b in
    omega (arith, first, rest, both, more)

pub squares_most : (b : ℕ) (kind : SampleType) → ((bytes : List ℕ) → AreBytes bytes → unsigned_abs (number kind bytes) ≤ b)
    → (n : ℕ) (bytes : List ℕ) → AreBytes bytes → squares (numbers kind n bytes) ≤ n * (b * b)
squares_most b kind most zero bytes small = omega arith
squares_most b kind most (suc n) bytes small =
    let first = most (take (width kind) bytes) (All-take (λ b. b < 256) (width kind) bytes small) in
    let square = mul-le-mul first first in
    let rest = squares_most b kind most n (drop (width kind) bytes) (All-drop (λ b. b < 256) (width kind) bytes small) in
    let more = suc-mul n (b * b) in
    omega (arith, square, rest, more)

pub total_fits : (kind : SampleType) (n : ℕ) (bytes : List ℕ) → n ≤ 67108864 → AreBytes bytes → FitsSigned w64 (total (numbers kind n bytes))
total_fits kind n bytes few small =
    let most = total_most 4294967296 kind
    (λ b s. let a = sample-IsSmall kind (number kind b) (number-IsSample kind b s) in omega (arith, a)) n bytes small in
    fits_signed_from_abs w64 (total (numbers kind n bytes)) (omega (arith, most, few))

-- a sum in 64 bits
pub whole_sum : (a v z : ℤ) → FitsSigned w64 v → FitsSigned w64 z → a +ℤ v ≡ z → to_z w64 (of_z w64 (a +ℤ to_z w64 (of_z w64 v))) ≡ z
whole_sum a v z f g e = ap (λ x. to_z w64 (of_z w64 (a +ℤ x))) (to_z-of_z w64 v f) ∙ ap (λ x. to_z w64 (of_z w64 x)) e ∙ to_z-of_z w64 z g

-- a front and all that is behind it
pub total-behind : (kind : SampleType) (k : ℕ) (bytes : List ℕ) → k ≤ length bytes / width kind
    → total (samples_of kind bytes) ≡ total (numbers kind k bytes) +ℤ total (samples_of kind (drop (k * width kind) bytes))
total-behind kind k bytes within = ap total (samples_behind kind k bytes within) ∙ total-append (numbers kind k bytes) (samples_of kind (drop (k * width kind) bytes))

pub squares-behind : (kind : SampleType) (k : ℕ) (bytes : List ℕ) → k ≤ length bytes / width kind
    → squares (samples_of kind bytes) ≡ squares (numbers kind k bytes) + squares (samples_of kind (drop (k * width kind) bytes))
squares-behind kind k bytes within = ap squares (samples_behind kind k bytes within) ∙ squares-append (numbers kind k bytes) (samples_of kind (drop (k * width kind) bytes))
