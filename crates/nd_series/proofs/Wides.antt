-- Sums in 128 bits of numbers of 64 bits.
use Rattle.std.proofs.Common.{◌≡◌, ◌+◌, ◌≤◌, ◌<◌, ◌^◌, ℤ, pos, negsuc, ◌+ℤ◌, to_z, of_z, w64, FitsSigned, arith, ◌∙◌}
use Rattle.std.specs.Prelude.{unsigned_abs, ◌-ℤ◌}
use Rattle.std.specs.Int.{w128}
use Rattle.std.proofs.lemmas.Int.{ints, to_z-of_z, fits_signed_from_abs}

pub abs_most : (z : ℤ) → FitsSigned w64 z → unsigned_abs z ≤ 2 ^ 63
abs_most (pos n) fits = let h = fits.sfits in omega arith
abs_most (negsuc n) fits = let h = fits.sfits in omega arith

abs_sum : (a b : ℤ) → unsigned_abs (a +ℤ b) ≤ unsigned_abs a + unsigned_abs b
abs_sum a b = omega (arith, ints)

abs_difference : (a b : ℤ) → unsigned_abs (a -ℤ b) ≤ unsigned_abs a + unsigned_abs b
abs_difference a b = omega (arith, ints)

-- what is added, or taken off, as it is stored
module _ (a b r : ℤ) (room : unsigned_abs a < 2 ^ 100) (fits : FitsSigned w64 b) (is : r ≡ to_z w64 (of_z w64 b)) where
  whole : r ≡ b
  whole = is ∙ to_z-of_z w64 b fits

  fits_a : FitsSigned w128 a
  fits_a = fits_signed_from_abs w128 a (omega arith)

  fits_b : FitsSigned w128 b
  fits_b = fits_signed_from_abs w128 b (let h = abs_most b fits in omega (arith, h))

  pub fits_sum : FitsSigned w128 (to_z w128 (of_z w128 a) +ℤ to_z w128 (of_z w128 r))
  fits_sum = rw (whole, to_z-of_z w128 a fits_a, to_z-of_z w128 b fits_b)
      (fits_signed_from_abs w128 (a +ℤ b) (let s = abs_sum a b in let h = abs_most b fits in omega (arith, s, h)))

  pub wide_sum : to_z w128 (of_z w128 (to_z w128 (of_z w128 a) +ℤ to_z w128 (of_z w128 r))) ≡ a +ℤ b
  wide_sum = to_z-of_z w128 (to_z w128 (of_z w128 a) +ℤ to_z w128 (of_z w128 r)) fits_sum
      ∙ rw (whole, to_z-of_z w128 a fits_a, to_z-of_z w128 b fits_b)

  pub fits_difference : FitsSigned w128 (to_z w128 (of_z w128 a) -ℤ to_z w128 (of_z w128 r))
  fits_difference = rw (whole, to_z-of_z w128 a fits_a, to_z-of_z w128 b fits_b)
      (fits_signed_from_abs w128 (a -ℤ b) (let s = abs_difference a b in let h = abs_most b fits in omega (arith, s, h)))

  pub wide_difference : to_z w128 (of_z w128 (to_z w128 (of_z w128 a) -ℤ to_z w128 (of_z w128 r))) ≡ a -ℤ b
  wide_difference = to_z-of_z w128 (to_z w128 (of_z w128 a) -ℤ to_z w128 (of_z w128 r)) fits_difference
      ∙ rw (whole, to_z-of_z w128 a fits_a, to_z-of_z w128 b fits_b)
