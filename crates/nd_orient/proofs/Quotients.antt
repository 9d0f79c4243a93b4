-- Quotients toward zero.
use lib.Signed.{lt_z}
use mathlib.Core.Bool.{beq}
use Rattle.std.proofs.Common.{◌≡◌, ℕ, zero, suc, ◌*◌, ◌/◌, ◌^◌, ◌<◌, ◌≤◌, min, Bool, true, false, ℤ, pos, negsuc, ◌+ℤ◌, ◌*ℤ◌, ◌≤ℤ◌, refl, ap, sym, ◌∙◌, arith}
use Rattle.std.specs.Prelude.{if◌then◌else◌}
use Rattle.std.specs.Int.{int_min, int_max}
use Rattle.std.specs.Int.RustNames.{int_div, unsigned_abs}
use Rattle.std.proofs.Math.Nat.{zero-div}
use Rattle.std.proofs.Math.IntN.{neg_ℤ}
use Rattle.std.proofs.lemmas.Bool.{le-ltb}
use Rattle.std.proofs.lemmas.Int.{ints, clamps}
use Rattle.nd_orient.specs.Correction.{nearest}

-- a number of this sign
abbrev pub signed : Bool → ℕ → ℤ
signed true n = neg_ℤ (pos n)
signed false n = pos n

-- whether it is below zero
abbrev pub is_negative : ℤ → Bool
is_negative (pos n) = false
is_negative (negsuc n) = true

abbrev pub differ : Bool → Bool → Bool
differ true b = if b then false else true
differ false b = b

div_negative : (n d : ℕ) → int_div (neg_ℤ (pos n)) (pos d) ≡ neg_ℤ (pos (n / d))
div_negative zero d = let none : 0 / d ≡ 0 = zero-div d in ap pos none ∙ sym (ap (λ q. neg_ℤ (pos q)) none)
div_negative (suc n) d = refl

-- the quotient of a product has the size of that of the sizes, and a sign where one of the two has one
pub int_div-product : (x y : ℤ) (d : ℕ) → int_div (x *ℤ y) (pos d) ≡ signed (differ (is_negative x) (is_negative y)) (unsigned_abs x * unsigned_abs y / d)
int_div-product (pos a) (pos b) d = refl
int_div-product (pos a) (negsuc b) d = div_negative (a * suc b) d
int_div-product (negsuc a) (pos b) d = div_negative (suc a * b) d
int_div-product (negsuc a) (negsuc b) d = refl

-- far from zero it doesn't matter how far
pub nearest-signed : (far n : ℕ) (s : Bool) → nearest (neg_ℤ (pos far)) (pos far) (signed s n) ≡ signed s (min n far)
nearest-signed far n true = omega (arith, ints, clamps)
nearest-signed far n false = omega (arith, ints, clamps)

pub nearest-nearest : (far : ℕ) (low high offset z : ℤ) → unsigned_abs low < 2 ^ 33 → unsigned_abs high < 2 ^ 33 → unsigned_abs offset < 2 ^ 33 → far ≡ 2 ^ 40
    → nearest low high (nearest (neg_ℤ (pos far)) (pos far) z +ℤ offset) ≡ nearest low high (z +ℤ offset)
nearest-nearest far low high offset z a b c e = omega (arith, ints, clamps)

-- the quotient near zero
pub quotient_near : (far : ℕ) (x y d : ℤ) (n : ℕ) → pos 1 ≤ℤ d → n ≡ min (unsigned_abs x * unsigned_abs y / unsigned_abs d) far
    → nearest (neg_ℤ (pos far)) (pos far) (int_div (x *ℤ y) d) ≡ signed (differ (is_negative x) (is_negative y)) n
quotient_near far x y (pos d) n h e =
    ap (nearest (neg_ℤ (pos far)) (pos far)) (int_div-product x y d)
    ∙ nearest-signed far (unsigned_abs x * unsigned_abs y / d) (differ (is_negative x) (is_negative y))
    ∙ ap (signed (differ (is_negative x) (is_negative y))) (sym e)
quotient_near far x y (negsuc d) n h e = absurd (omega (arith, ints))

below_zero : (x : ℤ) → lt_z x (pos 0) ≡ is_negative x
below_zero (pos a) = le-ltb a 0 (omega arith)
below_zero (negsuc a) = refl

not_different : (a b : Bool) → beq a b ≡ true → differ a b ≡ false
not_different true true h = refl
not_different true false h = sym h
not_different false true h = sym h
not_different false false h = refl

different : (a b : Bool) → beq a b ≡ false → differ a b ≡ true
different true true h = sym h
different true false h = refl
different false true h = refl
different false false h = sym h

-- what the test of two signs says
pub same_signs : (x y x' y' : ℤ) → x' ≡ x → y' ≡ y → beq (lt_z x' (pos 0)) (lt_z y' (pos 0)) ≡ true → differ (is_negative x) (is_negative y) ≡ false
same_signs x y x' y' e f h = rw (← e, ← f) (not_different (is_negative x') (is_negative y') (rw (← below_zero x', ← below_zero y') h))

pub other_signs : (x y x' y' : ℤ) → x' ≡ x → y' ≡ y → beq (lt_z x' (pos 0)) (lt_z y' (pos 0)) ≡ false → differ (is_negative x) (is_negative y) ≡ true
other_signs x y x' y' e f h = rw (← e, ← f) (different (is_negative x') (is_negative y') (rw (← below_zero x', ← below_zero y') h))

-- nothing near zero is farther than that
pub nearest-bound : (far : ℕ) (z : ℤ) → unsigned_abs (nearest (neg_ℤ (pos far)) (pos far) z) ≤ far
nearest-bound far z = omega (arith, ints, clamps)

-- the least and then the greatest of two
pub limited : (low high z least most : ℤ) → least ≡ int_min z high → most ≡ int_max least low → most ≡ nearest low high z
limited low high z least most e f = f ∙ ap (λ m. int_max m low) e ∙ turned (int_min z high) low
  where
    turned : (x y : ℤ) → int_max x y ≡ int_max y x
    turned x y = omega (arith, ints, clamps)
