-- How far samples of 16 bits lie from 2^15.
use Rattle.std.proofs.Common.{◌≡◌, ℕ, suc, ◌+◌, ◌-◌, ◌*◌, ◌/◌, ◌%◌, ◌<◌, ◌≤◌, ℤ, pos, negsuc, ◌+ℤ◌, inl, inr, to_z, of_z, bit_and, w32, ap, sym, ◌∙◌, arith}
use Rattle.std.specs.Int.{w16}
use Rattle.std.specs.Int.Bits.{bit_xor, xor_add_and}
use Rattle.std.specs.Int.Signed.{shr_z}
use Rattle.std.specs.Prelude.{unsigned_abs}
use Rattle.std.proofs.Math.Facts.{to_z-neg}
use Rattle.std.proofs.lemmas.Bool.{cases_lt}
use Rattle.std.proofs.lemmas.Int.{to_z_pos, to_z-of_z, fits_signed_from_abs, ints}
use Rattle.std.proofs.lemmas.Nat.Bits.{and_pow}

-- with bit 15 the other way
pub flip : (w : ℕ) → bit_xor w 32768 + w / 32768 % 2 * 65536 ≡ w + 32768
flip w =
    let a = xor_add_and w 32768 in
    let b : bit_and w 32768 ≡ w / 32768 % 2 * 32768 = and_pow w 15 in
    omega (arith, a, b)

below : (m q : ℕ) → m + q ≡ 32767 → negsuc m +ℤ pos 32768 ≡ pos q
below m q e = omega (arith, ints, e)

high_below : (w x m : ℕ) → w < 4294967296 → x + w / 32768 % 2 * 65536 ≡ w + 32768 → x < 2147483648 → m + x ≡ 2147483647 → m / 65536 + w / 65536 ≡ 32767
high_below w x m h e b s = omega (arith, h, e, b, s)

high_above : (w x : ℕ) → w < 4294967296 → x + w / 32768 % 2 * 65536 ≡ w + 32768 → 2147483648 ≤ x → (x - 2147483648) / 65536 + 32768 ≡ w / 65536
high_above w x h e b = omega (arith, h, e, b)

pub middle_high : (w x : ℕ) → w < 4294967296 → x + w / 32768 % 2 * 65536 ≡ w + 32768
    → shr_z (to_z w32 ((x + 2147483648) % 4294967296)) 65536 +ℤ pos 32768 ≡ pos (w / 65536)
middle_high w x h e = elim (cases_lt x 2147483648) [
  | inl b ↦
      let m = 2147483647 - x in
      let bits : (x + 2147483648) % 4294967296 ≡ 4294967296 - suc m = omega arith in
      ap (λ n. shr_z (to_z w32 n) 65536 +ℤ pos 32768) bits ∙ ap (λ z. shr_z z 65536 +ℤ pos 32768) (to_z-neg w32 m (omega arith))
      ∙ below (m / 65536) (w / 65536) (high_below w x m h e b (omega arith))
  | inr b ↦
      let n = x - 2147483648 in
      let bits : (x + 2147483648) % 4294967296 ≡ n = omega (arith, h, e, b) in
      ap (λ n. shr_z (to_z w32 n) 65536 +ℤ pos 32768) bits ∙ ap (λ z. shr_z z 65536 +ℤ pos 32768) (to_z_pos w32 n (omega (arith, h, e, b)))
      ∙ ap pos (high_above w x h e b)
]

pub middle_low : (w x : ℕ) → x + w / 32768 % 2 * 65536 ≡ w + 32768 → to_z w16 ((x + 2147483648) % 4294967296 % 65536) +ℤ pos 32768 ≡ pos (w % 65536)
middle_low w x e = elim (cases_lt (x % 65536) 32768) [
  | inl b ↦
      let bits : (x + 2147483648) % 4294967296 % 65536 ≡ x % 65536 = omega arith in
      ap (λ n. to_z w16 n +ℤ pos 32768) bits ∙ ap (λ z. z +ℤ pos 32768) (to_z_pos w16 (x % 65536) b)
      ∙ ap pos (let s : x % 65536 + 32768 ≡ w % 65536 = omega (arith, e, b) in s)
  | inr b ↦
      let m = 65535 - x % 65536 in
      let bits : (x + 2147483648) % 4294967296 % 65536 ≡ 65536 - suc m = omega arith in
      ap (λ n. to_z w16 n +ℤ pos 32768) bits ∙ ap (λ z. z +ℤ pos 32768) (to_z-neg w16 m (omega arith))
      ∙ below m (w % 65536) (omega (arith, e, b))
]

pub middle_fits : (s : ℤ) (q : ℕ) → s +ℤ pos 32768 ≡ pos q → q < 65536 → unsigned_abs s ≤ 32768
middle_fits (pos n) q e h = omega (arith, ints, e, h)
middle_fits (negsuc n) q e h = omega (arith, ints, e, h)

pub middle_stored : (s : ℤ) (q : ℕ) → s +ℤ pos 32768 ≡ pos q → q < 65536 → to_z w32 (of_z w32 s) +ℤ pos 32768 ≡ pos q
middle_stored s q e h = ap (λ z. z +ℤ pos 32768) (to_z-of_z w32 s (fits_signed_from_abs w32 s (let b = middle_fits s q e h in omega (arith, b)))) ∙ e

-- the square of how far a number lies from 2^15
pub middle_square : (s : ℤ) (q : ℕ) → s +ℤ pos 32768 ≡ pos q → unsigned_abs s * unsigned_abs s + 65536 * q ≡ q * q + 1073741824
middle_square (pos n) q e =
    let is : q ≡ n + 32768 = omega (arith, ints, e) in
    rw is (omega arith)
middle_square (negsuc n) q e =
    let is : q + suc n ≡ 32768 = omega (arith, ints, e) in
    square_below q (suc n) is
  where
    square_below : (q m : ℕ) → q + m ≡ 32768 → m * m + 65536 * q ≡ q * q + 1073741824
    square_below q m e =
        let both : (q + m) * (q + m) ≡ 1073741824 = ap (λ n. n * n) e in
        let twice : 65536 * q ≡ (q + m + (q + m)) * q = ap (λ n. (n + n) * q) (sym e) in
        omega (arith, both, twice)
