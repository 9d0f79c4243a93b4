-- Squares in 64 bits, and sums of them that wrap.
use Rattle.std.proofs.Common.{◌≡◌, ℕ, suc, ◌+◌, ◌-◌, ◌*◌, ◌%◌, ◌<◌, ◌≤◌, ◌^◌, ℤ, pos, negsuc, of_z, w64, List, get_or, Fits, w8, ap, ◌∙◌, sym, arith}
use Rattle.std.specs.Prelude.{unsigned_abs}
use Rattle.std.proofs.Math.Nat.{mul-le-mul, mod-add-mod}
use Rattle.std.proofs.lemmas.Nat.{mod-mul-add}
use Rattle.nd_base.specs.declared.array.SampleType.{SampleType}
use Rattle.nd_base.specs.Samples.{width}
use Rattle.lane_kernels.specs.Plain.{stored}
use Rattle.lane_kernels.proofs.Narrow.{narrow_stored}

square_below : (n : ℕ) → n < 2 ^ 32 → n * n < 2 ^ 64
square_below n h =
    let a : n ≤ 4294967295 = omega arith in
    let m : n * n ≤ 4294967295 * 4294967295 = mul-le-mul a a in
    omega (arith, m)

-- the square of what a number lacks of another
square_left : (d m : ℕ) → (d + m) * (d + m) ≡ d * (d + m + m) + m * m
square_left d m = omega arith

-- the bits of a number of at most 32, squared in 64 bits
pub bits_squared : (v : ℤ) → unsigned_abs v < 2 ^ 32 → (of_z w64 v * of_z w64 v) % 2 ^ 64 ≡ unsigned_abs v * unsigned_abs v
bits_squared (pos n) h = let b = square_below n h in omega (arith, b)
bits_squared (negsuc n) h =
    let m = suc n in
    let d = 18446744073709551616 - (m + m) in
    let b = square_below m h in
    let bits : of_z w64 (negsuc n) ≡ d + m = omega arith in
    let all : d + m + m ≡ 2 ^ 64 = omega arith in
    let more : (d + m) * (d + m) ≡ d * 2 ^ 64 + m * m = square_left d m ∙ ap (λ x. d * x + m * m) all in
    ap (λ x. (x * x) % 2 ^ 64) bits ∙ ap (λ x. x % 2 ^ 64) more ∙ mod-mul-add d (2 ^ 64) (m * m) b

-- the sum that wraps, with one square more
pub wraps_more : (sum more square : ℕ) → more ≡ sum + square → (sum % 2 ^ 64 + square) % 2 ^ 64 ≡ more % 2 ^ 64
wraps_more sum more square e = mod-add-mod sum (2 ^ 64) square ∙ ap (λ x. x % 2 ^ 64) (sym e)

-- a square of at most 16 bits
pub narrow_squared : (kind : SampleType) (bytes : List ℕ) (p : ℕ) → ((i : ℕ) → Fits w8 (get_or bytes i 0)) → width kind ≤ 2 →
    unsigned_abs (stored kind bytes p) * unsigned_abs (stored kind bytes p) ≤ 4294836225
narrow_squared kind bytes p fit few = let a = narrow_stored kind bytes p fit few in mul-le-mul a a
