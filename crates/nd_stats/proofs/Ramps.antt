-- Where the values of a histogram's range lie, in parts of a bin.
use Rattle.std.proofs.Common.{◌≡◌, ℕ, ◌+◌, ◌*◌, ◌/◌, ◌<◌, ◌≤◌, ◌^◌, ap, ◌∙◌, arith}
use Rattle.std.proofs.Math.Nat.{mul-le-mul, mul-le-mul_left, mul-le-mul_right, div-mul-le_self}
use Rattle.nd_stats.proofs.Quotients.{parts_quotient}

-- half of what a value more adds, rounded up
abbrev pub half_step : ℕ → ℕ
half_step range = 2 ^ 54 / (2 * range) + 1

-- the value that lies so far above the low end has so many halves of a step
pub halves : (a range last half : ℕ) → a * (2 * last * half) + range * half ≡ (2 * a * last + range) * half
halves a range last half = omega arith

-- which are few
halves_most : (a range last : ℕ) → a ≤ range → last ≤ 1023 → 2 * a * last + range ≤ 2047 * range
halves_most a range last within few = let p = mul-le-mul within few in omega (arith, p)

-- all half steps of a range are no more than the parts of a bin, and one for each
pub half_most : (range half : ℕ) → half ≡ half_step range → 2 * range * half ≤ 2 ^ 54 + 2 * range
half_most range half e =
    let p : 2 ^ 54 / (2 * range) * (2 * range) ≤ 2 ^ 54 = div-mul-le_self (2 ^ 54) (2 * range) in
    let q : half * (2 * range) ≡ 2 ^ 54 / (2 * range) * (2 * range) + 2 * range = rw e (omega arith) in
    omega (arith, p, q)

pub ramp_bins : (a range last half : ℕ) → 0 < range → range < 2 ^ 21 → a ≤ range → last ≤ 1023 → half ≡ half_step range
    → (a * (2 * last * half) + range * half) / 2 ^ 54 ≡ (2 * a * last + range) / (2 * range)
ramp_bins a range last half some short within few e =
    let n = 2 * a * last + range in
    let p : n * (2 * range) ≤ 2047 * range * (2 * range) = mul-le-mul_right (2 * range) (halves_most a range last within few) in
    let most : range ≤ 2097151 = omega (arith, short) in
    let q : range * range ≤ 2097151 * 2097151 = mul-le-mul most most in
    ap (λ k. k / 2 ^ 54) (halves a range last half)
    ∙ parts_quotient n (2 * range) (2 ^ 54) half (omega (arith, some)) e (omega (arith, p, q))

pub ramp_fits : (a range last half : ℕ) → range < 2 ^ 21 → a ≤ range → last ≤ 1023 → half ≡ half_step range
    → a * (2 * last * half) + range * half < 2 ^ 64
ramp_fits a range last half short within few e =
    let p : (2 * a * last + range) * half ≤ 2047 * range * half = mul-le-mul_right half (halves_most a range last within few) in
    omega (arith, halves a range last half, p, half_most range half e, short)

-- a whole step fits
pub step_fits : (range last half : ℕ) → 0 < range → last ≤ 1023 → half ≡ half_step range → 2 * last * half < 2 ^ 64
step_fits range last half some few e =
    let q : last * half ≤ 1023 * half = mul-le-mul_right half few in
    omega (arith, one_step range half e some, q)
  where
    one_step : (range half : ℕ) → half ≡ half_step range → 0 < range → half ≤ 9007199254740993
    one_step range half e some =
        let times = 2 ^ 54 / (2 * range) in
        let p : times * (2 * range) ≤ 2 ^ 54 = div-mul-le_self (2 ^ 54) (2 * range) in
        let q : times * 1 ≤ times * range = mul-le-mul_left times some in
        omega (arith, p, q, e)
