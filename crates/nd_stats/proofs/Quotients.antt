-- A quotient by a product: m is how often d goes into the greatest number of 64 bits, and q is n times m without its lowest 64 bits.
use Rattle.std.proofs.Common.{◌≡◌, ℕ, ◌+◌, ◌*◌, ◌/◌, ◌<◌, ◌≤◌, sym, inl, inr, arith}
use Rattle.std.proofs.lemmas.Bool.{cases_lt}
use Rattle.std.proofs.Math.Nat.{mul-le-mul_left, mul-le-mul_right, div-mul-le_self, lt-div-mul-add, div-eq_of_lt-le}

-- it is not too high
near_low : (n d m q : ℕ) → m * d ≤ 18446744073709551615 → q * 18446744073709551616 ≤ n * m → q * d ≤ n
near_low n d m q fits near =
    let a : q * 18446744073709551616 * d ≤ n * m * d = mul-le-mul_right d near in
    let b : n * (m * d) ≤ n * 18446744073709551615 = mul-le-mul_left n fits in
    omega (arith, a, b)

-- and at most one too low
near_high : (n d m q : ℕ) → 0 < d → n ≤ 18446744073709551616 → 18446744073709551616 ≤ m * d + d → n * m < q * 18446744073709551616 + 18446744073709551616
    → n < q * d + 2 * d
near_high n d m q some small fits near =
    let a : (n * m + 1) * d ≤ (q * 18446744073709551616 + 18446744073709551616) * d = mul-le-mul_right d (omega (arith, near)) in
    let b : n * 18446744073709551616 ≤ n * (m * d + d) = mul-le-mul_left n fits in
    let c : n * d ≤ 18446744073709551616 * d = mul-le-mul_right d small in
    omega (arith, a, b, c, some)

pub near_quotient : (n d m : ℕ) → 0 < d → n < 18446744073709551616 → m ≡ 18446744073709551615 / d → (let q = n * m / 18446744073709551616 in
    (q * d ≤ n) × (n < q * d + 2 * d))
near_quotient n d m some small e =
    let q = n * m / 18446744073709551616 in
    let within : m * d ≤ 18446744073709551615 = rw e (div-mul-le_self 18446744073709551615 d) in
    let beyond : 18446744073709551615 < m * d + d = rw e (lt-div-mul-add some) in
    let low : q * 18446744073709551616 ≤ n * m = div-mul-le_self (n * m) 18446744073709551616 in
    let high : n * m < q * 18446744073709551616 + 18446744073709551616 = lt-div-mul-add (omega arith) in
    (near_low n d m q within low, near_high n d m q some (omega (arith, small)) (omega (arith, beyond)) high)

pub is_quotient : (n d q : ℕ) → q * d ≤ n → n < q * d + d → q ≡ n / d
is_quotient n d q low high = sym (div-eq_of_lt-le d low (omega (arith, high)))

-- A quotient by a product with what is rounded up: m is how often d goes into p, and one more, and q times d is the greatest that n holds.
parts_low : (n d p m q : ℕ) → p ≤ m * d → q * d ≤ n → q * p ≤ n * m
parts_low n d p m q beyond low =
    let a : q * p ≤ q * (m * d) = mul-le-mul_left q beyond in
    let b : q * d * m ≤ n * m = mul-le-mul_right m low in
    omega (arith, a, b)

parts_high : (n d p m q : ℕ) → m * d ≤ p + d → n < q * d + d → n * d < p → n * m < q * p + p
parts_high n d p m q near high few =
    elim (cases_lt (n * m) (q * p + p)) [
      | inl below ↦ below
      | inr over ↦ absurd (let a : (q * p + p) * d ≤ n * m * d = mul-le-mul_right d over in let b : n * (m * d) ≤ n * (p + d) = mul-le-mul_left n near in
          let c : (n + 1) * p ≤ (q * d + d) * p = mul-le-mul_right p (omega (arith, high)) in omega (arith, a, b, c, few))
    ]

-- where p is more than n times d, the product, in parts of p, is the quotient
pub parts_quotient : (n d p m : ℕ) → 0 < d → m ≡ p / d + 1 → n * d < p → n * m / p ≡ n / d
parts_quotient n d p m some e few =
    let q = n / d in
    let within : p / d * d ≤ p = div-mul-le_self p d in
    let beyond : p < p / d * d + d = lt-div-mul-add some in
    let times : m * d ≡ p / d * d + d = rw e (omega arith) in
    let low = parts_low n d p m q (omega (arith, beyond, times)) (div-mul-le_self n d) in
    let high = parts_high n d p m q (omega (arith, within, times)) (lt-div-mul-add some) few in
    div-eq_of_lt-le p low (omega (arith, high))
