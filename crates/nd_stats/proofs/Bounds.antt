-- Bounds of sums.
use Rattle.std.proofs.Common.{ℕ, zero, suc, ◌*◌, ◌<◌, ◌≤◌, ◌^◌, Bool, true, false, cond, List, [], ◌∷◌, ◌++◌, length, filter, arith, ℤ, pos, ◌*ℤ◌, nat_lt}
use Rattle.std.proofs.Common.{sum_by}
use Rattle.std.specs.List.{list_all}
use Rattle.std.specs.Prelude.{unsigned_abs}
use Rattle.std.proofs.Math.Nat.{mul-le-mul, mul-le-mul_left, mul-le-mul_right, suc-mul}
use Rattle.std.proofs.lemmas.Bool.{and_parts, ltb-true}
use Rattle.std.proofs.lemmas.Int.{unsigned_abs-mul}
use Rattle.std.proofs.lemmas.List.Sums.{sum_by-cons}
use Rattle.nd_base.specs.declared.array.Dim.{Dim}
use Rattle.nd_base.specs.ShapeLaws.{sample_count-positive}
use Rattle.nd_base.specs.Shapes.{sample_count}
use Rattle.nd_base.specs.Places.{index_in, size_in}
use Rattle.nd_stats.specs.Samples.{Sample, sum_of}
use Rattle.nd_stats.specs.Measured.{square}
use Rattle.nd_base.specs.Samples.{IsSmall}
use Rattle.nd_stats.specs.Tallies.{AreSmall, HasRoom}
use Rattle.nd_stats.proofs.Sums.{abs-add, count-le}
use Rattle.nd_stats.proofs.Places.{AreSizes}

pub sum-bound : (f : Sample → ℤ) (b : ℕ) → ((s : Sample) → IsSmall s.value → unsigned_abs (f s) ≤ b) → (xs : List Sample) → AreSmall xs
    → unsigned_abs (sum_of f xs) ≤ length xs * b
sum-bound f b each [] small = omega arith
sum-bound f b each (s ∷ xs) small =
    let here = each s small.0 in
    let rest = sum-bound f b each xs small.1 in
    let both = abs-add (f s) (sum_of f xs) in
    let more = suc-mul (length xs) b in
    omega (arith, here, rest, both, more)

small_test : (s : Sample) (ys : List Sample) (b : Bool) → IsSmall s.value → AreSmall ys → AreSmall (cond b (s ∷ ys) ys)
small_test s ys true h small = (h, small)
small_test s ys false h small = small

pub AreSmall-filter : (p : Sample → Bool) (xs : List Sample) → AreSmall xs → AreSmall (filter p xs)
AreSmall-filter p [] small = tt
AreSmall-filter p (s ∷ xs) small = small_test s (filter p xs) (p s) small.0 (AreSmall-filter p xs small.1)

pub AreSmall-more : (xs : List Sample) (s : Sample) → AreSmall xs → IsSmall s.value → AreSmall (xs ++ s ∷ [])
AreSmall-more [] s small h = (h, tt)
AreSmall-more (t ∷ xs) s small h = (small.0, AreSmall-more xs s small.1 h)

pub sum_where-bound : (p : Sample → Bool) (f : Sample → ℤ) (b : ℕ) → ((s : Sample) → IsSmall s.value → unsigned_abs (f s) ≤ b) → (xs : List Sample)
    → AreSmall xs → unsigned_abs (sum_of f (filter p xs)) ≤ length xs * b
sum_where-bound p f b each xs small =
    let some = sum-bound f b each (filter p xs) (AreSmall-filter p xs small) in
    let fewer = mul-le-mul_right b (count-le p xs) in
    omega (arith, some, fewer)

pub value-bound : (s : Sample) → IsSmall s.value → unsigned_abs s.value ≤ 4294967296
value-bound s h = omega arith

-- with at most 67,108,864 samples
pub value_room : (xs : List Sample) → AreSmall xs → length xs ≤ 67108864 → HasRoom (sum_of (λ s. s.value) xs)
value_room xs small few = let b = sum-bound (λ s. s.value) 4294967296 value-bound xs small in omega (arith, b, few)

pub where_room : (p : Sample → Bool) (xs : List Sample) → AreSmall xs → length xs ≤ 67108864 → HasRoom (sum_of (λ s. s.value) (filter p xs))
where_room p xs small few = let b = sum_where-bound p (λ s. s.value) 4294967296 value-bound xs small in omega (arith, b, few)

pub moment-each : (dims : List Dim) (k : ℕ) → ((p : ℕ) → index_in dims k p ≤ 67108864) → (s : Sample) → IsSmall s.value
    → unsigned_abs (pos (index_in dims k s.place) *ℤ s.value) ≤ 288230376151711744
moment-each dims k within s h =
    let e = unsigned_abs-mul (pos (index_in dims k s.place)) s.value in
    let m : index_in dims k s.place * unsigned_abs s.value ≤ 67108864 * 4294967296 = mul-le-mul (within s.place) (value-bound s h) in
    rw e (omega (arith, m))

pub moment_room : (dims : List Dim) (k : ℕ) (p : Sample → Bool) → ((q : ℕ) → index_in dims k q ≤ 67108864) → (xs : List Sample) → AreSmall xs
    → length xs ≤ 67108864 → unsigned_abs (sum_of (λ s. pos (index_in dims k s.place) *ℤ s.value) (filter p xs)) < 2 ^ 100
moment_room dims k p within xs small few =
    let b = sum_where-bound p (λ s. pos (index_in dims k s.place) *ℤ s.value) 288230376151711744 (moment-each dims k within) xs small in
    omega (arith, b, few)

square-bound : (v : ℤ) → IsSmall v → square v ≤ 18446744073709551616
square-bound v h =
    let a : unsigned_abs v ≤ 4294967296 = omega arith in
    let m : unsigned_abs v * unsigned_abs v ≤ 4294967296 * 4294967296 = mul-le-mul a a in
    omega (arith, m)

squares-bound : (xs : List Sample) → AreSmall xs → sum_by (λ s. square s.value) xs ≤ length xs * 18446744073709551616
squares-bound [] small = omega arith
squares-bound (s ∷ xs) small =
    let here = square-bound s.value small.0 in
    let rest = squares-bound xs small.1 in
    let more = sum_by-cons (λ t. square t.value) s xs in
    omega (arith, here, rest, more)

pub squares_room : (xs : List Sample) → AreSmall xs → length xs ≤ 67108864 → sum_by (λ s. square s.value) xs < 2 ^ 100
squares_room xs small few = let b = squares-bound xs small in omega (arith, b, few)

-- no dimension is larger than the array
pub size-most : (dims : List Dim) (k : ℕ) → AreSizes dims → size_in dims k ≤ sample_count dims
size-most [] k h = omega arith
size-most (d ∷ dims) zero h =
    let parts = and_parts (nat_lt 0 d.size) (list_all (λ d. nat_lt 0 d.size) dims) h in
    let p = mul-le-mul_left d.size (sample_count-positive dims parts.1) in
    omega (arith, p)
size-most (d ∷ dims) (suc k) h =
    let parts = and_parts (nat_lt 0 d.size) (list_all (λ d. nat_lt 0 d.size) dims) h in
    let rest = size-most dims k parts.1 in
    let p = mul-le-mul_right (sample_count dims) (ltb-true 0 d.size parts.0) in
    omega (arith, p, rest)
