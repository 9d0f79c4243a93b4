-- Sums that were gathered, and their samples as bytes.
use Rattle.std.proofs.Common.{◌≡◌, ℕ, ◌+◌, ◌-◌, ◌*◌, ◌<◌, true, false, ℤ, pos, negsuc, ◌+ℤ◌, List, length, get_or, map, reverse, FitsSigned, refl, ap, sym}
use Rattle.std.proofs.Common.{◌∙◌, arith}
use Rattle.std.specs.Int.{w32, w64, int_wrap}
use Rattle.std.specs.Int.RustNames.{int_div, int_rem, unsigned_abs}
use Rattle.std.specs.List.{range_with_len, flat_map}
use Rattle.std.proofs.lemmas.Int.{ints, int_wrap_fits, quot-rem, rem_below}
use Rattle.std.proofs.lemmas.List.{ext_get_or, get_or-reverse, length-reverse}
use Rattle.std.proofs.lemmas.List.FromFn.{length-map-range_with_len, get_or-map-range_with_len}
use Rattle.std.proofs.lemmas.List.Folds.{flat_map-map}
use Rattle.nd_base.specs.declared.array.SampleType.{SampleType}
use Rattle.nd_roi.specs.declared.cut.Cut.{Cut}
use Rattle.nd_roi.specs.Walk.{covers_from}
use Rattle.nd_roi.specs.Walk.{bytes_of}
use Rattle.nd_roi.proofs.Bytes.{bytes_of-low}
use Rattle.nd_roi.proofs.Places.{flat_map-cong}

-- each sum began at zero, and none wrapped
pub from_zero : (z v : ℤ) → z ≡ pos 0 → FitsSigned w64 v → int_wrap w64 (z +ℤ v) ≡ v
from_zero z v e fits = let f : z +ℤ v ≡ v = omega (arith, ints) in ap (int_wrap w64) f ∙ int_wrap_fits w64 v fits

pub low_from_zero : (z v : ℤ) → z ≡ pos 0 → int_wrap w32 (z +ℤ v) ≡ int_wrap w32 v
low_from_zero z v e = let f : z +ℤ v ≡ v = omega (arith, ints) in ap (int_wrap w32) f

pub covers_from-forward : (c : Cut) (out : ℕ) → c.reverse ≡ false → covers_from c out ≡ c.min + out * c.bin
covers_from-forward c out h = rw h refl

pub covers_from-reversed : (c : Cut) (out : ℕ) → c.reverse ≡ true → covers_from c out ≡ c.min + (c.size - 1 - out) * c.bin
covers_from-reversed c out h = rw h refl

-- where a bin begins
pub bin_place : (base min bin first k m covered : ℕ) → first + k ≡ m → covered ≡ min + m * bin → base + min + first * bin + k * bin ≡ base + covered
bin_place base min bin first k m covered e f = let g : (first + k) * bin ≡ m * bin = ap (λ x. x * bin) e in omega (arith, f, g)

pub in_order : (f : ℕ → ℤ) (from n : ℕ) (ys : List ℤ) → length ys ≡ n → ((k : ℕ) → k < n → get_or ys k (pos 0) ≡ f (from + k))
    → ys ≡ map f (range_with_len from n)
in_order f from n ys long each =
    ext_get_or (pos 0) ys (map f (range_with_len from n)) (long ∙ sym (length-map-range_with_len f from n))
    (λ i h. let below : i < n = omega arith in each i below ∙ sym (get_or-map-range_with_len f from n i (from + i) (pos 0) below refl))

pub in_reverse : (f : ℕ → ℤ) (from n : ℕ) (ys : List ℤ) → length ys ≡ n → ((k : ℕ) → k < n → get_or ys (n - 1 - k) (pos 0) ≡ f (from + k))
    → reverse ys ≡ map f (range_with_len from n)
in_reverse f from n ys long each =
    in_order f from n (reverse ys) (length-reverse ys ∙ long)
    (λ k h. let below : k < length ys = omega arith in get_or-reverse ys k (pos 0) below ∙ ap (λ m. get_or ys (m - 1 - k) (pos 0)) long ∙ each k h)

none_left : (r : ℤ) → unsigned_abs r < 1 → r ≡ pos 0
none_left (pos n) h = ap pos (omega arith)
none_left (negsuc n) h = absurd (omega arith)

pub int_div-one : (z : ℤ) → int_div z (pos 1) ≡ z
int_div-one z =
    let q = quot-rem z (pos 1) in
    let r = none_left (int_rem z (pos 1)) (rem_below z (pos 1) (omega arith)) in
    omega (arith, ints, q, r)

-- the bytes of what is left of the quotients in 32 bits
pub low_bytes : (kind : SampleType) (quotient : ℕ → ℤ) (outs : List ℕ)
    → flat_map (bytes_of kind) (map (λ out. int_wrap w32 (quotient out)) outs) ≡ flat_map (λ out. bytes_of kind (quotient out)) outs
low_bytes kind quotient outs = flat_map-map (bytes_of kind) (λ out. int_wrap w32 (quotient out)) outs
    ∙ flat_map-cong _ _ outs (λ out. bytes_of-low kind (quotient out))

-- a sum divided by 1 is the sum
pub undivided : (kind : SampleType) (total : ℕ → ℤ) (scale : ℕ) (outs : List ℕ) → scale ≡ 1
    → flat_map (λ out. bytes_of kind (total out)) outs ≡ flat_map (λ out. bytes_of kind (int_div (total out) (pos scale))) outs
undivided kind total scale outs one = rw one (simp int_div-one)
