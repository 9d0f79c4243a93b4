-- Laws of cuts: what is cut out lies within the dimension, and a region has the dimensions of an array.
use Rattle.std.specs.Prelude.{◌≡◌, ℕ, suc, ◌+◌, ◌-◌, ◌*◌, ◌/◌, ◌<◌, ◌≤◌, nat_lt, nat_le, not, ◌&&◌, ◌==◌, Bool, true, false, ℤ, pos, negsuc, List, [], ◌∷◌}
use Rattle.std.specs.Prelude.{length, slice_index_or, if◌then◌else◌, IsTrue, refl}
use Rattle.std.specs.List.{list_all}
use Rattle.std.proofs.Common.{ap, ◌∙◌, arith}
use Rattle.std.proofs.Math.Nat.{div-mul-le_self, mul-le-mul, mul-le-mul_left}
use Rattle.std.proofs.lemmas.Nat.{le-div}
use Rattle.std.proofs.lemmas.Bool.{and_parts, ltb-true, lt-ltb}
use Rattle.nd_base.specs.declared.array.Dim.{Dim}
use Rattle.nd_base.specs.declared.graph.RoiRule.{RoiRule}
use Rattle.nd_base.specs.Shapes.{sample_count, has_dimensions}
use Rattle.nd_base.specs.ShapeLaws.{has_dimensions-none_empty}
use Rattle.nd_roi.specs.Groups.{Groups}
use Rattle.nd_roi.specs.Cut.{clamped, first_index, takes_rest, span, bin, cut, dims_from, region_dims}

clamped-low : (low high : ℕ) (z : ℤ) → low ≤ high → low ≤ clamped low high z
clamped-low low high (pos n) h = omega arith
clamped-low low high (negsuc n) h = omega arith

clamped-high : (low high : ℕ) (z : ℤ) → low ≤ high → clamped low high z ≤ high
clamped-high low high (pos n) h = omega arith
clamped-high low high (negsuc n) h = omega arith

span-low : (b : Bool) (left : ℕ) (z : ℤ) → 1 ≤ left → 1 ≤ (if b then left else clamped 1 left z)
span-low true left z h = h
span-low false left z h = clamped-low 1 left z h

span-high : (b : Bool) (left : ℕ) (z : ℤ) → 1 ≤ left → (if b then left else clamped 1 left z) ≤ left
span-high true left z h = omega arith
span-high false left z h = clamped-high 1 left z h

end_by : (m s whole n : ℕ) → whole ≤ s → s ≤ n - m → m ≤ n - 1 → 0 < n → m + whole ≤ n
end_by m s whole n a b c d = omega arith

-- the groups lie within the dimension, and none is empty
pub record IsWithin (c : Groups) (n : ℕ) : Type 0 where
  pub end : c.min + c.size * c.bin ≤ n
  pub size : 1 ≤ c.size
  pub bin : 1 ≤ c.bin

-- the cut of a dimension that isn't empty lies within it
pub cut-IsWithin : (rule : RoiRule) (k n : ℕ) → 0 < n → IsWithin (cut rule k n) n
cut-IsWithin rule k n h =
    let m = first_index rule k n in
    let s = span rule k n in
    let b = bin rule k n in
    let first : m ≤ n - 1 = clamped-high 0 (n - 1) (slice_index_or rule.min k (pos 0)) (omega arith) in
    let left : 1 ≤ n - m = omega arith in
    let s_low : 1 ≤ s = span-low (takes_rest rule k) (n - m) (slice_index_or rule.size k (pos n)) left in
    let s_high : s ≤ n - m = span-high (takes_rest rule k) (n - m) (slice_index_or rule.size k (pos n)) left in
    let b_low : 1 ≤ b = clamped-low 1 s (slice_index_or rule.bin k (pos 1)) s_low in
    let b_high : b ≤ s = clamped-high 1 s (slice_index_or rule.bin k (pos 1)) s_low in
    let whole : s / b * b ≤ s = div-mul-le_self s b in
    record {
      end = end_by m s (s / b * b) n whole s_high first h;
      size = le-div 1 s b b_low (omega (arith, b_high));
      bin = b_low;
    }

-- a cut has no more groups than the dimension has indices
pub size_most : (c : Groups) (n : ℕ) → IsWithin c n → c.size ≤ n
size_most c n w = let h = w.end in let g = mul-le-mul_left c.size w.bin in omega (arith, g)

pub length-dims_from : (rule : RoiRule) (k : ℕ) (dims : List Dim) → length (dims_from rule k dims) ≡ length dims
length-dims_from rule k [] = refl
length-dims_from rule k (dim ∷ dims) = ap suc (length-dims_from rule (suc k) dims)

dims_from-none_empty : (rule : RoiRule) (k : ℕ) (dims : List Dim) → list_all (λ d. nat_lt 0 d.size) dims ≡ true
    → list_all (λ d. nat_lt 0 d.size) (dims_from rule k dims) ≡ true
dims_from-none_empty rule k [] h = refl
dims_from-none_empty rule k (dim ∷ dims) h =
    let parts = and_parts (nat_lt 0 dim.size) (list_all (λ d. nat_lt 0 d.size) dims) h in
    let w = cut-IsWithin rule k dim.size (ltb-true 0 dim.size parts.0) in
    let some : nat_lt 0 (cut rule k dim.size).size ≡ true = lt-ltb 0 (cut rule k dim.size).size w.size in
    ap (λ b. b && list_all (λ (d : Dim). nat_lt 0 d.size) (dims_from rule (suc k) dims)) some ∙ dims_from-none_empty rule (suc k) dims parts.1

dims_from-count : (rule : RoiRule) (k : ℕ) (dims : List Dim) → list_all (λ d. nat_lt 0 d.size) dims ≡ true
    → sample_count (dims_from rule k dims) ≤ sample_count dims
dims_from-count rule k [] h = omega arith
dims_from-count rule k (dim ∷ dims) h =
    let parts = and_parts (nat_lt 0 dim.size) (list_all (λ d. nat_lt 0 d.size) dims) h in
    let w = cut-IsWithin rule k dim.size (ltb-true 0 dim.size parts.0) in
    mul-le-mul (size_most (cut rule k dim.size) dim.size w) (dims_from-count rule (suc k) dims parts.1)

-- a region has the dimensions of an array
pub region_dims-has_dimensions : (rule : RoiRule) (dims : List Dim) → IsTrue (has_dimensions dims) → IsTrue (has_dimensions (region_dims rule dims))
region_dims-has_dimensions rule dims h =
    let parts = and_parts (not (length dims == 0) && nat_le (length dims) 10) (list_all (λ d. nat_lt 0 d.size) dims) h in
    ap (λ n. not (n == 0) && nat_le n 10 && list_all (λ (d : Dim). nat_lt 0 d.size) (region_dims rule dims)) (length-dims_from rule 0 dims)
    ∙ ap (λ b. b && list_all (λ (d : Dim). nat_lt 0 d.size) (region_dims rule dims)) parts.0
    ∙ dims_from-none_empty rule 0 dims parts.1

-- a region has no more samples than the array
pub region_dims-count : (rule : RoiRule) (dims : List Dim) → IsTrue (has_dimensions dims) → sample_count (region_dims rule dims) ≤ sample_count dims
region_dims-count rule dims h = dims_from-count rule 0 dims (has_dimensions-none_empty dims h)
