-- The steps of the loops over the output's lines.
use Rattle.std.proofs.Common.{◌≡◌, ℕ, zero, suc, ◌+◌, ◌-◌, ◌*◌, ◌<◌, ◌≤◌, Bool, true, false, pos, List, [], ◌∷◌, ◌++◌, length, drop, get_or, ap, ◌∙◌, arith}
use Rattle.std.proofs.Math.Numerals.{add-one}
use Rattle.std.proofs.Math.Nat.{mul-le-mul_right, mul-le-mul_left, mul_assoc}
use Rattle.std.specs.List.{range_with_len, flat_map, list_all}
use Rattle.std.specs.Prelude.{nat_lt, if◌then◌else◌}
use Rattle.std.specs.Int.RustNames.{int_div}
use Rattle.std.proofs.lemmas.Bool.{and_parts}
use Rattle.std.proofs.lemmas.Grind.{flat_map-append}
use Rattle.nd_base.specs.declared.array.Dim.{Dim}
use Rattle.nd_base.specs.declared.array.SampleType.{SampleType}
use Rattle.nd_base.specs.Shapes.{sample_count}
use Rattle.nd_base.specs.ShapeLaws.{sample_count-positive}
use Rattle.nd_roi.specs.declared.cut.Cut.{Cut}
use Rattle.nd_roi.specs.declared.walk.Axis.{Axis}
use Rattle.nd_roi.specs.Walk.{covers_from}
use Rattle.nd_roi.specs.Walk.{concat_below, line_bytes, line_total, bytes_of}
use Rattle.nd_base.specs.PlaceLaws.{range-split}

-- the stride of the next dimension is at most the number of samples
pub stride_most : (dims : List Dim) (k stride most : ℕ) (d : Dim) → list_all (λ d. nat_lt 0 d.size) dims ≡ true → k < length dims
    → stride * sample_count (drop k dims) ≤ most → stride * (get_or dims k d).size ≤ most
stride_most [] k stride most d h below few = absurd (omega arith)
stride_most (x ∷ dims) zero stride most d h below few =
    let parts = and_parts (nat_lt 0 x.size) (list_all (λ d. nat_lt 0 d.size) dims) h in
    let wide = mul-le-mul_left (stride * x.size) (sample_count-positive dims parts.1) in
    omega (arith, wide, mul_assoc stride x.size (sample_count dims))
stride_most (x ∷ dims) (suc k) stride most d h below few =
    let parts = and_parts (nat_lt 0 x.size) (list_all (λ d. nat_lt 0 d.size) dims) h in
    stride_most dims k stride most d parts.1 (omega arith) few

-- more output indices of a line
pub line_bytes-more : (kind : SampleType) (bytes : List ℕ) (line : Cut) (slower : List Axis) (scale : ℕ) (out_kind : SampleType) (base m n : ℕ) →
    line_bytes kind bytes line slower scale out_kind base 0 (m + n) ≡ line_bytes kind bytes line slower scale out_kind base 0 m
    ++ line_bytes kind bytes line slower scale out_kind base m n
line_bytes-more kind bytes line slower scale out_kind base m n =
    let one : ℕ → List ℕ = λ out. bytes_of out_kind (int_div (line_total kind bytes line slower base out) (pos scale)) in
    let split : range_with_len 0 (m + n) ≡ range_with_len 0 m ++ range_with_len m n = range-split 0 m n
    ∙ ap (λ k. range_with_len 0 m ++ range_with_len k n) (omega arith) in
    ap (flat_map one) split ∙ flat_map-append one (range_with_len 0 m) (range_with_len m n)

below_last : (out n : ℕ) → out < n → out ≤ n - 1
below_last out n h = omega arith

left_below_last : (out n : ℕ) → n - 1 - out ≤ n - 1
left_below_last out n = omega arith

most_of : (r : Bool) (low back out bin most : ℕ) → out * bin ≤ most → back * bin ≤ most → low + (if r then back else out) * bin ≤ low + most
most_of true low back out bin most f b = omega arith
most_of false low back out bin most f b = omega arith

-- no output index begins later than the last group
pub covers_from-most : (c : Cut) (out : ℕ) → out < c.size → covers_from c out ≤ c.min + (c.size - 1) * c.bin
covers_from-most c out h =
    let forward = mul-le-mul_right c.bin (below_last out c.size h) in
    let back = mul-le-mul_right c.bin (left_below_last out c.size) in
    most_of c.reverse c.min (c.size - 1 - out) out c.bin ((c.size - 1) * c.bin) forward back

-- a list more
pub concat_below-more : {X : Type 0} (n : ℕ) (f : ℕ → List X) → concat_below (n + 1) f ≡ concat_below n f ++ f n
concat_below-more n f = rw add-one
