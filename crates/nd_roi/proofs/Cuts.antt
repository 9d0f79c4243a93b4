-- What a cut takes lies within its dimension, and the walk within the array.
use Rattle.std.proofs.Common.{◌≡◌, ℕ, suc, ◌+◌, ◌-◌, ◌*◌, ◌≤◌, true, List, [], ◌∷◌, ◌++◌, reverse, sum_by, refl, ap, sym, ◌∙◌, arith}
use Rattle.std.specs.Prelude.{nat_lt}
use Rattle.std.specs.List.{list_all}
use Rattle.std.proofs.Math.Nat.{mul-le-mul_right, mul-le-mul, suc-mul, mul_assoc, mul_comm}
use Rattle.std.proofs.lemmas.Bool.{and_parts, ltb-true}
use Rattle.std.proofs.lemmas.List.{reverse-append}
use Rattle.std.proofs.lemmas.List.Sums.{sum_by-append}
use Rattle.nd_base.specs.declared.array.Dim.{Dim}
use Rattle.nd_base.specs.declared.graph.RoiRule.{RoiRule}
use Rattle.nd_base.specs.Shapes.{sample_count}
use Rattle.nd_roi.specs.Groups.{Groups}
use Rattle.nd_roi.specs.declared.walk.Axis.{Axis}
use Rattle.nd_roi.specs.Cut.{cut, dims_from, region_dims}
use Rattle.nd_roi.specs.CutLaws.{IsWithin, cut-IsWithin}
use Rattle.nd_roi.specs.Walk.{held, axes_from, first_reach, bin_reach, bins_of, for_lines}

-- the last bin along an axis ends within the dimension
pub axis_reach : (c : Groups) (n stride : ℕ) → IsWithin c n → (c.min + (c.size - 1) * c.bin) * stride + (c.bin - 1) * stride + stride ≤ stride * n
axis_reach c n stride w =
    let one_more : suc (c.size - 1) ≡ c.size = let h = w.size in omega arith in
    let e : suc (c.size - 1) * c.bin ≡ c.size * c.bin = ap (λ m. m * c.bin) one_more in
    let f = suc-mul (c.size - 1) c.bin in
    let h = w.end in
    let g = w.bin in
    let low : c.min + (c.size - 1) * c.bin + (c.bin - 1) + 1 ≤ n = omega (arith, e, f) in
    let wide = mul-le-mul_right stride low in
    omega (arith, wide)

pub reach_within : (rule : RoiRule) (k stride : ℕ) (dims : List Dim) → list_all (λ d. nat_lt 0 d.size) dims ≡ true →
    sum_by first_reach (axes_from rule k stride dims) + sum_by bin_reach (axes_from rule k stride dims) + stride ≤ stride * sample_count dims
reach_within rule k stride [] h = omega arith
reach_within rule k stride (dim ∷ dims) h =
    let parts = and_parts (nat_lt 0 dim.size) (list_all (λ d. nat_lt 0 d.size) dims) h in
    let rest = reach_within rule (suc k) (stride * dim.size) dims parts.1 in
    let here = axis_reach (cut rule k dim.size) dim.size stride (cut-IsWithin rule k dim.size (ltb-true 0 dim.size parts.0)) in
    let e = mul_assoc stride dim.size (sample_count dims) in
    let a : Axis = record { cut = held (cut rule k dim.size); stride = stride } in
    let axes = axes_from rule (suc k) (stride * dim.size) dims in
    let f = sum_by-append first_reach (a ∷ []) axes in
    let g = sum_by-append bin_reach (a ∷ []) axes in
    omega (arith, rest, here, e, f, g)

bins_of-append : (xs ys : List Axis) → bins_of (xs ++ ys) ≡ bins_of xs * bins_of ys
bins_of-append [] ys = omega arith
bins_of-append (x ∷ xs) ys = ap (λ n. x.cut.bin * n) (bins_of-append xs ys) ∙ sym (mul_assoc x.cut.bin (bins_of xs) (bins_of ys))

bin_most : (c : Groups) (n : ℕ) → IsWithin c n → c.bin ≤ n
bin_most c n w = let h = w.end in let g = mul-le-mul_right c.bin w.size in omega (arith, g)

-- the bins cover no more lines than there are
pub bins_most : (rule : RoiRule) (k stride : ℕ) (dims : List Dim) → list_all (λ d. nat_lt 0 d.size) dims ≡ true
    → bins_of (reverse (axes_from rule k stride dims)) ≤ sample_count dims
bins_most rule k stride [] h = omega arith
bins_most rule k stride (dim ∷ dims) h =
    let parts = and_parts (nat_lt 0 dim.size) (list_all (λ d. nat_lt 0 d.size) dims) h in
    let c = cut rule k dim.size in
    let a : Axis = record { cut = held c; stride = stride } in
    let axes = axes_from rule (suc k) (stride * dim.size) dims in
    let rest = bins_most rule (suc k) (stride * dim.size) dims parts.1 in
    let here = bin_most c dim.size (cut-IsWithin rule k dim.size (ltb-true 0 dim.size parts.0)) in
    let e = ap bins_of (reverse-append (a ∷ []) axes) ∙ bins_of-append (reverse axes) (a ∷ []) in
    let wide = mul-le-mul rest here in
    let turn = mul_comm (sample_count dims) dim.size in
    omega (arith, e, wide, turn)

for_lines-append : (xs ys : List Axis) (n : ℕ) → for_lines (xs ++ ys) n ≡ for_lines xs (for_lines ys n)
for_lines-append [] ys n = refl
for_lines-append (x ∷ xs) ys n = ap (λ m. x.cut.size * m) (for_lines-append xs ys n)

-- as many lines as the output's dimensions say
pub for_lines-count : (rule : RoiRule) (k stride : ℕ) (dims : List Dim) (n : ℕ)
    → for_lines (reverse (axes_from rule k stride dims)) n ≡ n * sample_count (dims_from rule k dims)
for_lines-count rule k stride [] n = omega arith
for_lines-count rule k stride (dim ∷ dims) n =
    let c = cut rule k dim.size in
    let a : Axis = record { cut = held c; stride = stride } in
    let axes = axes_from rule (suc k) (stride * dim.size) dims in
    let count = sample_count (dims_from rule (suc k) dims) in
    ap (λ list. for_lines list n) (reverse-append (a ∷ []) axes) ∙ for_lines-append (reverse axes) (a ∷ []) n
    ∙ for_lines-count rule (suc k) (stride * dim.size) dims (c.size * n)
    ∙ ap (λ m. m * count) (mul_comm c.size n) ∙ mul_assoc n c.size count

within_of : (a b c n most : ℕ) → a + b + n ≤ most → c ≤ n → a + c + b ≤ most
within_of a b c n most h g = omega arith

few_of : (a b c : ℕ) → a ≤ b → b ≡ c → a ≤ c
few_of a b c h e = omega arith

-- the whole walk lies within the array
pub walk_within : (rule : RoiRule) (dim : Dim) (dims : List Dim) → list_all (λ d. nat_lt 0 d.size) (dim ∷ dims) ≡ true →
    sum_by first_reach (axes_from rule 1 dim.size dims) + ((cut rule 0 dim.size).min + (cut rule 0 dim.size).size * (cut rule 0 dim.size).bin)
    + sum_by bin_reach (axes_from rule 1 dim.size dims) ≤ sample_count (dim ∷ dims)
walk_within rule dim dims h =
    let parts = and_parts (nat_lt 0 dim.size) (list_all (λ d. nat_lt 0 d.size) dims) h in
    let rest = reach_within rule 1 dim.size dims parts.1 in
    let here = (cut-IsWithin rule 0 dim.size (ltb-true 0 dim.size parts.0)).end in
    within_of (sum_by first_reach (axes_from rule 1 dim.size dims)) (sum_by bin_reach (axes_from rule 1 dim.size dims))
    ((cut rule 0 dim.size).min + (cut rule 0 dim.size).size * (cut rule 0 dim.size).bin) dim.size (dim.size * sample_count dims) rest here

-- a bin covers no more samples than there are
pub walk_few : (rule : RoiRule) (dim : Dim) (dims : List Dim) → list_all (λ d. nat_lt 0 d.size) (dim ∷ dims) ≡ true →
    bins_of (reverse (axes_from rule 1 dim.size dims)) * (cut rule 0 dim.size).bin ≤ sample_count (dim ∷ dims)
walk_few rule dim dims h =
    let parts = and_parts (nat_lt 0 dim.size) (list_all (λ d. nat_lt 0 d.size) dims) h in
    let rest = bins_most rule 1 dim.size dims parts.1 in
    let here = bin_most (cut rule 0 dim.size) dim.size (cut-IsWithin rule 0 dim.size (ltb-true 0 dim.size parts.0)) in
    let wide = mul-le-mul rest here in
    let turn = mul_comm (sample_count dims) dim.size in
    few_of (bins_of (reverse (axes_from rule 1 dim.size dims)) * (cut rule 0 dim.size).bin) (sample_count dims * dim.size)
    (dim.size * sample_count dims) wide turn

-- the output has room for the whole walk
pub walk_room : (rule : RoiRule) (dim : Dim) (dims : List Dim) (w : ℕ)
    → for_lines (reverse (axes_from rule 1 dim.size dims)) ((cut rule 0 dim.size).size * w) ≡ sample_count (region_dims rule (dim ∷ dims)) * w
walk_room rule dim dims w =
    let size = (cut rule 0 dim.size).size in
    let count = sample_count (dims_from rule 1 dims) in
    for_lines-count rule 1 dim.size dims (size * w) ∙ mul_assoc size w count ∙ ap (λ n. size * n) (mul_comm w count) ∙ sym (mul_assoc size count w)
