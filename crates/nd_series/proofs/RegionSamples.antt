-- The samples of a region are those of the frame at its places.
use Rattle.std.proofs.Common.{◌≡◌, ℕ, zero, suc, ◌+◌, ◌-◌, ◌*◌, ◌/◌, ◌%◌, ◌<◌, ◌≤◌, min, max, List, [], ◌∷◌, ◌++◌, length, map, get_or, refl, ap, sym, ◌∙◌, arith, ℤ, pos, negsuc}
use Rattle.std.proofs.Common.{true, false, Bool, nat_lt, FitsSigned}
use Rattle.std.specs.Prelude.{All, if◌then◌else◌}
use Rattle.std.specs.Int.{w8, w16, w32, cast_signed, cast_unsigned}
use Rattle.std.specs.List.{list_all, range_with_len, flat_map}
use Rattle.std.proofs.Math.IntN.{+ℤ_idr}
use Rattle.std.proofs.lemmas.Bool.{ltb-true, ltb-false, le-leb}
use Rattle.std.proofs.lemmas.Int.{ints, to_z-of_z}
use Rattle.std.proofs.lemmas.List.{map-append, get_or_past}
use Rattle.std.proofs.lemmas.List.Folds.{flat_map-map}
use Rattle.std.proofs.lemmas.Simd.{map-map}
use Rattle.nd_base.specs.declared.array.Dim.{Dim}
use Rattle.nd_base.specs.declared.array.SampleType.{SampleType}
use Rattle.nd_base.specs.declared.array.SampleType.TheVariants.{Int8, UInt8, Int16, UInt16, Int32, UInt32}
use Rattle.nd_base.specs.Places.{place, indices, sizes_of}
use Rattle.nd_base.specs.PlaceLaws.{range-split}
use Rattle.nd_base.specs.SampleLaws.{IsSample}
use Rattle.nd_base.specs.Shapes.{product}
use Rattle.nd_roi.specs.Cut.{clamped, span, cut, cuts_from, dims_from, cuts}
use Rattle.nd_roi.specs.Region.{covered, covered_by, low_bits, reduced, sum_over, sample_at, scaled, region_samples}
use Rattle.nd_roi.proofs.Gather.{int_div-one}
use Rattle.nd_series.specs.declared.region.Box4.{Box4}
use Rattle.nd_series.specs.declared.span.Span.{Span}
use Rattle.nd_series.specs.Spans.{span_from, span_at, spans_from, span_count, frame_place, value_at, values_at}
use Rattle.nd_series.specs.Regions.{box_rule}
use Rattle.nd_series.proofs.SpanLaws.{span_at-size, none_empty, column_mod, column_div}

-- samples of their type

low_8 : (z : ℤ) → FitsSigned w8 z → low_bits 8 z ≡ cast_unsigned w8 z
low_8 (pos n) fits = omega (arith, ints)
low_8 (negsuc n) fits = omega (arith, ints)

low_16 : (z : ℤ) → FitsSigned w16 z → low_bits 16 z ≡ cast_unsigned w16 z
low_16 (pos n) fits = omega (arith, ints)
low_16 (negsuc n) fits = omega (arith, ints)

low_32 : (z : ℤ) → FitsSigned w32 z → low_bits 32 z ≡ cast_unsigned w32 z
low_32 (pos n) fits = omega (arith, ints)
low_32 (negsuc n) fits = omega (arith, ints)

-- a sample is what is left of it in its bits
reduced_same : (kind : SampleType) (v : ℤ) → IsSample kind v → reduced kind v ≡ v
reduced_same Int8 v h = ap (cast_signed w8) (low_8 v h) ∙ to_z-of_z w8 v h
reduced_same UInt8 (pos n) h = ap pos (omega (arith, ints))
reduced_same UInt8 (negsuc n) h = absurd (omega (arith, ints))
reduced_same Int16 v h = ap (cast_signed w16) (low_16 v h) ∙ to_z-of_z w16 v h
reduced_same UInt16 (pos n) h = ap pos (omega (arith, ints))
reduced_same UInt16 (negsuc n) h = absurd (omega (arith, ints))
reduced_same Int32 v h = ap (cast_signed w32) (low_32 v h) ∙ to_z-of_z w32 v h
reduced_same UInt32 (pos n) h = ap pos (omega (arith, ints))
reduced_same UInt32 (negsuc n) h = absurd (omega (arith, ints))

zero_reduced : (kind : SampleType) → reduced kind (pos 0) ≡ pos 0
zero_reduced Int8 = refl
zero_reduced UInt8 = refl
zero_reduced Int16 = refl
zero_reduced UInt16 = refl
zero_reduced Int32 = refl
zero_reduced UInt32 = refl

sample_same : (kind : SampleType) (samples : List ℤ) (i : ℕ) → All (IsSample kind) samples → reduced kind (get_or samples i (pos 0)) ≡ get_or samples i (pos 0)
sample_same kind samples i are = here (nat_lt i (length samples)) refl
  where
    here : (b : Bool) → nat_lt i (length samples) ≡ b → reduced kind (get_or samples i (pos 0)) ≡ get_or samples i (pos 0)
    here true e = reduced_same kind (get_or samples i (pos 0)) (are i (pos 0) (ltb-true i (length samples) e))
    here false e =
        let past = get_or_past samples i (pos 0) (ltb-false i (length samples) e) in
        ap (reduced kind) past ∙ zero_reduced kind ∙ sym past

-- the indices of the places of these sizes
abbrev index_of : List ℕ → ℕ → List ℕ
index_of [] p = []
index_of (n ∷ sizes) p = p % n ∷ index_of sizes (p / n)

index_row : (sizes : List ℕ) (n q j m : ℕ) → j + m ≤ n
    → map (λ x. x ∷ index_of sizes q) (range_with_len j m) ≡ map (index_of (n ∷ sizes)) (range_with_len (q * n + j) m)
index_row sizes n q j zero h = refl
index_row sizes n q j (suc m) h =
    ap (λ x. (x ∷ index_of sizes q) ∷ map (λ x. x ∷ index_of sizes q) (range_with_len (j + 1) m)) (sym (column_mod q n j (omega arith)))
    ∙ ap (λ p. ((q * n + j) % n ∷ index_of sizes p) ∷ map (λ x. x ∷ index_of sizes q) (range_with_len (j + 1) m)) (sym (column_div q n j (omega arith)))
    ∙ ap (λ rest. index_of (n ∷ sizes) (q * n + j) ∷ rest) (index_row sizes n q (j + 1) m (omega arith)
    ∙ ap (λ p. map (index_of (n ∷ sizes)) (range_with_len p m)) (let e : q * n + (j + 1) ≡ q * n + j + 1 = omega arith in e))

index_rows : (sizes : List ℕ) (n from count : ℕ)
    → flat_map (λ q. map (λ x. x ∷ index_of sizes q) (range_with_len 0 n)) (range_with_len from count)
    ≡ map (index_of (n ∷ sizes)) (range_with_len (from * n) (count * n))
index_rows sizes n from zero = ap (λ m. map (index_of (n ∷ sizes)) (range_with_len (from * n) m)) (let e : 0 ≡ 0 * n = omega arith in e)
index_rows sizes n from (suc count) =
    let f = index_of (n ∷ sizes) in
    let start : from * n + 0 ≡ from * n = omega arith in
    let next : (from + 1) * n ≡ from * n + n = grind arith in
    let more : n + count * n ≡ suc count * n = grind arith in
    ap (λ row. row ++ flat_map (λ q. map (λ x. x ∷ index_of sizes q) (range_with_len 0 n)) (range_with_len (from + 1) count))
    (index_row sizes n from 0 n (omega arith) ∙ ap (λ p. map f (range_with_len p n)) start)
    ∙ ap (λ rest. map f (range_with_len (from * n) n) ++ rest) (index_rows sizes n (from + 1) count ∙ ap (λ p. map f (range_with_len p (count * n))) next)
    ∙ sym (map-append f (range_with_len (from * n) n) (range_with_len (from * n + n) (count * n)))
    ∙ ap (map f) (sym (range-split (from * n) n (count * n)) ∙ ap (range_with_len (from * n)) more)

indices_are : (sizes : List ℕ) → indices sizes ≡ map (index_of sizes) (range_with_len 0 (product sizes))
indices_are [] = refl
indices_are (n ∷ sizes) =
    ap (flat_map (λ index. map (λ x. x ∷ index) (range_with_len 0 n))) (indices_are sizes)
    ∙ flat_map-map (λ index. map (λ x. x ∷ index) (range_with_len 0 n)) (index_of sizes) (range_with_len 0 (product sizes))
    ∙ index_rows sizes n 0 (product sizes)
    ∙ ap (λ p. map (index_of (n ∷ sizes)) (range_with_len p (product sizes * n))) (let e : 0 * n ≡ 0 = omega arith in e)
    ∙ ap (λ m. map (index_of (n ∷ sizes)) (range_with_len 0 m)) (let e : product sizes * n ≡ n * product sizes = grind arith in e)

-- a region's cuts are its spans

one_of : (n : ℕ) → n / 1 ≡ n
one_of n = omega arith

-- what a region takes of one dimension
pub record AreCut (min bin size : ℕ) (reverse : Bool) (s : Span) : Type 0 where
  pub first : min ≡ s.first
  pub one : bin ≡ 1
  pub count : size ≡ s.count
  pub forward : reverse ≡ false

near_low : (x n : ℕ) → min (n - 1) (max 0 x) ≡ min x (n - 1)
near_low x n = omega arith

one_bin : (span : ℕ) → 1 ≤ span → min span (max 1 1) ≡ 1
one_bin span h = omega arith

taken : (first count n low size : ℕ) → 0 < n → low ≡ min first (n - 1) → size ≡ min (n - low) (max 1 count)
    → AreCut low (min size (max 1 1)) (size / min size (max 1 1)) false (span_from first count n)
taken first count n low size h a b =
    let one = one_bin size (omega arith) in
    record { first = a; one = one; count = ap (λ m. size / m) one ∙ one_of size ∙ (let e : size ≡ (span_from first count n).count = omega arith in e); forward = refl }

-- all of a dimension from dimension 2 on
span_rest : (b : Box4) (k n : ℕ) → span (box_rule b) (suc (suc k)) n ≡ n
span_rest b k n =
    ap (λ t. if t then n - min (n - 1) 0 else clamped 1 (n - min (n - 1) 0) (pos n)) (le-leb 2 (suc (suc k)) (omega arith)) ∙ (let e : n - min (n - 1) 0 ≡ n = omega arith in e)

pub cut_is : (b : Box4) (k n : ℕ) → 0 < n
    → AreCut (cut (box_rule b) k n).min (cut (box_rule b) k n).bin (cut (box_rule b) k n).size (cut (box_rule b) k n).reverse (span_at b k n)
cut_is b zero n h = taken b.x b.w n _ _ h (near_low b.x n) refl
cut_is b (suc zero) n h = taken b.y b.h n _ _ h (near_low b.y n) refl
cut_is b (suc (suc k)) n h =
    let all = span_rest b k n in
    let some : 1 ≤ span (box_rule b) (suc (suc k)) n = rw all h in
    let one = one_bin (span (box_rule b) (suc (suc k)) n) some in
    record {
      first = omega arith;
      one = one;
      count = ap (λ m. span (box_rule b) (suc (suc k)) n / m) one ∙ one_of (span (box_rule b) (suc (suc k)) n) ∙ all;
      forward = refl;
    }

-- a region's indices are those of the frame, moved

abbrev moved : List Span → ℕ → List ℕ
moved [] p = []
moved (s ∷ spans) p = (s.first + p % s.count) ∷ moved spans (p / s.count)

abbrev counts : List Span → List ℕ
counts spans = map (λ s. s.count) spans

more_is : (k : ℕ) → suc k ≡ k + 1
more_is k = omega arith

covers_one : (b : Box4) (k n out : ℕ) → 0 < n → covered_by (cut (box_rule b) k n) out ≡ ((span_at b k n).first + out) ∷ []
covers_one b k n out h =
    let is = cut_is b k n h in
    ap (λ m. range_with_len ((cut (box_rule b) k n).min + out * m) m) is.one
    ∙ ap (λ m. (m + out * 1) ∷ []) is.first ∙ ap (λ m. m ∷ []) (let e : (span_at b k n).first + out * 1 ≡ (span_at b k n).first + out = omega arith in e)

covered_is : (b : Box4) (k : ℕ) (dims : List Dim) (p : ℕ) → list_all (λ d. nat_lt 0 d.size) dims ≡ true
    → covered (cuts_from (box_rule b) k dims) (index_of (counts (spans_from b k dims)) p) ≡ moved (spans_from b k dims) p ∷ []
covered_is b k [] p h = refl
covered_is b k (dim ∷ dims) p h =
    let parts = none_empty dim dims h in
    let s = span_at b k dim.size in
    let spans = spans_from b (k + 1) dims in
    let index = index_of (counts spans) (p / s.count) in
    ap (λ choices. flat_map (λ rest. map (λ x. x ∷ rest) choices) (covered (cuts_from (box_rule b) (suc k) dims) index)) (covers_one b k dim.size (p % s.count) parts.some)
    ∙ ap (λ rests. flat_map (λ rest. map (λ x. x ∷ rest) ((s.first + p % s.count) ∷ [])) rests)
    (ap (λ j. covered (cuts_from (box_rule b) j dims) index) (more_is k) ∙ covered_is b (k + 1) dims (p / s.count) parts.others)

sizes_are : (b : Box4) (k : ℕ) (dims : List Dim) → list_all (λ d. nat_lt 0 d.size) dims ≡ true
    → sizes_of (dims_from (box_rule b) k dims) ≡ counts (spans_from b k dims)
sizes_are b k [] h = refl
sizes_are b k (dim ∷ dims) h =
    let parts = none_empty dim dims h in
    ap (λ n. n ∷ sizes_of (dims_from (box_rule b) (suc k) dims)) (cut_is b k dim.size parts.some).count
    ∙ ap (λ sizes. (span_at b k dim.size).count ∷ sizes) (ap (λ j. sizes_of (dims_from (box_rule b) j dims)) (more_is k) ∙ sizes_are b (k + 1) dims parts.others)

place_moved : (b : Box4) (k : ℕ) (dims : List Dim) (p : ℕ) → place (sizes_of dims) (moved (spans_from b k dims) p) ≡ frame_place (spans_from b k dims) p
place_moved b k [] p = refl
place_moved b k (dim ∷ dims) p =
    let s = span_at b k dim.size in
    ap (λ n. s.first + p % s.count + n * place (sizes_of dims) (moved (spans_from b (k + 1) dims) (p / s.count))) (sym (span_at-size b k dim.size))
    ∙ ap (λ q. s.first + p % s.count + s.size * q) (place_moved b (k + 1) dims (p / s.count))

map_same : {X : Type 0} (f g : ℕ → X) (xs : List ℕ) → ((x : ℕ) → f x ≡ g x) → map f xs ≡ map g xs
map_same f g [] each = refl
map_same f g (x ∷ xs) each = ap (λ y. y ∷ map f xs) (each x) ∙ ap (λ ys. g x ∷ ys) (map_same f g xs each)

-- the samples of a region are those of the frame at the region's places
pub region_samples-in_place : (b : Box4) (kind : SampleType) (dims : List Dim) (samples : List ℤ) → list_all (λ d. nat_lt 0 d.size) dims ≡ true
    → All (IsSample kind) samples
    → region_samples (box_rule b) kind dims samples ≡ values_at (spans_from b 0 dims) samples 0 (span_count (spans_from b 0 dims))
region_samples-in_place b kind dims samples h are =
    let rule = box_rule b in
    let spans = spans_from b 0 dims in
    let sizes = sizes_of dims in
    let n = span_count spans in
    let wanted : List ℕ → ℤ = λ index. scaled rule kind (sum_over (sample_at sizes samples) (covered (cuts rule dims) index)) in
    let each : (p : ℕ) → wanted (index_of (counts spans) p) ≡ value_at spans samples p =
    λ p. ap (λ covers. scaled rule kind (sum_over (sample_at sizes samples) covers)) (covered_is b 0 dims p h)
    ∙ ap (scaled rule kind) (+ℤ_idr (sample_at sizes samples (moved spans p)))
    ∙ ap (λ i. scaled rule kind (get_or samples i (pos 0))) (place_moved b 0 dims p)
    ∙ ap (reduced kind) (int_div-one (value_at spans samples p))
    ∙ sample_same kind samples (frame_place spans p) are in
    ap (λ l. map wanted (indices l)) (sizes_are b 0 dims h)
    ∙ ap (map wanted) (indices_are (counts spans))
    ∙ map-map wanted (index_of (counts spans)) (range_with_len 0 n)
    ∙ map_same (λ p. wanted (index_of (counts spans) p)) (value_at spans samples) (range_with_len 0 n) each
