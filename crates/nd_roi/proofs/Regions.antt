-- What the walk writes is the region.
use Rattle.std.proofs.Common.{◌≡◌, ℕ, zero, suc, ◌+◌, ◌*◌, ◌/◌, ℤ, pos, List, [], ◌∷◌, ◌++◌, length, map, reverse, take, drop, get_or, refl, ap, sym, ◌∙◌}
use Rattle.std.proofs.Common.{arith}
use Rattle.std.specs.Int.{w16, w32, cast_signed}
use Rattle.std.specs.Int.RustNames.{int_div}
use Rattle.std.specs.List.{range_with_len, flat_map}
use Rattle.std.proofs.Math.Nat.{mul-div_cancel, suc-mul}
use Rattle.std.proofs.lemmas.Nat.{from_be_bytes-to_be_bytes_2, from_be_bytes-to_be_bytes_4}
use Rattle.std.proofs.lemmas.List.{append-nil, take_at, drop_at, length-append, length-map, drop_all, length-drop, drop-drop}
use Rattle.std.proofs.lemmas.List.Concat.{flat_map_single}
use Rattle.std.proofs.lemmas.List.Folds.{flat_map-map}
use Rattle.nd_base.specs.declared.array.Dim.{Dim}
use Rattle.nd_base.specs.declared.array.SampleType.{SampleType}
use Rattle.nd_base.specs.declared.array.SampleType.TheVariants.{Int8, UInt8, Int16, UInt16, Int32, UInt32}
use Rattle.nd_base.specs.declared.graph.RoiRule.{RoiRule}
use Rattle.nd_base.specs.Samples.{width, number, numbers, samples_of}
use Rattle.nd_base.specs.SampleLaws.{width-positive}
use Rattle.nd_base.specs.Shapes.{sample_count}
use Rattle.nd_roi.specs.declared.cut.Cut.{Cut}
use Rattle.nd_roi.specs.Groups.{Groups}
use Rattle.nd_roi.specs.declared.walk.Axis.{Axis}
use Rattle.nd_roi.specs.Cut.{cut, cuts_from, dims_from, region_dims, cuts}
use Rattle.nd_base.specs.Places.{place, indices, sizes_of}
use Rattle.nd_roi.specs.RegionLaws.{low_bits-below_16, low_bits-below_32}
use Rattle.nd_roi.specs.Region.{first_covered, covered_by, covered, sum_over, low_bits, reduced, out_type, sample_at, scaled, region_samples}
use Rattle.nd_roi.specs.Walk.{held, stored, run, lines_total, lines, axes_from, bytes_of, line_bytes}
use Rattle.nd_roi.proofs.Places.{starts, total_is, lines_are, product-cong, sum_over-flat_map, sum_over-map, sum_over-cong, sum_over-range, sum_below-cong}
use Rattle.nd_roi.proofs.Places.{flat_map-cong, flat_map-flat_map}
use Rattle.nd_roi.specs.CutLaws.{length-dims_from}

-- bytes as samples

length-bytes_of : (kind : SampleType) (z : ℤ) → length (bytes_of kind z) ≡ width kind
length-bytes_of Int8 z = refl
length-bytes_of UInt8 z = refl
length-bytes_of Int16 z = refl
length-bytes_of UInt16 z = refl
length-bytes_of Int32 z = refl
length-bytes_of UInt32 z = refl

number-bytes_of : (kind : SampleType) (z : ℤ) → number kind (bytes_of kind z) ≡ reduced kind z
number-bytes_of Int8 z = refl
number-bytes_of UInt8 z = refl
number-bytes_of Int16 z = ap (cast_signed w16) (from_be_bytes-to_be_bytes_2 (low_bits 16 z) (low_bits-below_16 z))
number-bytes_of UInt16 z = ap pos (from_be_bytes-to_be_bytes_2 (low_bits 16 z) (low_bits-below_16 z))
number-bytes_of Int32 z = ap (cast_signed w32) (from_be_bytes-to_be_bytes_4 (low_bits 32 z) (low_bits-below_32 z))
number-bytes_of UInt32 z = ap pos (from_be_bytes-to_be_bytes_4 (low_bits 32 z) (low_bits-below_32 z))

length-written : {X : Type 0} (kind : SampleType) (value : X → ℤ) (xs : List X) → length (flat_map (λ x. bytes_of kind (value x)) xs) ≡ length xs * width kind
length-written kind value [] = omega arith
length-written kind value (x ∷ xs) =
    let written = flat_map (λ x. bytes_of kind (value x)) xs in
    length-append (bytes_of kind (value x)) written ∙ ap (λ n. n + length written) (length-bytes_of kind (value x))
    ∙ ap (λ n. width kind + n) (length-written kind value xs) ∙ (let e = suc-mul (length xs) (width kind) in omega (arith, e))

numbers-written : {X : Type 0} (kind : SampleType) (value : X → ℤ) (xs : List X)
    → numbers kind (length xs) (flat_map (λ x. bytes_of kind (value x)) xs) ≡ map (λ x. reduced kind (value x)) xs
numbers-written kind value [] = refl
numbers-written kind value (x ∷ xs) =
    let written = flat_map (λ x. bytes_of kind (value x)) xs in
    let long = length-bytes_of kind (value x) in
    ap (λ bytes. number kind bytes ∷ numbers kind (length xs) (drop (width kind) (bytes_of kind (value x) ++ written)))
    (take_at (bytes_of kind (value x)) written (width kind) long)
    ∙ ap (λ bytes. number kind (bytes_of kind (value x)) ∷ numbers kind (length xs) bytes) (drop_at (bytes_of kind (value x)) written (width kind) long)
    ∙ ap (λ z. z ∷ numbers kind (length xs) written) (number-bytes_of kind (value x))
    ∙ ap (λ zs. reduced kind (value x) ∷ zs) (numbers-written kind value xs)

-- what was written is read back
pub samples-written : {X : Type 0} (kind : SampleType) (value : X → ℤ) (xs : List X)
    → samples_of kind (flat_map (λ x. bytes_of kind (value x)) xs) ≡ map (λ x. reduced kind (value x)) xs
samples-written kind value xs =
    let written = flat_map (λ x. bytes_of kind (value x)) xs in
    ap (λ n. numbers kind (n / width kind) written) (length-written kind value xs)
    ∙ ap (λ n. numbers kind n written) (mul-div_cancel (length xs) (width-positive kind))
    ∙ numbers-written kind value xs

number-nothing : (kind : SampleType) → number kind [] ≡ pos 0
number-nothing Int8 = refl
number-nothing UInt8 = refl
number-nothing Int16 = refl
number-nothing UInt16 = refl
number-nothing Int32 = refl
number-nothing UInt32 = refl

take-nothing : (w : ℕ) → take w (let none : List ℕ = [] in none) ≡ []
take-nothing zero = refl
take-nothing (suc w) = refl

get_or-numbers : (kind : SampleType) (n p : ℕ) (bytes : List ℕ) → length bytes ≡ n * width kind → get_or (numbers kind n bytes) p (pos 0) ≡ stored kind bytes p
get_or-numbers kind zero p bytes h =
    let none : drop (p * width kind) bytes ≡ [] = drop_all (p * width kind) bytes (omega arith) in
    sym (ap (λ xs. number kind (take (width kind) xs)) none ∙ ap (number kind) (take-nothing (width kind)) ∙ number-nothing kind)
get_or-numbers kind (suc n) zero bytes h = let none : zero ≡ zero * width kind = omega arith in ap (λ m. number kind (take (width kind) (drop m bytes))) none
get_or-numbers kind (suc n) (suc p) bytes h =
    let w = width kind in
    let e = suc-mul n w in
    let f = suc-mul p w in
    let long : length (drop w bytes) ≡ n * w = simp length-drop (omega (arith, e)) in
    let same : w + p * w ≡ suc p * w = omega (arith, f) in
    get_or-numbers kind n p (drop w bytes) long
    ∙ ap (λ xs. number kind (take w xs)) (drop-drop (p * w) w bytes ∙ ap (λ m. drop m bytes) same)

pub sample_is : (kind : SampleType) (n p : ℕ) (bytes : List ℕ) → length bytes ≡ n * width kind → get_or (samples_of kind bytes) p (pos 0) ≡ stored kind bytes p
sample_is kind n p bytes h =
    ap (λ m. get_or (numbers kind (m / width kind) bytes) p (pos 0)) h
    ∙ ap (λ m. get_or (numbers kind m bytes) p (pos 0)) (mul-div_cancel n (width-positive kind))
    ∙ get_or-numbers kind n p bytes h

-- what the walk writes, all in all
abbrev pub walked : SampleType → List ℕ → Cut → List Axis → ℕ → SampleType → List ℕ
walked kind bytes line axes scale out_kind = lines (reverse axes) (λ at. line_bytes kind bytes line (reverse axes) scale out_kind at 0 line.size) 0

module _ (rule : RoiRule) (kind : SampleType) (dim : Dim) (dims : List Dim) (bytes : List ℕ)
    (whole : length bytes ≡ sample_count (dim ∷ dims) * width kind) where
  -- the walk's sum for an index of the output is that over the indices that it covers
  value_is : (index : List ℕ) → length index ≡ length (dim ∷ dims) →
      lines_total (reverse (axes_from rule 1 dim.size dims)) (run kind bytes (cut rule 0 dim.size).bin)
      (place (sizes_of (dim ∷ dims)) (starts (cuts rule (dim ∷ dims)) index))
      ≡ sum_over (sample_at (sizes_of (dim ∷ dims)) (samples_of kind bytes)) (covered (cuts rule (dim ∷ dims)) index)
  value_is [] long = absurd (omega arith)
  value_is (out ∷ index) long =
      let n = dim.size in
      let c : Groups = cut rule 0 n in
      let cs = cuts_from rule 1 dims in
      let sizes = sizes_of dims in
      let from = first_covered c out in
      let axes = axes_from rule 1 n dims in
      let value : ℕ → ℤ = run kind bytes c.bin in
      let H : List ℕ → ℤ = sample_at (n ∷ sizes) (samples_of kind bytes) in
      let inner = λ (rest : List ℕ).
      sum_over-map H (λ x. x ∷ rest) (covered_by c out) ∙ sum_over-range (λ x. H (x ∷ rest)) from c.bin
      ∙ sum_below-cong c.bin (λ j. H ((from + j) ∷ rest)) (λ j. stored kind bytes (from + n * place sizes rest + j))
      (λ j. sample_is kind (sample_count (dim ∷ dims)) (from + j + n * place sizes rest) bytes whole ∙ ap (stored kind bytes) (omega arith)) in
      sym (
      sum_over-flat_map H (λ rest. map (λ x. x ∷ rest) (covered_by c out)) (covered cs index)
      ∙ sum_over-cong (λ rest. sum_over H (map (λ x. x ∷ rest) (covered_by c out))) (λ rest. value (from + n * place sizes rest)) (covered cs index) inner
      ∙ total_is rule 1 n dims [] value from index (omega arith)
      ∙ ap (λ list. lines_total list value (from + n * place sizes (starts cs index))) (append-nil (reverse axes)))

  -- the bytes in the order of the output's indices
  pub lines_by_index : (out_kind : SampleType) →
      lines (reverse (axes_from rule 1 dim.size dims)) (λ at. line_bytes kind bytes (held (cut rule 0 dim.size))
      (reverse (axes_from rule 1 dim.size dims)) rule.scale out_kind at 0 (cut rule 0 dim.size).size) 0
      ≡ flat_map (λ index. bytes_of out_kind
      (int_div (lines_total (reverse (axes_from rule 1 dim.size dims)) (run kind bytes (cut rule 0 dim.size).bin)
      (place (sizes_of (dim ∷ dims)) (starts (cuts rule (dim ∷ dims)) index))) (pos rule.scale))) (indices (sizes_of (region_dims rule (dim ∷ dims))))
  lines_by_index out_kind =
      let n = dim.size in
      let c : Groups = cut rule 0 n in
      let cs = cuts_from rule 1 dims in
      let sizes = sizes_of dims in
      let axes = axes_from rule 1 n dims in
      let total : ℕ → ℤ = lines_total (reverse axes) (run kind bytes c.bin) in
      let line : ℕ → List ℕ = λ at. line_bytes kind bytes (held c) (reverse axes) rule.scale out_kind at 0 c.size in
      let H : List ℕ → List ℕ = λ index. bytes_of out_kind (int_div (total (place (n ∷ sizes) (starts (c ∷ cs) index))) (pos rule.scale)) in
      let outs = indices (sizes_of (dims_from rule 1 dims)) in
      ap (λ list. lines list line 0) (sym (append-nil (reverse axes)))
      ∙ lines_are rule 1 n dims [] line 0
      ∙ sym (
      flat_map-flat_map H (λ rest. map (λ x. x ∷ rest) (range_with_len 0 c.size)) outs
      ∙ flat_map-cong (λ rest. flat_map H (map (λ x. x ∷ rest) (range_with_len 0 c.size))) (λ rest. line (0 + n * place sizes (starts cs rest))) outs
      (λ rest. flat_map-map H (λ x. x ∷ rest) (range_with_len 0 c.size)
      ∙ flat_map-cong (λ x. H (x ∷ rest))
      (λ x. bytes_of out_kind (int_div (total (0 + n * place sizes (starts cs rest) + first_covered c x)) (pos rule.scale))) (range_with_len 0 c.size)
      (λ x. ap (λ at. bytes_of out_kind (int_div (total at) (pos rule.scale))) (omega arith))))

  -- the walk writes the region
  pub region_is :
      samples_of (out_type rule kind) (walked kind bytes (held (cut rule 0 dim.size)) (axes_from rule 1 dim.size dims) rule.scale (out_type rule kind))
      ≡ region_samples rule kind (dim ∷ dims) (samples_of kind bytes)
  region_is =
      let out_kind = out_type rule kind in
      let all = indices (sizes_of (region_dims rule (dim ∷ dims))) in
      let value : List ℕ → ℤ =
      λ index. int_div (lines_total (reverse (axes_from rule 1 dim.size dims)) (run kind bytes (cut rule 0 dim.size).bin)
      (place (sizes_of (dim ∷ dims)) (starts (cuts rule (dim ∷ dims)) index))) (pos rule.scale) in
      let wanted : List ℕ → ℤ =
      λ index. scaled rule kind (sum_over (sample_at (sizes_of (dim ∷ dims)) (samples_of kind bytes)) (covered (cuts rule (dim ∷ dims)) index)) in
      let choices = map (λ n. range_with_len 0 n) (sizes_of (region_dims rule (dim ∷ dims))) in
      let many : length choices ≡ length (dim ∷ dims) =
      length-map (sizes_of (region_dims rule (dim ∷ dims))) (λ n. range_with_len 0 n) ∙ length-map (region_dims rule (dim ∷ dims)) (λ d. d.size)
      ∙ length-dims_from rule 0 (dim ∷ dims) in
      ap (samples_of out_kind) (lines_by_index out_kind)
      ∙ samples-written out_kind value all
      ∙ sym (flat_map_single (λ index. reduced out_kind (value index)) all)
      ∙ product-cong choices (λ index. reduced out_kind (value index) ∷ []) (λ index. wanted index ∷ [])
      (λ index long. ap (λ z. reduced out_kind (int_div z (pos rule.scale)) ∷ []) (value_is index (long ∙ many)))
      ∙ flat_map_single wanted all
