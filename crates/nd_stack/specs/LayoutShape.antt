-- The dimensions of the stack of a file in the layout are those of its shape.
use Rattle.std.specs.Prelude.{◌≡◌, ℕ, ◌<◌, ◌==◌, not, true, false, Bool, ℤ, pos, List, [], ◌∷◌, ◌++◌, length, map, reverse, slice_index_or, if◌then◌else◌}
use Rattle.std.specs.Prelude.{FitsSigned, All, refl}
use Rattle.std.specs.Int.{w32}
use Rattle.std.specs.List.{flat_map, range_with_len}
use Rattle.std.specs.Ordering.{int_eq}
use Rattle.std.proofs.Common.{ap, sym, ◌∙◌, arith, get_or}
use Rattle.std.proofs.lemmas.Bool.Decides.{nat_tests}
use Rattle.std.proofs.lemmas.Int.{ints}
use Rattle.std.proofs.lemmas.List.{length-map, get_or-map, reverse-append, reverse-reverse, same_lists}
use Rattle.std.proofs.lemmas.List.Elements.{All-map}
use Rattle.std.proofs.lemmas.List.FromFn.{length-map-range_with_len, get_or-map-range_with_len}
use Rattle.nd_base.specs.declared.array.Dim.{Dim}
use Rattle.nd_base.specs.declared.array.SampleType.TheVariants.{Int32}
use Rattle.nd_base.specs.declared.attribute.FileShape.{FileShape}
use Rattle.nd_base.specs.Samples.{samples_of}
use Rattle.nd_base.specs.SampleLaws.{samples_of-bytes_of}
use Rattle.cdf_read.specs.declared.head.Header.{Header}
use Rattle.cdf_write.specs.Spelling.{signed_word}
use Rattle.cdf_write.specs.Layout.{slowest_first}
use Rattle.nd_stack.specs.LayoutHeader.{layout_header}
use Rattle.nd_stack.specs.DimLaws.{sample_lengths}
use Rattle.nd_stack.specs.FrameShape.{sizes_of, dim_of, dims_of}
use Rattle.nd_stack.specs.LayoutFrames.{sample_var}

-- the numbers of the dimensions are within their types
pub record HasSmallDims (shape : FileShape) : Type 0 where
  pub offsets : All (λ d. FitsSigned w32 d.offset) shape.dims
  pub binnings : All (λ d. FitsSigned w32 d.binning) shape.dims

slowest_first-reverse : (ns : List ℕ) → slowest_first ns ≡ reverse ns
slowest_first-reverse [] = refl
slowest_first-reverse (n ∷ ns) = ap (λ front. front ++ n ∷ []) (slowest_first-reverse ns) ∙ sym (reverse-append (n ∷ []) ns)

layout_sizes_of : (shape : FileShape) (n : ℕ) → sizes_of (layout_header shape n) (sample_var shape) ≡ map (λ d. d.size) shape.dims
layout_sizes_of shape n =
    let sizes = map (λ (d : Dim). d.size) shape.dims in
    ap reverse (sample_lengths shape) ∙ ap reverse (slowest_first-reverse sizes) ∙ reverse-reverse sizes

-- one number of each dimension
values_at : (bytes : List ℕ) (dims : List Dim) (f : Dim → ℤ) (k : ℕ) (d : Dim) (other : ℤ) → samples_of Int32 bytes ≡ map f dims → k < length dims →
    (if length (samples_of Int32 bytes) == length dims then slice_index_or (samples_of Int32 bytes) k other else other) ≡ f (get_or dims k d)
values_at bytes dims f k d other is within =
    let count : (length (map f dims) == length dims) ≡ true = grind (arith, nat_tests, length-map dims f) in
    rw (is, count) (get_or-map f dims k d other within)

ints_of : (dims : List Dim) (f : Dim → ℤ) → All (λ d. FitsSigned w32 (f d)) dims → samples_of Int32 (flat_map signed_word (map f dims)) ≡ map f dims
ints_of dims f h = samples_of-bytes_of Int32 (map f dims) (All-map (FitsSigned w32) f dims h)

flag_back : (b : Bool) → not (int_eq (if b then pos 1 else pos 0) (pos 0)) ≡ b
flag_back true = refl
flag_back false = refl

flag_fits : (b : Bool) → FitsSigned w32 (if b then pos 1 else pos 0)
flag_fits true = omega (arith, ints)
flag_fits false = omega (arith, ints)

same_dim : (d : Dim) (size : ℕ) (offset binning : ℤ) (reverse : Bool) → size ≡ d.size → offset ≡ d.offset → binning ≡ d.binning → reverse ≡ d.reverse →
    ◌≡◌ {A = Dim} (record { size = size; offset = offset; binning = binning; reverse = reverse }) d
same_dim d size offset binning reverse s o b r = rw (s, o, b, r) refl

-- dimension k is read as it was written
dim_back : (shape : FileShape) (n k : ℕ) (d : Dim) → HasSmallDims shape → k < length shape.dims →
    dim_of (layout_header shape n) (length shape.dims) k (slice_index_or (map (λ d. d.size) shape.dims) k 0) ≡ get_or shape.dims k d
dim_back shape n k d h within =
    let turned = λ (e : Dim). (if e.reverse then pos 1 else pos 0) in
    let back =
    values_at (flat_map signed_word (map turned shape.dims)) shape.dims turned k d (pos 0)
    (ints_of shape.dims turned (λ i e inside. flag_fits (get_or shape.dims i e).reverse)) within in
    same_dim (get_or shape.dims k d) _ _ _ _
    (get_or-map (λ (e : Dim). e.size) shape.dims k d 0 within)
    (values_at (flat_map signed_word (map (λ (e : Dim). e.offset) shape.dims)) shape.dims (λ e. e.offset) k d (pos 0)
    (ints_of shape.dims (λ e. e.offset) h.offsets) within)
    (values_at (flat_map signed_word (map (λ (e : Dim). e.binning) shape.dims)) shape.dims (λ e. e.binning) k d (pos 1)
    (ints_of shape.dims (λ e. e.binning) h.binnings) within)
    (ap (λ v. not (int_eq v (pos 0))) back ∙ flag_back (get_or shape.dims k d).reverse)

dims_by : (h : Header) (sizes : List ℕ) (dims : List Dim) → sizes ≡ map (λ d. d.size) dims
    → ((k : ℕ) (d : Dim) → k < length dims → dim_of h (length dims) k (slice_index_or (map (λ d. d.size) dims) k 0) ≡ get_or dims k d) →
    map (λ i. dim_of h (length sizes) i (slice_index_or sizes i 0)) (range_with_len 0 (length sizes)) ≡ dims
dims_by h sizes dims is each =
    let known = map (λ (d : Dim). d.size) dims in
    let f = λ (i : ℕ). dim_of h (length dims) i (slice_index_or known i 0) in
    let count : length known ≡ length dims = length-map dims (λ (d : Dim). d.size) in
    let all : map f (range_with_len 0 (length dims)) ≡ dims =
    same_lists (map f (range_with_len 0 (length dims))) dims (length-map-range_with_len f 0 (length dims))
    (λ k d within. let inside : k < length dims = omega (arith, within, length-map-range_with_len f 0 (length dims)) in
    get_or-map-range_with_len f 0 (length dims) k k d inside (omega arith) ∙ each k d inside) in
    ap (λ ns. map (λ i. dim_of h (length ns) i (slice_index_or ns i 0)) (range_with_len 0 (length ns))) is
    ∙ ap (λ m. map (λ i. dim_of h m i (slice_index_or known i 0)) (range_with_len 0 m)) count ∙ all

pub layout_dims_of : (shape : FileShape) (n : ℕ) → HasSmallDims shape → dims_of (layout_header shape n) (sample_var shape) ≡ shape.dims
layout_dims_of shape n h =
    dims_by (layout_header shape n) (sizes_of (layout_header shape n) (sample_var shape)) shape.dims (layout_sizes_of shape n)
    (λ k d within. dim_back shape n k d h within)
