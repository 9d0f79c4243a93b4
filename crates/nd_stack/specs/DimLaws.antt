-- The dimensions of the layout are read as they are spelled, and which variables they give which size.
use Rattle.std.specs.Prelude.{◌≡◌, ◌≢◌, ℕ, zero, suc, ◌+◌, ◌*◌, ◌^◌, ◌<◌, ◌≤◌, List, [], ◌∷◌, ◌++◌, length, map, filter, codes, true, nat_lt, nat_le, not}
use Rattle.std.specs.Prelude.{◌==◌, ◌&&◌, IsTrue, All, refl}
use Rattle.std.specs.Str.{IsUtf8, IsAscii}
use Rattle.std.specs.List.{flat_map, list_all, range_with_len}
use Rattle.std.proofs.Common.{ap, sym, subst, ◌∙◌, append_assoc, length-append, arith, lit<, mul_comm, mul_assoc}
use Rattle.std.proofs.Math.Nat.{mul-le-mul_left, mul-le-mul_right}
use Rattle.std.proofs.lemmas.Bool.{ltb-true, leb-true, lt-ltb, and_parts}
use Rattle.std.proofs.lemmas.Bool.Decides.{nat_tests}
use Rattle.std.proofs.lemmas.List.{length-map}
use Rattle.std.proofs.lemmas.List.Elements.{All-nil, All-cons, All-head, All-tail, All-append}
use Rattle.std.proofs.lemmas.Str.{IsUtf8-from_ascii}
use Rattle.nd_base.specs.declared.array.Dim.{Dim}
use Rattle.nd_base.specs.declared.attribute.FileShape.{FileShape}
use Rattle.nd_base.specs.GraphRules.{IsBetween}
use Rattle.nd_base.specs.Shapes.{product, sample_count, has_dimensions, most_samples}
use Rattle.nd_base.specs.ShapeLaws.{sample_count-positive, has_dimensions-none_empty}
use Rattle.cdf_read.specs.declared.head.HeadDim.{HeadDim}
use Rattle.cdf_read.specs.Places.{dim_length, value_count}
use Rattle.cdf_read.specs.Grammar.{greatest, IsDim, IsDimNumber, AreMany, IsList}
use Rattle.cdf_write.specs.Spelling.{word, name_field, dimension, element_list}
use Rattle.cdf_write.specs.Layout.{slowest_first, size_dimensions, dimensions}
use Rattle.cdf_write.specs.LengthLaws.{length-slowest_first}
use Rattle.cdf_write.specs.Writable.{IsWritable}
use Rattle.nd_stack.specs.FieldSpelling.{word-IsWord, word-IsNumber, name_field-IsName, AreSpelled, AreSpelled-append, AreSpelled-count, element_list-IsList}
use Rattle.nd_stack.specs.LayoutHeader.{size_dims, layout_sizes, layout_dims}

-- NAMES

ascii-IsAscii : (name : List ℕ) → list_all (λ byte. nat_lt byte 128) name ≡ true → IsAscii name
ascii-IsAscii [] e i = lit< tt
ascii-IsAscii (byte ∷ name) e zero = ltb-true byte 128 (and_parts (nat_lt byte 128) (list_all (λ b. nat_lt b 128) name) e).0
ascii-IsAscii (byte ∷ name) e (suc i) = ascii-IsAscii name (and_parts (nat_lt byte 128) (list_all (λ b. nat_lt b 128) name) e).1 i

-- bytes below 128 are text
pub ascii-IsUtf8 : (name : List ℕ) → list_all (λ byte. nat_lt byte 128) name ≡ true → IsUtf8 name
ascii-IsUtf8 name e = IsUtf8-from_ascii name (ascii-IsAscii name e)

-- THE LIST

dimension-IsDim : (earlier : List HeadDim) (name : List ℕ) (n : ℕ) (after : List ℕ) → 1 ≤ length name → length name ≤ 1024 → IsUtf8 name → n ≤ greatest
    → (n ≡ 0 → All (λ e. e.length ≢ 0) earlier) →
    IsDim earlier (record { name = name; length = n }) (dimension name n ++ after) after
dimension-IsDim earlier name n after least most utf8 small one =
    subst (λ before. IsDim earlier (record { name = name; length = n }) before after) (sym (append_assoc (name_field name) (word n) after)) (record {
      at_length = word n ++ after;
      name = name_field-IsName name (word n ++ after) least most utf8;
      size = word-IsNumber n after small;
      one_record = one;
    })

digit_name : (i : ℕ) → i < 10 → list_all (λ byte. nat_lt byte 128) (codes "dim" ++ (48 + i) ∷ []) ≡ true
digit_name i h = grind (arith, nat_tests)

sizes_spelled : (i : ℕ) (ns : List ℕ) (earlier : List HeadDim) → i + length ns ≤ 10 → All (IsBetween 1 greatest) ns
    → AreSpelled IsDim earlier (size_dimensions i ns) (size_dims i ns)
sizes_spelled i [] earlier few small = tt
sizes_spelled i (n ∷ ns) earlier few small =
    let here = All-head (IsBetween 1 greatest) n ns small in
    let name : List ℕ = codes "dim" ++ (48 + i) ∷ [] in
    let d : HeadDim = record { name = name; length = n } in (
      λ after. dimension-IsDim earlier name n after (omega arith) (omega arith) (ascii-IsUtf8 name (digit_name i (omega arith))) here.1
          (λ none. absurd (omega (arith, here.0, none))),
      sizes_spelled (i + 1) ns (earlier ++ d ∷ []) (omega arith) (All-tail (IsBetween 1 greatest) n ns small),
    )

-- sizes whose product is small are small
sizes_small : (dims : List Dim) (most : ℕ) → list_all (λ d. nat_lt 0 d.size) dims ≡ true → sample_count dims ≤ most
    → All (IsBetween 1 most) (map (λ d. d.size) dims)
sizes_small [] most h few = All-nil (IsBetween 1 most)
sizes_small (x ∷ dims) most h few =
    let parts = and_parts (nat_lt 0 x.size) (list_all (λ d. nat_lt 0 d.size) dims) h in
    let some : 1 ≤ x.size = ltb-true 0 x.size parts.0 in
    let positive = sample_count-positive dims parts.1 in
    let wide = mul-le-mul_left x.size positive in
    let deep = mul-le-mul_right (sample_count dims) some in
    All-cons (IsBetween 1 most) x.size (map (λ (d : Dim). d.size) dims) (some, omega arith) (sizes_small dims most parts.1 (omega arith))

All-slowest_first : (P : ℕ → Type 0) (ns : List ℕ) → All P ns → All P (slowest_first ns)
All-slowest_first P [] h = h
All-slowest_first P (n ∷ ns) h =
    All-append P (slowest_first ns) (n ∷ []) (All-slowest_first P ns (All-tail P n ns h)) (All-cons P n [] (All-head P n ns h) (All-nil P))

pub layout_sizes-small : (shape : FileShape) → IsWritable shape → All (IsBetween 1 most_samples) (layout_sizes shape)
layout_sizes-small shape h =
    All-slowest_first (IsBetween 1 most_samples) (map (λ (d : Dim). d.size) shape.dims)
    (sizes_small shape.dims most_samples (has_dimensions-none_empty shape.dims h.dimensions) h.samples)

pub length-layout_sizes : (shape : FileShape) → length (layout_sizes shape) ≡ length shape.dims
length-layout_sizes shape = length-slowest_first (map (λ (d : Dim). d.size) shape.dims) ∙ length-map shape.dims (λ (d : Dim). d.size)

pub few_dims : (dims : List Dim) → IsTrue (has_dimensions dims) → length dims ≤ 10
few_dims dims h =
    leb-true (length dims) 10 (and_parts (not (length dims == 0)) (nat_le (length dims) 10)
    (and_parts (not (length dims == 0) && nat_le (length dims) 10) (list_all (λ d. nat_lt 0 d.size) dims) h).0).1

length-size_dims : (i : ℕ) (ns : List ℕ) → length (size_dims i ns) ≡ length ns
length-size_dims i [] = refl
length-size_dims i (n ∷ ns) = ap suc (length-size_dims (i + 1) ns)

-- few dimensions
pub length-layout_dims : (shape : FileShape) → IsWritable shape → length (layout_dims shape) ≤ 12
length-layout_dims shape h =
    let last : HeadDim = record { name = codes "attrStringSize"; length = shape.width } in
    let rank : length shape.dims ≤ 10 = few_dims shape.dims h.dimensions in
    let both = length-append (size_dims 0 (layout_sizes shape)) (last ∷ []) in
    let sizes = length-size_dims 0 (layout_sizes shape) in
    let same = length-layout_sizes shape in
    omega arith

dims_spelled : (shape : FileShape) → IsWritable shape → AreSpelled IsDim [] (dimensions shape) (layout_dims shape)
dims_spelled shape h =
    let rank : length shape.dims ≤ 10 = few_dims shape.dims h.dimensions in
    let sizes : All (IsBetween 1 greatest) (layout_sizes shape) =
    (λ k d within. let each = layout_sizes-small shape h k d within in (each.0, omega (arith, each.1))) in
    let first : HeadDim = record { name = codes "numArrays"; length = 0 } in
    let last : HeadDim = record { name = codes "attrStringSize"; length = shape.width } in
    let front : AreSpelled IsDim [] (dimension (codes "numArrays") 0 ∷ size_dimensions 0 (layout_sizes shape)) (first ∷ size_dims 0 (layout_sizes shape)) = (
      λ after. dimension-IsDim [] (codes "numArrays") 0 after (omega arith) (omega arith) (ascii-IsUtf8 (codes "numArrays") refl) (omega arith)
          (λ _. All-nil (λ e. e.length ≢ 0)),
      sizes_spelled 0 (layout_sizes shape) (first ∷ []) (omega (arith, length-layout_sizes shape, rank)) sizes,
    ) in
    AreSpelled-append IsDim [] (dimension (codes "numArrays") 0 ∷ size_dimensions 0 (layout_sizes shape)) (first ∷ size_dims 0 (layout_sizes shape))
    (dimension (codes "attrStringSize") shape.width ∷ []) (last ∷ []) front (
      λ after. dimension-IsDim (first ∷ size_dims 0 (layout_sizes shape)) (codes "attrStringSize") shape.width after (omega arith) (omega arith)
          (ascii-IsUtf8 (codes "attrStringSize") refl) h.width.1 (λ none. absurd (omega (arith, h.width.0, none))),
      tt,
    )

pub dims_IsList : (shape : FileShape) (after : List ℕ) → IsWritable shape
    → IsList 10 IsDim (layout_dims shape) (element_list 10 (dimensions shape) ++ after) after
dims_IsList shape after h =
    let spelled = dims_spelled shape h in
    element_list-IsList 10 IsDim (dimensions shape) (layout_dims shape) after (omega arith)
    (omega (arith, AreSpelled-count IsDim [] (dimensions shape) (layout_dims shape) spelled, length-layout_dims shape h)) spelled

-- THEIR LENGTHS

-- where a dimension has a length, there is one
known_length : (ds : List HeadDim) (n : ℕ) → dim_length ds n ≢ 0 → n < length ds
known_length [] n h = absurd (h refl)
known_length (d ∷ ds) zero h = omega arith
known_length (d ∷ ds) (suc n) h = let rest = known_length ds n h in omega arith

next_lengths : (d : HeadDim) (ds : List HeadDim) (a n : ℕ) → map (dim_length (d ∷ ds)) (range_with_len (a + 1) n) ≡ map (dim_length ds) (range_with_len a n)
next_lengths d ds a zero = refl
next_lengths d ds a (suc n) =
    let next : a + 1 ≡ suc a = omega arith in
    ap (λ k. dim_length (d ∷ ds) k ∷ map (dim_length (d ∷ ds)) (range_with_len (a + 1 + 1) n)) next
    ∙ ap (λ rest. dim_length ds a ∷ rest) (next_lengths d ds (a + 1) n)

front_lengths : (front back : List HeadDim) → map (dim_length (front ++ back)) (range_with_len 0 (length front)) ≡ map (λ d. d.length) front
front_lengths [] back = refl
front_lengths (d ∷ front) back = ap (λ rest. d.length ∷ rest) (next_lengths d (front ++ back) 0 (length front) ∙ front_lengths front back)

size_dims-lengths : (i : ℕ) (ns : List ℕ) → map (λ d. d.length) (size_dims i ns) ≡ ns
size_dims-lengths i [] = refl
size_dims-lengths i (n ∷ ns) = ap (λ rest. n ∷ rest) (size_dims-lengths (i + 1) ns)

-- dimensions 1, 2 and so on have the array's sizes
pub sample_lengths : (shape : FileShape) → map (dim_length (layout_dims shape)) (range_with_len 1 (length shape.dims)) ≡ layout_sizes shape
sample_lengths shape =
    let ns = layout_sizes shape in
    let last : HeadDim = record { name = codes "attrStringSize"; length = shape.width } in
    let first : HeadDim = record { name = codes "numArrays"; length = 0 } in
    let count : length shape.dims ≡ length (size_dims 0 ns) = sym (length-size_dims 0 ns ∙ length-layout_sizes shape) in
    next_lengths first (size_dims 0 ns ++ last ∷ []) 0 (length shape.dims)
    ∙ ap (λ n. map (dim_length (size_dims 0 ns ++ last ∷ [])) (range_with_len 0 n)) count
    ∙ front_lengths (size_dims 0 ns) (last ∷ [])
    ∙ size_dims-lengths 0 ns

last_length : (front : List HeadDim) (d : HeadDim) (n : ℕ) → length front ≡ n → dim_length (front ++ d ∷ []) n ≡ d.length
last_length [] d zero h = refl
last_length [] d (suc n) h = absurd (omega arith)
last_length (e ∷ front) d zero h = absurd (omega arith)
last_length (e ∷ front) d (suc n) h = last_length front d n (omega arith)

-- the dimension after them has the room of a text
pub room_length : (shape : FileShape) → dim_length (layout_dims shape) (suc (length shape.dims)) ≡ shape.width
room_length shape =
    let last : HeadDim = record { name = codes "attrStringSize"; length = shape.width } in
    last_length (size_dims 0 (layout_sizes shape)) last (length shape.dims) (length-size_dims 0 (layout_sizes shape) ∙ length-layout_sizes shape)

-- DIMENSION NUMBERS

numbers_spelled : (ds : List HeadDim) (earlier numbers after : List ℕ) → length ds < 2 ^ 32 → All (λ n. n ≢ 0) (map (dim_length ds) numbers)
    → AreMany (IsDimNumber ds) earlier numbers (flat_map word numbers ++ after) after
numbers_spelled ds earlier [] after few h = refl
numbers_spelled ds earlier (n ∷ numbers) after few h =
    let here : dim_length ds n ≢ 0 = All-head (λ m. m ≢ 0) (dim_length ds n) (map (dim_length ds) numbers) h in
    let known = known_length ds n here in (
      flat_map word numbers ++ after,
      record { word = word-IsWord n (flat_map word numbers ++ after) (omega (arith, known, few)); known = known; record_first = λ none. absurd (here none) },
      numbers_spelled ds (earlier ++ n ∷ []) numbers after few (All-tail (λ m. m ≢ 0) (dim_length ds n) (map (dim_length ds) numbers) h),
    )

-- the record dimension, and then others
pub record_numbers_spelled : (shape : FileShape) (numbers after : List ℕ) → length (layout_dims shape) < 2 ^ 32
    → All (λ n. n ≢ 0) (map (dim_length (layout_dims shape)) numbers) →
    AreMany (IsDimNumber (layout_dims shape)) [] (0 ∷ numbers) (flat_map word (0 ∷ numbers) ++ after) after
record_numbers_spelled shape numbers after few h = (
  flat_map word numbers ++ after,
  record { word = word-IsWord 0 (flat_map word numbers ++ after) (omega arith); known = omega arith; record_first = λ _. refl },
  numbers_spelled (layout_dims shape) (0 ∷ []) numbers after few h,
)

-- HOW MANY VALUES

positive_filter : (ns : List ℕ) → All (λ n. n ≢ 0) ns → filter (nat_lt 0) ns ≡ ns
positive_filter [] h = refl
positive_filter (n ∷ ns) h =
    let some : nat_lt 0 n ≡ true = lt-ltb 0 n (omega (arith, All-head (λ n. n ≢ 0) n ns h)) in
    rw some (ap (λ rest. n ∷ rest) (positive_filter ns (All-tail (λ n. n ≢ 0) n ns h)))

product-append : (ns : List ℕ) (n : ℕ) → product (ns ++ n ∷ []) ≡ n * product ns
product-append [] n = refl
product-append (m ∷ ns) n = ap (λ p. m * p) (product-append ns n) ∙ omega (arith, mul_assoc m n (product ns), mul_assoc n m (product ns), mul_comm m n)

product-slowest_first : (ns : List ℕ) → product (slowest_first ns) ≡ product ns
product-slowest_first [] = refl
product-slowest_first (n ∷ ns) = product-append (slowest_first ns) n ∙ ap (λ p. n * p) (product-slowest_first ns)

layout_sizes-positive : (shape : FileShape) → IsWritable shape → All (λ n. n ≢ 0) (layout_sizes shape)
layout_sizes-positive shape h = λ k d within. λ none. let each = layout_sizes-small shape h k d within in absurd (omega (arith, each.0, none))

pub sample_lengths-positive : (shape : FileShape) → IsWritable shape
    → All (λ n. n ≢ 0) (map (dim_length (layout_dims shape)) (range_with_len 1 (length shape.dims)))
sample_lengths-positive shape h = subst (All (λ n. n ≢ 0)) (sym (sample_lengths shape)) (layout_sizes-positive shape h)

pub sample_values : (shape : FileShape) → IsWritable shape
    → value_count (layout_dims shape) (range_with_len 0 (suc (length shape.dims))) ≡ sample_count shape.dims
sample_values shape h =
    ap (λ ns. product (filter (nat_lt 0) ns)) (sample_lengths shape) ∙ ap product (positive_filter (layout_sizes shape) (layout_sizes-positive shape h))
    ∙ product-slowest_first (map (λ (d : Dim). d.size) shape.dims)

pub room_lengths-positive : (shape : FileShape) → IsWritable shape → All (λ n. n ≢ 0) (map (dim_length (layout_dims shape)) (suc (length shape.dims) ∷ []))
room_lengths-positive shape h =
    subst (λ n. All (λ m. m ≢ 0) (n ∷ [])) (sym (room_length shape))
    (All-cons (λ m. m ≢ 0) shape.width [] (λ none. absurd (omega (arith, h.width.0, none))) (All-nil (λ m. m ≢ 0)))

pub room_values : (shape : FileShape) → IsWritable shape → value_count (layout_dims shape) (0 ∷ suc (length shape.dims) ∷ []) ≡ shape.width
room_values shape h =
    ap product (positive_filter (dim_length (layout_dims shape) (suc (length shape.dims)) ∷ []) (room_lengths-positive shape h))
    ∙ ap (λ n. n * 1) (room_length shape) ∙ omega arith
