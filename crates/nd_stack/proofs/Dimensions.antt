-- The dimensions of a frame are those of an array.
use Rattle.std.proofs.Common.{◌≡◌, ◌≤◌, ◌<◌, ◌+◌, ◌-◌, ◌*◌, ℕ, Bool, true, List, [], ◌∷◌, ◌++◌, length, map, drop, get_or, refl, ap, sym, ◌∙◌, arith}
use Rattle.std.specs.Prelude.{nat_le, nat_lt, not, ◌&&◌, ◌==◌, filter, reverse, slice_index_or, All}
use Rattle.std.specs.List.{list_all, range_with_len}
use Rattle.std.proofs.Math.Nat.{mul_assoc, mul_comm, mul-one, one-mul}
use Rattle.std.proofs.lemmas.Bool.{lt-ltb, and_parts}
use Rattle.std.proofs.lemmas.Bool.Decides.{nat_tests}
use Rattle.std.proofs.lemmas.List.{reverse-append, length-reverse, length-map, length-drop, get_or-reverse, get_or-map}
use Rattle.std.proofs.lemmas.Grind.{get_or_after_one}
use Rattle.std.proofs.lemmas.Simd.{map-map}
use Rattle.std.proofs.lemmas.List.Elements.{All-head, All-tail}
use Rattle.std.proofs.lemmas.List.Folds.{list_all-append, list_all-map}
use Rattle.std.proofs.lemmas.List.FromFn.{fill_by_all}
use Rattle.nd_base.specs.declared.array.Dim.{Dim}
use Rattle.nd_base.specs.Shapes.{product, sample_count, has_dimensions}
use Rattle.cdf_read.specs.declared.head.HeadDim.{HeadDim}
use Rattle.cdf_read.specs.declared.head.HeadVar.{HeadVar}
use Rattle.cdf_read.specs.declared.head.Header.{Header}
use Rattle.cdf_read.specs.Places.{dim_length}
use Rattle.nd_stack.specs.Columns.{frame_values}
use Rattle.nd_stack.specs.FrameShape.{sizes_of, dim_of, frame_dim, dims_of}

product-append : (xs ys : List ℕ) → product (xs ++ ys) ≡ product xs * product ys
product-append [] ys = sym (one-mul (product ys))
product-append (x ∷ xs) ys = ap (λ n. x * n) (product-append xs ys) ∙ sym (mul_assoc x (product xs) (product ys))

reverse-cons : (x : ℕ) (xs : List ℕ) → reverse (x ∷ xs) ≡ reverse xs ++ x ∷ []
reverse-cons x xs = reverse-append (x ∷ []) xs

product-reverse : (xs : List ℕ) → product (reverse xs) ≡ product xs
product-reverse [] = refl
product-reverse (x ∷ xs) =
    ap product (reverse-cons x xs) ∙ product-append (reverse xs) (x ∷ []) ∙ ap (λ n. n * (x * 1)) (product-reverse xs)
    ∙ ap (λ n. product xs * n) (mul-one x) ∙ mul_comm (product xs) x

list_all-reverse : (p : ℕ → Bool) (xs : List ℕ) → list_all p xs ≡ true → list_all p (reverse xs) ≡ true
list_all-reverse p [] h = refl
list_all-reverse p (x ∷ xs) h =
    let parts = and_parts (p x) (list_all p xs) h in
    let last : list_all p (x ∷ []) ≡ true = ap (λ b. b && true) parts.0 in
    ap (list_all p) (reverse-cons x xs) ∙ list_all-append p (reverse xs) (x ∷ []) ∙ ap (λ b. b && list_all p (x ∷ [])) (list_all-reverse p xs parts.1) ∙ last

-- lengths that aren't 0 are all counted
counted : (dims : List HeadDim) (numbers : List ℕ) → All (λ n. 0 < dim_length dims n) numbers
    → filter (nat_lt 0) (map (dim_length dims) numbers) ≡ map (dim_length dims) numbers
counted dims [] h = refl
counted dims (n ∷ numbers) h =
    let here : nat_lt 0 (dim_length dims n) ≡ true = lt-ltb 0 (dim_length dims n) (All-head (λ n. 0 < dim_length dims n) n numbers h) in
    rw here (ap (λ ns. dim_length dims n ∷ ns) (counted dims numbers (All-tail (λ n. 0 < dim_length dims n) n numbers h)))

none_empty : (dims : List HeadDim) (numbers : List ℕ) → All (λ n. 0 < dim_length dims n) numbers → list_all (nat_lt 0) (map (dim_length dims) numbers) ≡ true
none_empty dims [] h = refl
none_empty dims (n ∷ numbers) h =
    let here : nat_lt 0 (dim_length dims n) ≡ true = lt-ltb 0 (dim_length dims n) (All-head (λ n. 0 < dim_length dims n) n numbers h) in
    ap (λ b. b && list_all (nat_lt 0) (map (dim_length dims) numbers)) here ∙ none_empty dims numbers (All-tail (λ n. 0 < dim_length dims n) n numbers h)

-- each dimension has its size
sizes_kept : (h : Header) (xs : List ℕ)
    → map (λ (d : Dim). d.size) (map (λ i. dim_of h (length xs) i (slice_index_or xs i 0)) (range_with_len 0 (length xs))) ≡ xs
sizes_kept h xs =
    map-map (λ (d : Dim). d.size) (λ i. dim_of h (length xs) i (slice_index_or xs i 0)) (range_with_len 0 (length xs))
    ∙ sym (fill_by_all (λ i. slice_index_or xs i 0) xs (length xs) 0 refl (λ k within. refl))

pub dims_of-sizes : (h : Header) (v : HeadVar) → map (λ (d : Dim). d.size) (dims_of h v) ≡ sizes_of h v
dims_of-sizes h v = sizes_kept h (sizes_of h v)

pub length-sizes_of : (h : Header) (v : HeadVar) → length (sizes_of h v) ≡ length v.dims - 1
length-sizes_of h v =
    length-reverse (map (dim_length h.dims) (drop 1 v.dims)) ∙ length-map (drop 1 v.dims) (dim_length h.dims) ∙ length-drop 1 v.dims

pub length-dims_of : (h : Header) (v : HeadVar) → length (dims_of h v) ≡ length v.dims - 1
length-dims_of h v = sym (length-map (dims_of h v) (λ (d : Dim). d.size)) ∙ ap length (dims_of-sizes h v) ∙ length-sizes_of h v

-- a frame has as many samples as its variable has values for it
pub sample_count-dims_of : (h : Header) (v : HeadVar) → All (λ n. 0 < dim_length h.dims n) (drop 1 v.dims) → sample_count (dims_of h v) ≡ frame_values h v
sample_count-dims_of h v fixed =
    ap product (dims_of-sizes h v) ∙ product-reverse (map (dim_length h.dims) (drop 1 v.dims)) ∙ ap product (sym (counted h.dims (drop 1 v.dims) fixed))

dims_of-none_empty : (h : Header) (v : HeadVar) → All (λ n. 0 < dim_length h.dims n) (drop 1 v.dims)
    → list_all (λ (d : Dim). nat_lt 0 d.size) (dims_of h v) ≡ true
dims_of-none_empty h v fixed =
    sym (list_all-map (nat_lt 0) (λ (d : Dim). d.size) (dims_of h v)) ∙ ap (list_all (nat_lt 0)) (dims_of-sizes h v)
    ∙ list_all-reverse (nat_lt 0) (map (dim_length h.dims) (drop 1 v.dims)) (none_empty h.dims (drop 1 v.dims) fixed)

count_fits : (n : ℕ) → 1 ≤ n → n ≤ 10 → (not (n == 0) && nat_le n 10) ≡ true
count_fits n least most = grind (arith, nat_tests)

pub dims_of-has_dimensions : (h : Header) (v : HeadVar) → 2 ≤ length v.dims → length v.dims ≤ 11 → All (λ n. 0 < dim_length h.dims n) (drop 1 v.dims)
    → has_dimensions (dims_of h v) ≡ true
dims_of-has_dimensions h v least most fixed =
    let count = length-dims_of h v in
    ap (λ b. b && list_all (λ (d : Dim). nat_lt 0 d.size) (dims_of h v)) (count_fits (length (dims_of h v)) (omega (arith, count)) (omega (arith, count)))
    ∙ dims_of-none_empty h v fixed

-- the size of dimension i is the length of the variable's dimension as far from its last
size_at : (dims : List HeadDim) (numbers : List ℕ) (i : ℕ) → i < length numbers - 1 →
    slice_index_or (reverse (map (dim_length dims) (drop 1 numbers))) i 0 ≡ dim_length dims (get_or numbers (length numbers - 1 - i) 0)
size_at dims numbers i within =
    let lengths = map (dim_length dims) (drop 1 numbers) in
    let count : length lengths ≡ length numbers - 1 = length-map (drop 1 numbers) (dim_length dims) ∙ length-drop 1 numbers in
    let place : length lengths - 1 - i ≡ length numbers - 1 - 1 - i = omega (arith, count) in
    let inside : length numbers - 1 - 1 - i < length (drop 1 numbers) = omega (arith, length-drop 1 numbers) in
    let next : 1 + (length numbers - 1 - 1 - i) ≡ length numbers - 1 - i = omega arith in
    get_or-reverse lengths i 0 (omega (arith, count)) ∙ ap (λ n. get_or lengths n 0) place
    ∙ get_or-map (dim_length dims) (drop 1 numbers) (length numbers - 1 - 1 - i) 0 0 inside
    ∙ ap (dim_length dims) (get_or_after_one numbers (length numbers - 1 - 1 - i) 0 ∙ ap (λ n. get_or numbers n 0) next)

-- so a dimension of that size is the frame's
pub frame_dim-is : (h : Header) (v : HeadVar) (i : ℕ) → i < length v.dims - 1
    → dim_of h (length v.dims - 1) i (dim_length h.dims (get_or v.dims (length v.dims - 1 - i) 0)) ≡ frame_dim h v i
frame_dim-is h v i within =
    ap (λ n. dim_of h n i (dim_length h.dims (get_or v.dims (length v.dims - 1 - i) 0))) (sym (length-sizes_of h v))
    ∙ ap (λ size. dim_of h (length (sizes_of h v)) i size) (sym (size_at h.dims v.dims i within))
