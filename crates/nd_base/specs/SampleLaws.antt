-- Laws of samples as numbers.
use Rattle.std.specs.Prelude.{◌≡◌, ℕ, zero, suc, ◌+◌, ◌*◌, ◌/◌, ◌<◌, ◌≤◌, ◌^◌, ℤ, pos, negsuc, List, [], ◌∷◌, ◌++◌, length, take, drop, slice_get, Some}
use Rattle.std.specs.Prelude.{All, FitsSigned, refl}
use Rattle.std.specs.Int.{w8, w16, w32, w64, cast_signed, cast_unsigned, FitsUnsigned, from_be_bytes, to_be_bytes}
use Rattle.std.proofs.Common.{ap, sym, subst, ◌∙◌, arith, add_comm, length-append, get_or}
use Rattle.std.proofs.Math.Nat.{mul-div_cancel, zero-mul, suc-mul, mul-le-mul_right}
use Rattle.std.proofs.lemmas.List.{drop-drop, take-append-drop, length-take-le, length-drop, take_at, drop_at, nil_from_length}
use Rattle.std.proofs.lemmas.List.Elements.{All-nil, All-cons, All-take, All-drop, All-head, All-tail}
use Rattle.std.proofs.lemmas.Nat.{be_bytes_2, be_bytes_4, from_be_bytes-to_be_bytes_2, from_be_bytes-to_be_bytes_4}
use Rattle.std.proofs.lemmas.Int.{of_z-to_z, to_z-of_z, ints}
use Rattle.nd_base.specs.declared.array.SampleType.{SampleType}
use Rattle.nd_base.specs.declared.array.SampleType.TheVariants.{Int8, UInt8, Int16, UInt16, Int32, UInt32}
use Rattle.nd_base.specs.Samples.{width, number, numbers, samples_of, sample_bytes, bytes_of, IsSmall}

pub length-numbers : (kind : SampleType) (n : ℕ) (bytes : List ℕ) → length (numbers kind n bytes) ≡ n
length-numbers kind zero bytes = refl
length-numbers kind (suc n) bytes = ap suc (length-numbers kind n (drop (width kind) bytes))

-- a sample takes at least a byte
pub width-positive : (kind : SampleType) → 0 < width kind
width-positive Int8 = omega arith
width-positive UInt8 = omega arith
width-positive Int16 = omega arith
width-positive UInt16 = omega arith
width-positive Int32 = omega arith
width-positive UInt32 = omega arith

-- the bytes of n samples hold n samples
pub length-samples_of : (kind : SampleType) (n : ℕ) (bytes : List ℕ) → length bytes ≡ n * width kind → length (samples_of kind bytes) ≡ n
length-samples_of kind n bytes h =
    length-numbers kind (length bytes / width kind) bytes ∙ ap (λ m. m / width kind) h ∙ mul-div_cancel n (width-positive kind)

-- sample k has the bytes from k * width on
pub slice_get-numbers : (kind : SampleType) (n k : ℕ) (bytes : List ℕ) → k < n
    → slice_get (numbers kind n bytes) k ≡ Some (number kind (take (width kind) (drop (k * width kind) bytes)))
slice_get-numbers kind zero k bytes h = absurd (omega arith)
slice_get-numbers kind (suc n) zero bytes h = ap (λ m. Some (number kind (take (width kind) (drop m bytes)))) (sym (zero-mul (width kind)))
slice_get-numbers kind (suc n) (suc k) bytes h =
    slice_get-numbers kind n k (drop (width kind) bytes) (omega arith)
    ∙ ap (λ rest. Some (number kind (take (width kind) rest))) (drop-drop (k * width kind) (width kind) bytes
    ∙ ap (λ m. drop m bytes) (sym (suc-mul k (width kind) ∙ add_comm (k * width kind) (width kind))))

pub width-most : (kind : SampleType) → width kind ≤ 4
width-most Int8 = omega arith
width-most UInt8 = omega arith
width-most Int16 = omega arith
width-most UInt16 = omega arith
width-most Int32 = omega arith
width-most UInt32 = omega arith

-- the bytes of sample i end within those of n samples
pub sample_within : (i n w : ℕ) → i < n → i * w + w ≤ n * w
sample_within i n w h = subst (λ m. m ≤ n * w) (suc-mul i w) (mul-le-mul_right w h)

pub slice_get-samples_of : (kind : SampleType) (n k : ℕ) (bytes : List ℕ) → length bytes ≡ n * width kind → k < n
    → slice_get (samples_of kind bytes) k ≡ Some (number kind (take (width kind) (drop (k * width kind) bytes)))
slice_get-samples_of kind n k bytes h within =
    slice_get-numbers kind (length bytes / width kind) k bytes (rw (h, mul-div_cancel n (width-positive kind)) within)

-- each number of the list is that of a byte
abbrev pub AreBytes : List ℕ → Type 0
AreBytes bytes = All (λ b. b < 256) bytes

pub byte_within : (bytes : List ℕ) → AreBytes bytes → (i : ℕ) → get_or bytes i 0 < 256
byte_within [] small i = omega arith
byte_within (b ∷ bytes) small zero = small 0 0 (omega arith)
byte_within (b ∷ bytes) small (suc i) = byte_within bytes (λ k d h. small (suc k) d (omega arith)) i

-- what so many bytes stand for
pub below_8 : (bytes : List ℕ) → AreBytes bytes → from_be_bytes w8 bytes < 2 ^ 8
below_8 bytes small = let a = byte_within bytes small 0 in omega arith

pub below_16 : (bytes : List ℕ) → AreBytes bytes → from_be_bytes w16 bytes < 2 ^ 16
below_16 bytes small = let a = byte_within bytes small 0 in let b = byte_within bytes small 1 in omega arith

pub below_32 : (bytes : List ℕ) → AreBytes bytes → from_be_bytes w32 bytes < 2 ^ 32
below_32 bytes small =
    let a = byte_within bytes small 0 in
    let b = byte_within bytes small 1 in
    let c = byte_within bytes small 2 in
    let d = byte_within bytes small 3 in
    omega arith

pub below_64 : (bytes : List ℕ) → AreBytes bytes → from_be_bytes w64 bytes < 2 ^ 64
below_64 bytes small =
    let a = byte_within bytes small 0 in
    let b = byte_within bytes small 1 in
    let c = byte_within bytes small 2 in
    let d = byte_within bytes small 3 in
    let e = byte_within bytes small 4 in
    let f = byte_within bytes small 5 in
    let g = byte_within bytes small 6 in
    let h = byte_within bytes small 7 in
    omega arith

be_bytes_1 : (bytes : List ℕ) (n : ℕ) → length bytes ≡ 1 → AreBytes bytes → n ≡ from_be_bytes w8 bytes → to_be_bytes w8 n ≡ bytes
be_bytes_1 [] n h small is = absurd (omega arith)
be_bytes_1 (b ∷ []) n h small is = let a = small 0 0 (omega arith) in ap (λ m. m ∷ []) (omega arith)
be_bytes_1 (b ∷ c ∷ bytes) n h small is = absurd (omega arith)

-- the bytes of the number of a sample's bytes
pub sample_bytes-number : (kind : SampleType) (bytes : List ℕ) → length bytes ≡ width kind → AreBytes bytes → sample_bytes kind (number kind bytes) ≡ bytes
sample_bytes-number Int8 bytes h small = be_bytes_1 bytes _ h small (of_z-to_z w8 (from_be_bytes w8 bytes) (below_8 bytes small))
sample_bytes-number UInt8 bytes h small = be_bytes_1 bytes _ h small refl
sample_bytes-number Int16 bytes h small = be_bytes_2 bytes _ h (byte_within bytes small) (of_z-to_z w16 (from_be_bytes w16 bytes) (below_16 bytes small))
sample_bytes-number UInt16 bytes h small = be_bytes_2 bytes _ h (byte_within bytes small) refl
sample_bytes-number Int32 bytes h small = be_bytes_4 bytes _ h (byte_within bytes small) (of_z-to_z w32 (from_be_bytes w32 bytes) (below_32 bytes small))
sample_bytes-number UInt32 bytes h small = be_bytes_4 bytes _ h (byte_within bytes small) refl

bytes_of-numbers : (kind : SampleType) (n : ℕ) (bytes : List ℕ) → length bytes ≡ n * width kind → AreBytes bytes → bytes_of kind (numbers kind n bytes) ≡ bytes
bytes_of-numbers kind zero bytes h small = sym (nil_from_length bytes (h ∙ zero-mul (width kind)))
bytes_of-numbers kind (suc n) bytes h small =
    let w = width kind in
    let all : length bytes ≡ n * w + w = h ∙ suc-mul n w in
    let first : length (take w bytes) ≡ w = length-take-le w bytes (omega arith) in
    let others : length (drop w bytes) ≡ n * w = length-drop w bytes ∙ omega arith in
    ap (λ front. front ++ bytes_of kind (numbers kind n (drop w bytes))) (sample_bytes-number kind (take w bytes) first (All-take (λ b. b < 256) w bytes small))
    ∙ ap (λ rest. take w bytes ++ rest) (bytes_of-numbers kind n (drop w bytes) others (All-drop (λ b. b < 256) w bytes small))
    ∙ take-append-drop w bytes

-- the bytes of the samples that whole samples' bytes hold
pub bytes_of-samples_of : (kind : SampleType) (n : ℕ) (bytes : List ℕ) → length bytes ≡ n * width kind → AreBytes bytes
    → bytes_of kind (samples_of kind bytes) ≡ bytes
bytes_of-samples_of kind n bytes h small =
    let count : length bytes / width kind ≡ n = ap (λ m. m / width kind) h ∙ mul-div_cancel n (width-positive kind) in
    ap (λ m. bytes_of kind (numbers kind m bytes)) count ∙ bytes_of-numbers kind n bytes h small

pub length-sample_bytes : (kind : SampleType) (v : ℤ) → length (sample_bytes kind v) ≡ width kind
length-sample_bytes Int8 v = refl
length-sample_bytes UInt8 v = refl
length-sample_bytes Int16 v = refl
length-sample_bytes UInt16 v = refl
length-sample_bytes Int32 v = refl
length-sample_bytes UInt32 v = refl

pub length-bytes_of : (kind : SampleType) (samples : List ℤ) → length (bytes_of kind samples) ≡ length samples * width kind
length-bytes_of kind [] = sym (zero-mul (width kind))
length-bytes_of kind (v ∷ samples) =
    let both = length-append (sample_bytes kind v) (bytes_of kind samples) in
    let here = length-sample_bytes kind v in
    let rest = length-bytes_of kind samples in
    let more = suc-mul (length samples) (width kind) in
    omega arith

-- a number that a sample of this type stands for
abbrev pub IsSample : SampleType → ℤ → Type 0
IsSample Int8 v = FitsSigned w8 v
IsSample UInt8 v = FitsUnsigned w8 v
IsSample Int16 v = FitsSigned w16 v
IsSample UInt16 v = FitsUnsigned w16 v
IsSample Int32 v = FitsSigned w32 v
IsSample UInt32 v = FitsUnsigned w32 v

-- a number of so many bits, read with a sign, fits
pub signed_8 : (n : ℕ) → n < 2 ^ 8 → FitsSigned w8 (cast_signed w8 n)
signed_8 n h = omega (arith, ints, h)

pub signed_16 : (n : ℕ) → n < 2 ^ 16 → FitsSigned w16 (cast_signed w16 n)
signed_16 n h = omega (arith, ints, h)

pub signed_32 : (n : ℕ) → n < 2 ^ 32 → FitsSigned w32 (cast_signed w32 n)
signed_32 n h = omega (arith, ints, h)

-- the number of bytes is one of its type
pub number-IsSample : (kind : SampleType) (bytes : List ℕ) → AreBytes bytes → IsSample kind (number kind bytes)
number-IsSample Int8 bytes small = signed_8 (from_be_bytes w8 bytes) (below_8 bytes small)
number-IsSample UInt8 bytes small = let few = below_8 bytes small in omega (arith, ints, few)
number-IsSample Int16 bytes small = signed_16 (from_be_bytes w16 bytes) (below_16 bytes small)
number-IsSample UInt16 bytes small = let few = below_16 bytes small in omega (arith, ints, few)
number-IsSample Int32 bytes small = signed_32 (from_be_bytes w32 bytes) (below_32 bytes small)
number-IsSample UInt32 bytes small = let few = below_32 bytes small in omega (arith, ints, few)

numbers-IsSample : (kind : SampleType) (n : ℕ) (bytes : List ℕ) → AreBytes bytes → All (IsSample kind) (numbers kind n bytes)
numbers-IsSample kind zero bytes small = All-nil (IsSample kind)
numbers-IsSample kind (suc n) bytes small =
    All-cons (IsSample kind) (number kind (take (width kind) bytes)) (numbers kind n (drop (width kind) bytes))
    (number-IsSample kind (take (width kind) bytes) (All-take (λ b. b < 256) (width kind) bytes small))
    (numbers-IsSample kind n (drop (width kind) bytes) (All-drop (λ b. b < 256) (width kind) bytes small))

-- and so is each sample of bytes
pub samples_of-IsSample : (kind : SampleType) (bytes : List ℕ) → AreBytes bytes → All (IsSample kind) (samples_of kind bytes)
samples_of-IsSample kind bytes small = numbers-IsSample kind (length bytes / width kind) bytes small

-- a sample has at most 32 bits
pub sample-IsSmall : (kind : SampleType) (v : ℤ) → IsSample kind v → IsSmall v
sample-IsSmall Int8 v h = omega (arith, ints, h)
sample-IsSmall UInt8 v h = omega (arith, ints, h)
sample-IsSmall Int16 v h = omega (arith, ints, h)
sample-IsSmall UInt16 v h = omega (arith, ints, h)
sample-IsSmall Int32 v h = omega (arith, ints, h)
sample-IsSmall UInt32 v h = omega (arith, ints, h)

unsigned_8 : (v : ℤ) → FitsSigned w8 v → from_be_bytes w8 (to_be_bytes w8 (cast_unsigned w8 v)) ≡ cast_unsigned w8 v
unsigned_8 (pos n) h = omega (arith, ints)
unsigned_8 (negsuc n) h = omega (arith, ints)

unsigned_16 : (v : ℤ) → FitsSigned w16 v → cast_unsigned w16 v < 2 ^ 16
unsigned_16 (pos n) h = omega (arith, ints)
unsigned_16 (negsuc n) h = omega (arith, ints)

unsigned_32 : (v : ℤ) → FitsSigned w32 v → cast_unsigned w32 v < 2 ^ 32
unsigned_32 (pos n) h = omega (arith, ints)
unsigned_32 (negsuc n) h = omega (arith, ints)

-- the number of the bytes of a sample
pub number-sample_bytes : (kind : SampleType) (v : ℤ) → IsSample kind v → number kind (sample_bytes kind v) ≡ v
number-sample_bytes Int8 v h = ap (cast_signed w8) (unsigned_8 v h) ∙ to_z-of_z w8 v h
number-sample_bytes UInt8 (pos n) h = ap pos (omega (arith, ints))
number-sample_bytes UInt8 (negsuc n) h = absurd (omega (arith, ints))
number-sample_bytes Int16 v h = ap (cast_signed w16) (from_be_bytes-to_be_bytes_2 (cast_unsigned w16 v) (unsigned_16 v h)) ∙ to_z-of_z w16 v h
number-sample_bytes UInt16 (pos n) h = ap pos (from_be_bytes-to_be_bytes_2 n (omega (arith, ints)))
number-sample_bytes UInt16 (negsuc n) h = absurd (omega (arith, ints))
number-sample_bytes Int32 v h = ap (cast_signed w32) (from_be_bytes-to_be_bytes_4 (cast_unsigned w32 v) (unsigned_32 v h)) ∙ to_z-of_z w32 v h
number-sample_bytes UInt32 (pos n) h = ap pos (from_be_bytes-to_be_bytes_4 n (omega (arith, ints)))
number-sample_bytes UInt32 (negsuc n) h = absurd (omega (arith, ints))

numbers-bytes_of : (kind : SampleType) (samples : List ℤ) → All (IsSample kind) samples → numbers kind (length samples) (bytes_of kind samples) ≡ samples
numbers-bytes_of kind [] h = refl
numbers-bytes_of kind (v ∷ samples) h =
    let w = width kind in
    let here = take_at (sample_bytes kind v) (bytes_of kind samples) w (length-sample_bytes kind v) in
    let others = drop_at (sample_bytes kind v) (bytes_of kind samples) w (length-sample_bytes kind v) in
    ap (λ bytes. number kind bytes ∷ numbers kind (length samples) (drop w (sample_bytes kind v ++ bytes_of kind samples))) here
    ∙ ap (λ m. m ∷ numbers kind (length samples) (drop w (sample_bytes kind v ++ bytes_of kind samples)))
    (number-sample_bytes kind v (All-head (IsSample kind) v samples h))
    ∙ ap (λ bytes. v ∷ numbers kind (length samples) bytes) others
    ∙ ap (λ rest. v ∷ rest) (numbers-bytes_of kind samples (All-tail (IsSample kind) v samples h))

-- the samples of the bytes of samples
pub samples_of-bytes_of : (kind : SampleType) (samples : List ℤ) → All (IsSample kind) samples → samples_of kind (bytes_of kind samples) ≡ samples
samples_of-bytes_of kind samples h =
    let count : length (bytes_of kind samples) / width kind ≡ length samples = ap (λ m. m / width kind) (length-bytes_of kind samples)
    ∙ mul-div_cancel (length samples) (width-positive kind) in
    ap (λ m. numbers kind m (bytes_of kind samples)) count ∙ numbers-bytes_of kind samples h
