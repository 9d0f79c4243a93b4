-- Samples of at most 16 bits, summed in 32 bits.
use Rattle.std.proofs.Common.{◌≡◌, ℕ, zero, suc, ◌+◌, ◌*◌, ◌<◌, ◌≤◌, List, ap, sym, ◌∙◌, arith, ℤ, ◌+ℤ◌, w8, w32, w64, Fits, FitsSigned, take, drop, get_or}
use Rattle.std.specs.Prelude.{unsigned_abs}
use Rattle.std.proofs.Math.Numerals.{add-one}
use Rattle.std.proofs.Math.IntN.{+ℤ_assoc, +ℤ_idr}
use Rattle.std.proofs.lemmas.Int.{ints, fits_signed_from_abs}
use Rattle.std.proofs.lemmas.List.Elements.{All-from_get_or, All-take, All-drop}
use Rattle.nd_base.specs.declared.array.SampleType.{SampleType}
use Rattle.nd_base.specs.declared.array.SampleType.TheVariants.{Int8, UInt8, Int16, UInt16, Int32, UInt32}
use Rattle.nd_base.specs.Samples.{width, numbers}
use Rattle.nd_base.specs.SampleLaws.{IsSample, number-IsSample}
use Rattle.lane_kernels.specs.Plain.{stored, total, squares, run, square_run}
use Rattle.lane_kernels.proofs.Samples.{abs-add, total-more, squares-more}

-- samples of so few bits
pub narrow : (kind : SampleType) (v : ℤ) → IsSample kind v → width kind ≤ 2 → unsigned_abs v ≤ 65535
narrow Int8 v h few = omega (arith, ints, h)
narrow UInt8 v h few = omega (arith, ints, h)
narrow Int16 v h few = omega (arith, ints, h)
narrow UInt16 v h few = omega (arith, ints, h)
narrow Int32 v h few = absurd (omega arith)
narrow UInt32 v h few = absurd (omega arith)

pub narrow_stored : (kind : SampleType) (bytes : List ℕ) (p : ℕ) → ((i : ℕ) → Fits w8 (get_or bytes i 0)) → width kind ≤ 2
    → unsigned_abs (stored kind bytes p) ≤ 65535
narrow_stored kind bytes p fit few =
    let small = All-from_get_or (λ b. b < 256) bytes 0 (λ i _. (fit i).fits) in
    narrow kind (stored kind bytes p) (number-IsSample kind (take (width kind) (drop (p * width kind) bytes))
    (All-take (λ b. b < 256) (width kind) (drop (p * width kind) bytes) (All-drop (λ b. b < 256) (p * width kind) bytes small))) few

pub byte : (kind : SampleType) (v : ℤ) → IsSample kind v → width kind ≡ 1 → unsigned_abs v ≤ 255
byte Int8 v h few = omega (arith, ints, h)
byte UInt8 v h few = omega (arith, ints, h)
byte Int16 v h few = absurd (omega arith)
byte UInt16 v h few = absurd (omega arith)
byte Int32 v h few = absurd (omega arith)
byte UInt32 v h few = absurd (omega arith)

pub byte_stored : (kind : SampleType) (bytes : List ℕ) (p : ℕ) → ((i : ℕ) → Fits w8 (get_or bytes i 0)) → width kind ≡ 1
    → unsigned_abs (stored kind bytes p) ≤ 255
byte_stored kind bytes p fit one =
    let small = All-from_get_or (λ b. b < 256) bytes 0 (λ i _. (fit i).fits) in
    byte kind (stored kind bytes p) (number-IsSample kind (take (width kind) (drop (p * width kind) bytes))
    (All-take (λ b. b < 256) (width kind) (drop (p * width kind) bytes) (All-drop (λ b. b < 256) (p * width kind) bytes small))) one

-- the sum of two samples fits
pub two_fit : (kind : SampleType) (bytes : List ℕ) (p : ℕ) → ((i : ℕ) → Fits w8 (get_or bytes i 0)) → width kind ≤ 2 → FitsSigned w32 (run kind bytes 2 p)
two_fit kind bytes p fit few =
    let first = narrow_stored kind bytes (p + 0) fit few in
    let second = narrow_stored kind bytes (p + 1) fit few in
    fits_signed_from_abs w32 (run kind bytes 2 p) (omega (arith, ints, first, second))

-- the sum of the samples before a place and of a run from there on
pub total-run : (kind : SampleType) (k m : ℕ) (bytes : List ℕ) → total (numbers kind (k + m) bytes) ≡ total (numbers kind k bytes) +ℤ run kind bytes m k
total-run kind k zero bytes = ap (λ n. total (numbers kind n bytes)) (let e : k + 0 ≡ k = omega arith in e) ∙ sym (+ℤ_idr (total (numbers kind k bytes)))
total-run kind k (suc m) bytes =
    let v = stored kind bytes (k + m) in
    ap (λ n. total (numbers kind n bytes)) (let e : k + suc m ≡ k + m + 1 = omega arith in e)
    ∙ total-more kind (k + m) bytes ∙ ap (λ z. z +ℤ v) (total-run kind k m bytes) ∙ +ℤ_assoc (total (numbers kind k bytes)) (run kind bytes m k) v

-- a block more
pub block_most : (a v : ℤ) (k m : ℕ) → unsigned_abs a ≤ k * 65535 → unsigned_abs v ≤ m * 65535 → unsigned_abs (a +ℤ v) ≤ (k + m) * 65535
block_most a v k m h small = let s = abs-add a v in omega (arith, s)

pub block_fits : (a v : ℤ) (k m : ℕ) → unsigned_abs a ≤ k * 65535 → unsigned_abs v ≤ m * 65535 → k + m ≤ 67108864 → FitsSigned w64 (a +ℤ v)
block_fits a v k m h small few = fits_signed_from_abs w64 (a +ℤ v) (let s = block_most a v k m h small in omega (arith, s))

-- the squares of the samples before a place and of a run from there on
pub squares-run : (kind : SampleType) (k m : ℕ) (bytes : List ℕ)
    → squares (numbers kind (k + m) bytes) ≡ squares (numbers kind k bytes) + square_run kind bytes m k
squares-run kind k zero bytes = ap (λ n. squares (numbers kind n bytes)) (let e : k + 0 ≡ k = omega arith in e)
    ∙ (let e : squares (numbers kind k bytes) ≡ squares (numbers kind k bytes) + 0 = omega arith in e)
squares-run kind k (suc m) bytes =
    let v = unsigned_abs (stored kind bytes (k + m)) in
    let more = ap (λ n. squares (numbers kind n bytes)) (let e : k + suc m ≡ k + m + 1 = omega arith in e) ∙ squares-more kind (k + m) bytes in
    let before = squares-run kind k m bytes in
    omega (arith, more, before)

pub square_run-more : (kind : SampleType) (n p : ℕ) (bytes : List ℕ)
    → square_run kind bytes (n + 1) p ≡ square_run kind bytes n p + unsigned_abs (stored kind bytes (p + n)) * unsigned_abs (stored kind bytes (p + n))
square_run-more kind n p bytes = rw add-one
