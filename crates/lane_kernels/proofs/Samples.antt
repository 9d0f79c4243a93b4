-- One sample more.
use Rattle.std.proofs.Common.{◌≡◌, ℕ, zero, suc, ◌+◌, ◌*◌, ◌/◌, ◌<◌, ◌≤◌, ◌^◌, List, [], ◌∷◌, ◌++◌, take, drop, ap, sym, ◌∙◌, arith, ℤ, pos, negsuc, ◌+ℤ◌}
use Rattle.std.proofs.Common.{add_comm}
use Rattle.std.specs.Prelude.{unsigned_abs}
use Rattle.std.proofs.Math.IntN.{+ℤ_assoc, +ℤ_idl, +ℤ_idr}
use Rattle.std.proofs.Math.Nat.{suc-mul, zero-mul, mul-le-mul_right, div-mul-le_self}
use Rattle.std.proofs.lemmas.List.{drop-drop}
use Rattle.std.proofs.lemmas.Nat.{le-div}
use Rattle.std.proofs.lemmas.Int.{ints, to_z-of_z, fits_signed_from_abs}
use Rattle.std.proofs.Common.{to_z, of_z, w64, FitsSigned}
use Rattle.nd_base.specs.declared.array.SampleType.{SampleType}
use Rattle.nd_base.specs.Samples.{width, number, numbers}
use Rattle.lane_kernels.specs.Plain.{total, squares, stored}

pub numbers-more : (kind : SampleType) (k : ℕ) (bytes : List ℕ) → numbers kind (suc k) bytes ≡ numbers kind k bytes ++ stored kind bytes k ∷ []
numbers-more kind zero bytes = ap (λ m. number kind (take (width kind) (drop m bytes)) ∷ []) (sym (zero-mul (width kind)))
numbers-more kind (suc k) bytes =
    let w = width kind in
    ap (λ rest. number kind (take w bytes) ∷ rest)
    (numbers-more kind k (drop w bytes)
    ∙ ap (λ rest. numbers kind k (drop w bytes) ++ number kind (take w rest) ∷ []) (drop-drop (k * w) w bytes
    ∙ ap (λ m. drop m bytes) (sym (suc-mul k w ∙ add_comm (k * w) w))))

pub total-append : (us vs : List ℤ) → total (us ++ vs) ≡ total us +ℤ total vs
total-append [] vs = sym (+ℤ_idl (total vs))
total-append (u ∷ us) vs = ap (λ n. u +ℤ n) (total-append us vs) ∙ sym (+ℤ_assoc u (total us) (total vs))

pub squares-append : (us vs : List ℤ) → squares (us ++ vs) ≡ squares us + squares vs
squares-append [] vs = omega arith
squares-append (u ∷ us) vs = let rest = squares-append us vs in omega arith

-- the sum of one sample more
pub total-more : (kind : SampleType) (k : ℕ) (bytes : List ℕ) → total (numbers kind (k + 1) bytes) ≡ total (numbers kind k bytes) +ℤ stored kind bytes k
total-more kind k bytes =
    let v = stored kind bytes k in
    ap (λ n. total (numbers kind n bytes)) (let e : k + 1 ≡ suc k = omega arith in e) ∙ ap total (numbers-more kind k bytes)
    ∙ total-append (numbers kind k bytes) (v ∷ []) ∙ ap (λ n. total (numbers kind k bytes) +ℤ n) (+ℤ_idr v)

pub squares-more : (kind : SampleType) (k : ℕ) (bytes : List ℕ)
    → squares (numbers kind (k + 1) bytes) ≡ squares (numbers kind k bytes) + unsigned_abs (stored kind bytes k) * unsigned_abs (stored kind bytes k)
squares-more kind k bytes =
    let v = stored kind bytes k in
    ap (λ n. squares (numbers kind n bytes)) (let e : k + 1 ≡ suc k = omega arith in e) ∙ ap squares (numbers-more kind k bytes)
    ∙ squares-append (numbers kind k bytes) (v ∷ [])
    ∙ ap (λ n. squares (numbers kind k bytes) + n) (let e : unsigned_abs v * unsigned_abs v + 0 ≡ unsigned_abs v * unsigned_abs v = omega arith in e)

pub abs-add : (a b : ℤ) → unsigned_abs (a +ℤ b) ≤ unsigned_abs a + unsigned_abs b
abs-add (pos a) (pos b) = omega (arith, ints)
abs-add (pos a) (negsuc b) = omega (arith, ints)
abs-add (negsuc a) (pos b) = omega (arith, ints)
abs-add (negsuc a) (negsuc b) = omega (arith, ints)

-- the bytes of sample k end within the bytes
pub bytes_within : (k n w : ℕ) → k < n / w → k * w + w ≤ n
bytes_within k n w h =
    let a = mul-le-mul_right w h in
    let b = suc-mul k w in
    let c = div-mul-le_self n w in
    omega (arith, a, b, c)

-- the number that was read at place k
pub same_number : (kind : SampleType) (w k : ℕ) (v : ℤ) (bytes : List ℕ) → w ≡ width kind → v ≡ number kind (take (width kind) (drop (k * w) bytes))
    → v ≡ stored kind bytes k
same_number kind w k v bytes e f = f ∙ ap (λ n. number kind (take (width kind) (drop (k * n) bytes))) e

-- a sum of so few samples in 64 bits
pub sum_bound : (a v : ℤ) (k : ℕ) → unsigned_abs a ≤ k * 4294967296 → unsigned_abs v < 2 ^ 32 → unsigned_abs (a +ℤ v) ≤ (k + 1) * 4294967296
sum_bound a v k h small = let s = abs-add a v in omega (arith, s)

pub sum_stored : (a v : ℤ) (k : ℕ) → unsigned_abs a ≤ k * 4294967296 → unsigned_abs v < 2 ^ 32 → k < 67108864
    → to_z w64 (of_z w64 (a +ℤ to_z w64 (of_z w64 v))) ≡ a +ℤ v
sum_stored a v k h small few =
    let fv : FitsSigned w64 v = fits_signed_from_abs w64 v (omega arith) in
    let fs : FitsSigned w64 (a +ℤ v) = fits_signed_from_abs w64 (a +ℤ v) (let s = sum_bound a v k h small in omega (arith, s)) in
    ap (λ z. to_z w64 (of_z w64 (a +ℤ z))) (to_z-of_z w64 v fv) ∙ to_z-of_z w64 (a +ℤ v) fs

-- bytes of at least one sample
pub some_samples : (n w : ℕ) → 0 < w → w ≤ n → 0 < n / w
some_samples n w some h = let e : 1 * w ≤ n = omega arith in le-div 1 n w some e
