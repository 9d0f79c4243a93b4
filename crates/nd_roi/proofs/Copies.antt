-- Regions whose samples are those that they cover.
use Rattle.std.proofs.Common.{◌≡◌, ℕ, zero, suc, ◌+◌, ◌-◌, ◌*◌, ◌<◌, ◌≤◌, ℤ, pos, negsuc, FitsSigned, List, [], ◌∷◌, ◌++◌, length, take, drop, get_or}
use Rattle.std.proofs.Common.{false, refl, ap, sym, ◌∙◌, arith}
use Rattle.std.specs.Prelude.{if◌then◌else◌}
use Rattle.std.specs.Int.{w8, w16, w32, cast_signed, cast_unsigned, from_be_bytes}
use Rattle.std.specs.Int.RustNames.{int_div}
use Rattle.std.specs.List.{range_with_len, flat_map}
use Rattle.std.proofs.Math.Nat.{zero-mul, suc-mul, mul-le-mul_right}
use Rattle.std.proofs.Math.IntN.{+ℤ_idl}
use Rattle.std.proofs.lemmas.Int.{ints, of_z-to_z}
use Rattle.nd_base.specs.SampleLaws.{signed_8, signed_16, signed_32}
use Rattle.std.proofs.lemmas.Nat.{be_bytes_2, be_bytes_4}
use Rattle.std.proofs.Math.Seq.{take-add}
use Rattle.std.proofs.lemmas.List.{drop-drop, length-take-le, length-drop, get_or-drop}
use Rattle.nd_base.specs.declared.array.SampleType.{SampleType}
use Rattle.nd_base.specs.declared.array.SampleType.TheVariants.{Int8, UInt8, Int16, UInt16, Int32, UInt32}
use Rattle.nd_base.specs.Samples.{width, number}
use Rattle.nd_roi.specs.declared.cut.Cut.{Cut}
use Rattle.nd_roi.specs.declared.walk.Axis.{Axis}
use Rattle.nd_roi.specs.Region.{low_bits}
use Rattle.nd_roi.specs.Walk.{covers_from}
use Rattle.nd_roi.specs.Walk.{stored, run, sum_below, lines_total, bins_of, bytes_of, line_total, line_bytes}
use Rattle.nd_roi.proofs.Bounds.{get_or_take_small}
use Rattle.nd_roi.proofs.Gather.{int_div-one}
use Rattle.nd_roi.proofs.Places.{flat_map-cong}

-- a product of 1
ones : (m n : ℕ) → m * n ≡ 1 → (m ≡ 1) × (n ≡ 1)
ones zero n e = let z = zero-mul n in absurd (omega (arith, z, e))
ones (suc zero) n e = (refl, (let z = suc-mul 0 n in omega (arith, z, e)))
ones (suc (suc m)) zero e = absurd (omega (arith, e))
ones (suc (suc m)) (suc n) e = let a = suc-mul (suc m) (suc n) in let b = suc-mul m (suc n) in absurd (omega (arith, a, b, e))

-- where a bin covers one line alone
pub lines_single : (axes : List Axis) (value : ℕ → ℤ) (base : ℕ) → bins_of axes ≡ 1 → lines_total axes value base ≡ value base
lines_single [] value base one = refl
lines_single (a ∷ axes) value base one =
    let both = ones a.cut.bin (bins_of axes) one in
    ap (λ n. sum_below n (λ j. lines_total axes value (base + j * a.stride))) both.0
    ∙ +ℤ_idl (lines_total axes value (base + 0 * a.stride))
    ∙ ap (lines_total axes value) (let z = zero-mul a.stride in let e : base + 0 * a.stride ≡ base = omega (arith, z) in e)
    ∙ lines_single axes value base both.1

low_u8 : (n : ℕ) → n < 256 → low_bits 8 (pos n) ≡ n
low_u8 n h = omega (arith, ints)

low_u16 : (n : ℕ) → n < 65536 → low_bits 16 (pos n) ≡ n
low_u16 n h = omega (arith, ints)

low_u32 : (n : ℕ) → n < 4294967296 → low_bits 32 (pos n) ≡ n
low_u32 n h = omega (arith, ints)

signed_low_8 : (z : ℤ) → FitsSigned w8 z → low_bits 8 z ≡ cast_unsigned w8 z
signed_low_8 (pos n) fits = omega (arith, ints)
signed_low_8 (negsuc n) fits = omega (arith, ints)

signed_low_16 : (z : ℤ) → FitsSigned w16 z → low_bits 16 z ≡ cast_unsigned w16 z
signed_low_16 (pos n) fits = omega (arith, ints)
signed_low_16 (negsuc n) fits = omega (arith, ints)

signed_low_32 : (z : ℤ) → FitsSigned w32 z → low_bits 32 z ≡ cast_unsigned w32 z
signed_low_32 (pos n) fits = omega (arith, ints)
signed_low_32 (negsuc n) fits = omega (arith, ints)

low_8 : (n : ℕ) → n < 256 → low_bits 8 (cast_signed w8 n) ≡ n
low_8 n h = signed_low_8 (cast_signed w8 n) (signed_8 n h) ∙ of_z-to_z w8 n h

low_16 : (n : ℕ) → n < 65536 → low_bits 16 (cast_signed w16 n) ≡ n
low_16 n h = signed_low_16 (cast_signed w16 n) (signed_16 n h) ∙ of_z-to_z w16 n h

low_32 : (n : ℕ) → n < 4294967296 → low_bits 32 (cast_signed w32 n) ≡ n
low_32 n h = signed_low_32 (cast_signed w32 n) (signed_32 n h) ∙ of_z-to_z w32 n h

below_8 : (xs : List ℕ) → ((i : ℕ) → get_or xs i 0 < 256) → from_be_bytes w8 xs < 256
below_8 xs each = let a = each 0 in omega (arith, a)

below_16 : (xs : List ℕ) → ((i : ℕ) → get_or xs i 0 < 256) → from_be_bytes w16 xs < 65536
below_16 xs each = let a = each 0 in let b = each 1 in omega (arith, a, b)

below_32 : (xs : List ℕ) → ((i : ℕ) → get_or xs i 0 < 256) → from_be_bytes w32 xs < 4294967296
below_32 xs each = let a = each 0 in let b = each 1 in let c = each 2 in let d = each 3 in omega (arith, a, b, c, d)

one_byte : (xs : List ℕ) → length xs ≡ 1 → from_be_bytes w8 xs ∷ [] ≡ xs
one_byte [] e = absurd (omega arith)
one_byte (x ∷ []) e = refl
one_byte (x ∷ y ∷ xs) e = absurd (omega arith)

-- the bytes of the number in these bytes
bytes_of-number : (kind : SampleType) (xs : List ℕ) → length xs ≡ width kind → ((i : ℕ) → get_or xs i 0 < 256) → bytes_of kind (number kind xs) ≡ xs
bytes_of-number Int8 xs long each = ap (λ n. n ∷ []) (low_8 (from_be_bytes w8 xs) (below_8 xs each)) ∙ one_byte xs long
bytes_of-number UInt8 xs long each = ap (λ n. n ∷ []) (low_u8 (from_be_bytes w8 xs) (below_8 xs each)) ∙ one_byte xs long
bytes_of-number Int16 xs long each =
    be_bytes_2 xs (low_bits 16 (cast_signed w16 (from_be_bytes w16 xs))) long each (low_16 (from_be_bytes w16 xs) (below_16 xs each))
bytes_of-number UInt16 xs long each = be_bytes_2 xs (low_bits 16 (pos (from_be_bytes w16 xs))) long each (low_u16 (from_be_bytes w16 xs) (below_16 xs each))
bytes_of-number Int32 xs long each =
    be_bytes_4 xs (low_bits 32 (cast_signed w32 (from_be_bytes w32 xs))) long each (low_32 (from_be_bytes w32 xs) (below_32 xs each))
bytes_of-number UInt32 xs long each = be_bytes_4 xs (low_bits 32 (pos (from_be_bytes w32 xs))) long each (low_u32 (from_be_bytes w32 xs) (below_32 xs each))

stored_bytes : (kind : SampleType) (bytes : List ℕ) (p : ℕ) → ((i : ℕ) → get_or bytes i 0 < 256) → p * width kind + width kind ≤ length bytes
    → bytes_of kind (stored kind bytes p) ≡ take (width kind) (drop (p * width kind) bytes)
stored_bytes kind bytes p fit within =
    let all = length-drop (p * width kind) bytes in
    bytes_of-number kind (take (width kind) (drop (p * width kind) bytes)) (length-take-le (width kind) (drop (p * width kind) bytes) (omega (arith, all)))
    (λ i. get_or_take_small (width kind) i (drop (p * width kind) bytes) (λ k. rw (get_or-drop (p * width kind) bytes k 0) (fit (p * width kind + k))))

-- the bytes of so many samples
samples_bytes : (kind : SampleType) (bytes : List ℕ) (q k n : ℕ) → ((i : ℕ) → get_or bytes i 0 < 256) → (q + k + n) * width kind ≤ length bytes
    → flat_map (λ out. bytes_of kind (stored kind bytes (q + out))) (range_with_len k n) ≡ take (n * width kind) (drop ((q + k) * width kind) bytes)
samples_bytes kind bytes q k zero fit within = ap (λ m. take m (drop ((q + k) * width kind) bytes)) (sym (zero-mul (width kind)))
samples_bytes kind bytes q k (suc n) fit within =
    let w = width kind in
    let rest = flat_map (λ out. bytes_of kind (stored kind bytes (q + out))) (range_with_len (k + 1) n) in
    let next : suc (q + k) ≡ q + (k + 1) = omega arith in
    let step = suc-mul (q + k) w in
    let some : (q + k) * w + w ≤ length bytes =
    (let e : suc (q + k) ≤ q + k + suc n = omega arith in let m = mul-le-mul_right w e in omega (arith, m, step, within)) in
    let far : (q + (k + 1) + n) * w ≤ length bytes = (let e : q + (k + 1) + n ≡ q + k + suc n = omega arith in rw e within) in
    ap (λ b. b ++ rest) (stored_bytes kind bytes (q + k) fit some)
    ∙ ap (λ b. take w (drop ((q + k) * w) bytes) ++ b) (samples_bytes kind bytes q (k + 1) n fit far
    ∙ ap (λ m. take (n * w) (drop m bytes)) (ap (λ m. m * w) (sym next) ∙ step) ∙ ap (take (n * w)) (sym (drop-drop w ((q + k) * w) bytes)))
    ∙ sym (take-add w (n * w) (drop ((q + k) * w) bytes))
    ∙ ap (λ m. take m (drop ((q + k) * w) bytes)) (let s = suc-mul n w in let e : w + n * w ≡ suc n * w = omega (arith, s) in e)

forward : (c : Cut) (out : ℕ) → c.bin ≡ 1 → c.reverse ≡ false → covers_from c out ≡ c.min + out
forward c out bin ahead =
    ap (λ r. c.min + (if r then c.size - 1 - out else out) * c.bin) ahead ∙ ap (λ b. c.min + out * b) bin
    ∙ (let e : c.min + out * 1 ≡ c.min + out = omega arith in e)

total_single : (kind : SampleType) (bytes : List ℕ) (line : Cut) (slower : List Axis) (base out : ℕ) → line.bin ≡ 1 → line.reverse ≡ false
    → bins_of slower ≡ 1 → line_total kind bytes line slower base out ≡ stored kind bytes (base + line.min + out)
total_single kind bytes line slower base out bin ahead single =
    let p = base + covers_from line out in
    lines_single slower (run kind bytes line.bin) p single
    ∙ ap (λ b. run kind bytes b p) bin
    ∙ +ℤ_idl (stored kind bytes (p + 0))
    ∙ ap (stored kind bytes) (let f = forward line out bin ahead in let e : p + 0 ≡ base + line.min + out = omega (arith, f) in e)

-- a line of a region whose samples are those that they cover
pub copied_line : (kind out_kind : SampleType) (bytes : List ℕ) (line : Cut) (slower : List Axis) (scale base n : ℕ) → ((i : ℕ) → get_or bytes i 0 < 256)
    → line.bin ≡ 1 → line.reverse ≡ false → bins_of slower ≡ 1 → scale ≡ 1 → out_kind ≡ kind
    → (base + line.min + n) * width kind ≤ length bytes
    → line_bytes kind bytes line slower scale out_kind base 0 n ≡ take (n * width kind) (drop ((base + line.min) * width kind) bytes)
copied_line kind out_kind bytes line slower scale base n fit bin ahead single one same within =
    let q = base + line.min in
    let e : q + 0 ≡ q = omega arith in
    ap (λ s. line_bytes kind bytes line slower s out_kind base 0 n) one
    ∙ ap (λ k. line_bytes kind bytes line slower 1 k base 0 n) same
    ∙ flat_map-cong (λ out. bytes_of kind (int_div (line_total kind bytes line slower base out) (pos 1))) (λ out. bytes_of kind (stored kind bytes (q + out)))
    (range_with_len 0 n) (λ out. ap (bytes_of kind) (int_div-one (line_total kind bytes line slower base out)
    ∙ total_single kind bytes line slower base out bin ahead single))
    ∙ samples_bytes kind bytes q 0 n fit (rw e within)
    ∙ ap (λ m. take (n * width kind) (drop (m * width kind) bytes)) e
