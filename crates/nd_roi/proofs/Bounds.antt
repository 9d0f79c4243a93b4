-- Sums of so few samples fit 64 bits.
use Rattle.std.proofs.Common.{◌≡◌, ℕ, zero, suc, ◌+◌, ◌*◌, ◌^◌, ◌<◌, ◌≤◌, ℤ, pos, negsuc, ◌≤ℤ◌, List, [], ◌∷◌, take, drop, get_or, length, inl, inr}
use Rattle.std.proofs.Common.{FitsSigned, sym, arith}
use Rattle.std.proofs.Math.IntN.{neg_ℤ}
use Rattle.std.proofs.Math.Nat.{suc-mul, mul_assoc, one-mul}
use Rattle.std.specs.Int.{w8, w16, w32, w64, from_be_bytes, cast_signed}
use Rattle.std.proofs.lemmas.Int.{ints, fits_signed_from_abs}
use Rattle.std.proofs.lemmas.List.{get_or-take, get_or-drop, get_or_past, length-take}
use Rattle.std.proofs.lemmas.Bool.{cases_lt}
use Rattle.nd_base.specs.declared.array.SampleType.{SampleType}
use Rattle.nd_base.specs.declared.array.SampleType.TheVariants.{Int8, UInt8, Int16, UInt16, Int32, UInt32}
use Rattle.nd_base.specs.Shapes.{most_samples}
use Rattle.nd_roi.specs.declared.walk.Axis.{Axis}
use Rattle.nd_roi.specs.Walk.{stored, run, sum_below, lines_total, bins_of}

-- from -b to b
pub record Bounded (b : ℕ) (v : ℤ) : Type 0 where
  pub low : neg_ℤ (pos b) ≤ℤ v
  pub high : v ≤ℤ pos b

pub Bounded-sum_below : (n b : ℕ) (value : ℕ → ℤ) → ((j : ℕ) → Bounded b (value j)) → Bounded (n * b) (sum_below n value)
Bounded-sum_below zero b value each = record { low = omega (arith, ints); high = omega (arith, ints) }
Bounded-sum_below (suc n) b value each =
    let before = Bounded-sum_below n b value each in
    let here = each n in
    let e = suc-mul n b in
    record { low = omega (arith, ints, before, here, e); high = omega (arith, ints, before, here, e) }

pub Bounded-lines_total : (axes : List Axis) (b : ℕ) (value : ℕ → ℤ) (base : ℕ) → ((p : ℕ) → Bounded b (value p))
    → Bounded (bins_of axes * b) (lines_total axes value base)
Bounded-lines_total [] b value base each = rw (one-mul b) (each base)
Bounded-lines_total (a ∷ axes) b value base each =
    rw (mul_assoc a.cut.bin (bins_of axes) b)
    (Bounded-sum_below a.cut.bin (bins_of axes * b) (λ j. lines_total axes value (base + j * a.stride))
    (λ j. Bounded-lines_total axes b value (base + j * a.stride) each))

-- 2 ^ 58 is far below the end
fits_from_bound : (b : ℕ) (v : ℤ) → b ≤ 2 ^ 58 → Bounded b v → FitsSigned w64 v
fits_from_bound b (pos n) h bound = let g = bound.high in fits_signed_from_abs w64 (pos n) (omega (arith, ints))
fits_from_bound b (negsuc n) h bound = let g = bound.low in fits_signed_from_abs w64 (negsuc n) (omega (arith, ints))

pub get_or_take_small : (w i : ℕ) (xs : List ℕ) → ((i : ℕ) → get_or xs i 0 < 256) → get_or (take w xs) i 0 < 256
get_or_take_small w i xs fit = elim (cases_lt i w) [
  | inl h ↦ rw get_or-take (fit i)
  | inr h ↦ let short : length (take w xs) ≤ i = simp length-take (omega arith) in rw (get_or_past (take w xs) i 0 short) (omega arith)
]

module _ (bytes : List ℕ) (fit : (i : ℕ) → get_or bytes i 0 < 256) where
  -- a number of few bytes
  Bounded-unsigned_32 : (xs : List ℕ) → ((i : ℕ) → get_or xs i 0 < 256) → Bounded (2 ^ 32) (pos (from_be_bytes w32 xs))
  Bounded-unsigned_32 xs each =
      let a = each 0 in let b = each 1 in let c = each 2 in let d = each 3 in
      record { low = omega (arith, ints); high = omega (arith, ints, a, b, c, d) }

  Bounded-unsigned_16 : (xs : List ℕ) → ((i : ℕ) → get_or xs i 0 < 256) → Bounded (2 ^ 32) (pos (from_be_bytes w16 xs))
  Bounded-unsigned_16 xs each =
      let a = each 0 in let b = each 1 in
      record { low = omega (arith, ints); high = omega (arith, ints, a, b) }

  Bounded-unsigned_8 : (xs : List ℕ) → ((i : ℕ) → get_or xs i 0 < 256) → Bounded (2 ^ 32) (pos (from_be_bytes w8 xs))
  Bounded-unsigned_8 xs each =
      let a = each 0 in
      record { low = omega (arith, ints); high = omega (arith, ints, a) }

  Bounded-signed_8 : (n : ℕ) → Bounded (2 ^ 32) (cast_signed w8 n)
  Bounded-signed_8 n = record { low = omega (arith, ints); high = omega (arith, ints) }

  Bounded-signed_16 : (n : ℕ) → Bounded (2 ^ 32) (cast_signed w16 n)
  Bounded-signed_16 n = record { low = omega (arith, ints); high = omega (arith, ints) }

  Bounded-signed_32 : (n : ℕ) → Bounded (2 ^ 32) (cast_signed w32 n)
  Bounded-signed_32 n = record { low = omega (arith, ints); high = omega (arith, ints) }

  part : (w at : ℕ) (i : ℕ) → get_or (take w (drop at bytes)) i 0 < 256
  part w at i = get_or_take_small w i (drop at bytes) (λ k. rw get_or-drop (fit (at + k)))

  pub Bounded-stored : (kind : SampleType) (p : ℕ) → Bounded (2 ^ 32) (stored kind bytes p)
  Bounded-stored Int8 p = Bounded-signed_8 (from_be_bytes w8 (take 1 (drop (p * 1) bytes)))
  Bounded-stored UInt8 p = Bounded-unsigned_8 (take 1 (drop (p * 1) bytes)) (part 1 (p * 1))
  Bounded-stored Int16 p = Bounded-signed_16 (from_be_bytes w16 (take 2 (drop (p * 2) bytes)))
  Bounded-stored UInt16 p = Bounded-unsigned_16 (take 2 (drop (p * 2) bytes)) (part 2 (p * 2))
  Bounded-stored Int32 p = Bounded-signed_32 (from_be_bytes w32 (take 4 (drop (p * 4) bytes)))
  Bounded-stored UInt32 p = Bounded-unsigned_32 (take 4 (drop (p * 4) bytes)) (part 4 (p * 4))

  -- the sum of at most 67,108,864 samples
  pub total_fits : (kind : SampleType) (bin : ℕ) (axes : List Axis) (base : ℕ) → bins_of axes * bin ≤ most_samples
      → FitsSigned w64 (lines_total axes (run kind bytes bin) base)
  total_fits kind bin axes base few =
      let b = Bounded-lines_total axes (bin * 2 ^ 32) (run kind bytes bin) base
      (λ p. Bounded-sum_below bin (2 ^ 32) (λ j. stored kind bytes (p + j)) (λ j. Bounded-stored kind (p + j))) in
      let e : bins_of axes * (bin * 2 ^ 32) ≡ bins_of axes * bin * 2 ^ 32 = sym (mul_assoc (bins_of axes) bin (2 ^ 32)) in
      fits_from_bound (bins_of axes * (bin * 2 ^ 32)) (lines_total axes (run kind bytes bin) base) (omega (arith, e)) b
