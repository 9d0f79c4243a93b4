use Rattle.std.proofs.Common.{◌≡◌, ◌+◌, ◌-◌, ◌*◌, ◌%◌, ◌<◌, ◌≤◌, ℕ, ℤ, zero, suc, List, [], ◌∷◌, length, get_or, map, drop, pos, negsuc, ◌+ℤ◌, to_z, of_z, w32, w64, FitsSigned, Fits, replicate, inl, inr, refl, ap, sym, subst, ◌∙◌, arith}
use Rattle.std.specs.Int.{w8}
use Rattle.std.specs.List.{range_with_len}
use Rattle.std.specs.Prelude.{unsigned_abs}
use Rattle.std.specs.Simd.Lanes.{Each1, zip2}
use Rattle.std.proofs.Math.Facts.{to_z-neg}
use Rattle.std.proofs.lemmas.Bool.{cases_lt}
use Rattle.std.proofs.lemmas.Int.{to_z_pos, ints}
use Rattle.std.proofs.lemmas.List.{get_or-map, length-map, ext_get_or}
use Rattle.std.proofs.lemmas.List.FromFn.{get_or-map-range_with_len}
use Rattle.std.proofs.lemmas.Simd.{Each1-from_get_or, map-map}
use Rattle.nd_base.specs.declared.array.SampleType.{SampleType}
use Rattle.nd_base.specs.declared.array.SampleType.TheVariants.{Int8, UInt8, Int16, UInt16, Int32, UInt32}
use Rattle.nd_base.specs.Samples.{width, numbers}
use Rattle.nd_base.specs.SampleLaws.{length-numbers}
use Rattle.lane_kernels.specs.Lanes.{offset}
use Rattle.lane_kernels.specs.Plain.{stored, run}
use Rattle.lane_kernels.proofs.BytePairs.{pair}
use Rattle.lane_kernels.proofs.Narrow.{byte_stored}
use Rattle.lane_kernels.proofs.Slices.{get_or-numbers, stored_behind}
use Rattle.lane_kernels.proofs.binned.byte_pair_sums.Goals as goal
use Rattle.lane_kernels.proofs.binned.byte_pair_sums.Goals.{in-Int8, in-UInt8}

-- sixteen lanes that lack o of the samples from a place on
module _ (kind : SampleType) (line row : List ℕ) (place : ℕ) (o : ℤ) (one : width kind ≡ 1) (fit : (i : ℕ) → Fits w8 (get_or line i 0))
    (near : unsigned_abs o ≤ 128) (e : map (λ b. pos b +ℤ o) row ≡ numbers kind 16 (drop place line)) where
  lane : (j : ℕ) → j < 16 → pos (get_or row j 0) +ℤ o ≡ stored kind line (place + j)
  lane j h =
      let long : length row ≡ 16 = sym (length-map row (λ b. pos b +ℤ o)) ∙ ap length e ∙ length-numbers kind 16 (drop place line) in
      let there : place ≡ place * width kind = (let alone : place ≡ place * 1 = omega arith in alone) ∙ ap (λ w. place * w) (sym one) in
      sym (get_or-map (λ b. pos b +ℤ o) row j 0 (pos 0) (omega (arith, long, h)))
      ∙ ap (λ l. get_or l j (pos 0)) e ∙ get_or-numbers kind 16 j (drop place line) h
      ∙ ap (λ at. stored kind (drop at line) j) there ∙ stored_behind kind place j line

  sum : (k : ℕ) → k < 8 → (pair row k < 1024) × (pos (pair row k) +ℤ (o +ℤ o) ≡ run kind line 2 (place + k * 2))
  sum k h =
      let first = lane (k * 2) (omega (arith, h)) in
      let second = lane (k * 2 + 1) (omega (arith, h)) in
      let small = byte_stored kind line (place + k * 2) fit one in
      let small2 = byte_stored kind line (place + (k * 2 + 1)) fit one in
      let at : place + k * 2 + 0 ≡ place + k * 2 = omega arith in
      let next : place + k * 2 + 1 ≡ place + (k * 2 + 1) = omega arith in
      let a = ap (stored kind line) at in
      let b = ap (stored kind line) next in
      (omega (arith, ints, first, second, small, small2, near), omega (arith, ints, first, second, a, b))

few : (kind : SampleType) → width kind ≡ 1 → unsigned_abs (offset kind) ≤ 128
few Int8 one = omega arith
few UInt8 one = omega arith
few Int16 one = omega arith
few UInt16 one = absurd (omega (arith, one))
few Int32 one = omega arith
few UInt32 one = absurd (omega (arith, one))

-- the sums of two lanes each
sums_of : List ℕ → List ℕ
sums_of row = map (pair row) (range_with_len 0 8)

module _ (kind : SampleType) (line row : List ℕ) (place : ℕ) (one : width kind ≡ 1) (fit : (i : ℕ) → Fits w8 (get_or line i 0))
    (e : map (λ b. pos b +ℤ offset kind) row ≡ numbers kind 16 (drop place line)) where
  each_small : Each1 (λ s. s < 1024) (sums_of row)
  unfolding sums_of
  each_small = Each1-from_get_or (λ s. s < 1024) (sums_of row) 0 (λ k h.
      subst (λ s. s < 1024) (sym (get_or-map-range_with_len (pair row) 0 8 k k 0 h (omega arith))) (sum kind line row place (offset kind) one fit (few kind one) e k h).0)

  all_sums : map (λ s. pos s +ℤ (offset kind +ℤ offset kind)) (sums_of row) ≡ map (λ k. run kind line 2 (place + k * 2)) (range_with_len 0 8)
  unfolding sums_of
  all_sums =
      let f : ℕ → ℤ = λ k. pos (pair row k) +ℤ (offset kind +ℤ offset kind) in
      let g : ℕ → ℤ = λ k. run kind line 2 (place + k * 2) in
      map-map (λ s. pos s +ℤ (offset kind +ℤ offset kind)) (pair row) (range_with_len 0 8)
      ∙ ext_get_or (pos 0) (map f (range_with_len 0 8)) (map g (range_with_len 0 8)) refl (λ k h.
      get_or-map-range_with_len f 0 8 k k (pos 0) h (omega arith) ∙ (sum kind line row place (offset kind) one fit (few kind one) e k h).1
      ∙ sym (get_or-map-range_with_len g 0 8 k k (pos 0) h (omega arith)))

wide : (s : ℕ) → s < 1024 → to_z w64 s ≡ pos s
wide s h = to_z_pos w64 s (omega (arith, h))

small_fit : (ss : List ℕ) → Each1 (λ s. s < 1024) ss → Each1 (λ b. FitsSigned w32 (to_z w64 b)) (map (of_z w64) (map (λ s. pos s) ss))
small_fit [] h = tt
small_fit (s ∷ ss) h = (subst (FitsSigned w32) (sym (wide s h.0)) (let low = h.0 in omega (arith, ints, low)), small_fit ss h.1)

as_they_are : (ss : List ℕ) → Each1 (λ s. s < 1024) ss
    → map (to_z w32) (map (λ b. of_z w32 (to_z w64 b)) (map (of_z w64) (map (λ s. pos s) ss))) ≡ map (λ s. pos s +ℤ (pos 0 +ℤ pos 0)) ss
as_they_are [] h = refl
as_they_are (s ∷ ss) h =
    let first = ap (λ z. to_z w32 (of_z w32 z)) (wide s h.0) ∙ to_z_pos w32 s (let low = h.0 in omega (arith, low)) ∙ (let none : pos s ≡ pos s +ℤ (pos 0 +ℤ pos 0) = omega (arith, ints) in none) in
    let rest = as_they_are ss h.1 in
    λ i. first i ∷ rest i

turned_back : (s : ℕ) → s < 1024 → to_z w32 ((s + (4294967296 - 256)) % 4294967296) ≡ pos s +ℤ (negsuc 127 +ℤ negsuc 127)
turned_back s h = elim (cases_lt s 256) [
  | inl l ↦
      let m = 255 - s in
      let e : (s + (4294967296 - 256)) % 4294967296 ≡ 4294967296 - suc m = omega (arith, l) in
      ap (to_z w32) e ∙ to_z-neg w32 m (omega (arith, l)) ∙ omega (arith, ints, l)
  | inr g ↦
      let e : (s + (4294967296 - 256)) % 4294967296 ≡ s - 256 = omega (arith, g, h) in
      ap (to_z w32) e ∙ to_z_pos w32 (s - 256) (omega (arith, g, h)) ∙ omega (arith, ints, g)
]

less : (n : ℕ) (ss : List ℕ) → length ss ≡ n → Each1 (λ s. s < 1024) ss
    → map (to_z w32) (zip2 (λ a b. (a + (4294967296 - b)) % 4294967296) (map (λ b. of_z w32 (to_z w64 b)) (map (of_z w64) (map (λ s. pos s) ss))) (replicate n 256))
    ≡ map (λ s. pos s +ℤ (negsuc 127 +ℤ negsuc 127)) ss
less zero [] long h = refl
less (suc n) [] long h = absurd (omega (arith, long))
less zero (s ∷ ss) long h = absurd (omega (arith, long))
less (suc n) (s ∷ ss) long h =
    let first = ap (λ z. to_z w32 ((of_z w32 z + (4294967296 - 256)) % 4294967296)) (wide s h.0) ∙ turned_back s h.0 in
    let rest = less n ss (omega (arith, long)) h.1 in
    λ i. first i ∷ rest i

pub overflow_cast-sums : goal.overflow_cast-sums
unfolding sums_of
overflow_cast-sums c =
    subst (λ l. Each1 (λ b. FitsSigned w32 (to_z w64 b)) (map (of_z w64) l)) (sym c.pair_sums-sums.ensures)
    (small_fit (sums_of c.byte_lanes.result) (each_small c.args.kind c.args.line.now c.byte_lanes.result c.args.place c.requires.byte c.type_inv.line c.byte_lanes.ensures))

pub returns : goal.returns
unfolding sums_of
returns c =
    let kind = c.args.kind in
    let line = c.args.line.now in
    let row = c.byte_lanes.result in
    let small = each_small kind line row c.args.place c.requires.byte c.type_inv.line c.byte_lanes.ensures in
    let all = all_sums kind line row c.args.place c.requires.byte c.type_inv.line c.byte_lanes.ensures in
    elim c.match-kind.branch [
      | in-Int8 w ↦
          ap (map (to_z w32)) (w.result-is ∙ ap (λ l. zip2 (λ a b. (a + (4294967296 - b)) % 4294967296) (map (λ b. of_z w32 (to_z w64 b)) (map (of_z w64) l)) (replicate 8 256)) c.pair_sums-sums.ensures)
          ∙ less 8 (sums_of row) refl small ∙ ap (λ k. map (λ s. pos s +ℤ (offset k +ℤ offset k)) (sums_of row)) (sym w.in-Int8.is) ∙ all
      | in-UInt8 w ↦
          ap (map (to_z w32)) (w.result-is ∙ ap (λ l. map (λ b. of_z w32 (to_z w64 b)) (map (of_z w64) l)) c.pair_sums-sums.ensures)
          ∙ as_they_are (sums_of row) small ∙ ap (λ k. map (λ s. pos s +ℤ (offset k +ℤ offset k)) (sums_of row)) (sym w.in-UInt8.is) ∙ all
    ]
