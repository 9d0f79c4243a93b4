-- Rows of samples in the lanes of a vector.
use Rattle.std.proofs.Common.{◌≡◌, ℕ, zero, suc, ◌+◌, ◌-◌, ◌*◌, ◌%◌, ◌^◌, ◌<◌, ◌≤◌, ◌≢◌, ◌*ℤ◌, List, [], ◌∷◌, ◌++◌, length, get_or, map, take, drop, replicate, Fits, FitsSigned, w8, w32, w64, to_z, of_z, ℤ, pos, negsuc, refl, ap, sym, subst, ◌∙◌, arith, inl, inr, mul-le-mul, ◌+ℤ◌, ◌-ℤ◌}
use Rattle.std.specs.Prelude.{unsigned_abs}
use Rattle.std.specs.Int.{Width, w16, from_be_bytes, int_wrap}
use Rattle.std.specs.List.{range_with_len}
use Rattle.std.specs.Simd.Lanes.{Each1, zip2, pick_l, number_l, digits_l}
use Rattle.std.proofs.Math.Facts.{to_z-neg}
use Rattle.std.proofs.lemmas.Bool.{cases_lt}
use Rattle.std.proofs.lemmas.Int.{to_z_pos, to_z-of_z, ints, fits_signed_from_abs, wrapping_mul_is, int_wrap_fits}
use Rattle.std.proofs.lemmas.List.{length-take-le}
use Rattle.std.proofs.lemmas.List.Elements.{All-take, All-drop, All-from_get_or}
use Rattle.std.proofs.lemmas.Simd.{get_or_wider, pick_l_left, pick_l_whole}
use Rattle.nd_base.specs.declared.array.SampleType.{SampleType}
use Rattle.nd_base.specs.declared.array.SampleType.TheVariants.{Int8, UInt8, Int16, UInt16, Int32, UInt32}
use Rattle.nd_base.specs.Samples.{width, number, numbers}
use Rattle.nd_base.specs.SampleLaws.{AreBytes, byte_within, IsSample, number-IsSample, sample-IsSmall, below_16, below_32, signed_16, signed_32}
use Rattle.lane_kernels.specs.Plain.{square}
use Rattle.lane_kernels.proofs.Narrow.{narrow}
use Rattle.lane_kernels.proofs.Slices.{numbers-take}

-- what holds of each sample holds of each lane
pub each_number : (P : ℤ → Type 0) (kind : SampleType) → ((bytes : List ℕ) → AreBytes bytes → P (number kind bytes)) → (n : ℕ) (bytes : List ℕ) → AreBytes bytes
    → Each1 P (numbers kind n bytes)
each_number P kind h zero bytes small = tt
each_number P kind h (suc n) bytes small = (
  h (take (width kind) bytes) (All-take (λ b. b < 256) (width kind) bytes small),
  each_number P kind h n (drop (width kind) bytes) (All-drop (λ b. b < 256) (width kind) bytes small),
)

-- the bytes from an index on
pub bytes_behind : (at : ℕ) (bytes : List ℕ) → ((i : ℕ) → Fits w8 (get_or bytes i 0)) → AreBytes (drop at bytes)
bytes_behind at bytes fit = All-drop (λ b. b < 256) at bytes (All-from_get_or (λ b. b < 256) bytes 0 (λ i _. (fit i).fits))

pub narrow_fits : (kind : SampleType) → width kind ≤ 2 → (n : ℕ) (bytes : List ℕ) → AreBytes bytes → Each1 (FitsSigned w32) (numbers kind n bytes)
narrow_fits kind few = each_number (FitsSigned w32) kind (λ bytes small.
    fits_signed_from_abs w32 (number kind bytes) (let a = narrow kind (number kind bytes) (number-IsSample kind bytes small) few in omega (arith, a)))

pub wide_fits : (kind : SampleType) (n : ℕ) (bytes : List ℕ) → AreBytes bytes → Each1 (FitsSigned w64) (numbers kind n bytes)
wide_fits kind = each_number (FitsSigned w64) kind (λ bytes small.
    fits_signed_from_abs w64 (number kind bytes) (let a = sample-IsSmall kind (number kind bytes) (number-IsSample kind bytes small) in omega (arith, a)))

-- lanes read back
pub kept : (w : Width) (lanes : List ℤ) → Each1 (FitsSigned w) lanes → map (to_z w) (map (of_z w) lanes) ≡ lanes
kept w [] h = refl
kept w (z ∷ lanes) h = let first = to_z-of_z w z h.0 in let rest = kept w lanes h.1 in λ i. first i ∷ rest i

-- bytes as they are
pub bytes_row : (h : ℕ → ℕ) → ((b : ℕ) → b < 256 → to_z w32 (h b) ≡ pos b) → (n : ℕ) (bytes : List ℕ) → n ≤ length bytes → AreBytes bytes
    → map (to_z w32) (map h (take n bytes)) ≡ numbers UInt8 n bytes
bytes_row h lane zero bytes enough small = refl
bytes_row h lane (suc n) [] enough small = absurd (omega arith)
bytes_row h lane (suc n) (b ∷ bytes) enough small =
    let first = lane b (byte_within (b ∷ bytes) small 0) in
    let rest = bytes_row h lane n bytes (omega arith) (All-drop (λ b. b < 256) 1 (b ∷ bytes) small) in
    λ i. first i ∷ rest i

pub unsigned_lane : (b : ℕ) → b < 256 → to_z w32 b ≡ pos b
unsigned_lane b h = to_z_pos w32 b (omega (arith, h))

-- bytes with a sign, of bytes turned by half a turn
pub signed_bytes_row : (f g : ℕ → ℕ → ℕ) (h : ℕ → ℕ) → ((b : ℕ) → b < 256 → to_z w32 (f (h (g b 128)) 128) ≡ to_z w8 b)
    → (n : ℕ) (bytes : List ℕ) → n ≤ length bytes → AreBytes bytes
    → map (to_z w32) (zip2 f (map h (zip2 g (take n bytes) (replicate n 128))) (replicate n 128)) ≡ numbers Int8 n bytes
signed_bytes_row f g h lane zero bytes enough small = refl
signed_bytes_row f g h lane (suc n) [] enough small = absurd (omega arith)
signed_bytes_row f g h lane (suc n) (b ∷ bytes) enough small =
    let first = lane b (byte_within (b ∷ bytes) small 0) in
    let rest = signed_bytes_row f g h lane n bytes (omega arith) (All-drop (λ b. b < 256) 1 (b ∷ bytes) small) in
    λ i. first i ∷ rest i

pub signed_lane : (b : ℕ) → b < 256 → to_z w32 (((b + 128) % 256 + (4294967296 - 128)) % 4294967296) ≡ to_z w8 b
signed_lane b h = elim (cases_lt b 128) [
  | inl l ↦
      let e : ((b + 128) % 256 + (4294967296 - 128)) % 4294967296 ≡ b = omega (arith, l) in
      ap (to_z w32) e ∙ to_z_pos w32 b (omega (arith, l)) ∙ sym (to_z_pos w8 b l)
  | inr g ↦
      let m = 255 - b in
      let e : ((b + 128) % 256 + (4294967296 - 128)) % 4294967296 ≡ 4294967296 - suc m = omega (arith, g, h) in
      let f : b ≡ 256 - suc m = omega (arith, g, h) in
      ap (to_z w32) e ∙ to_z-neg w32 m (omega arith) ∙ sym (ap (to_z w8) f ∙ to_z-neg w8 m (omega (arith, g)))
]

-- what is picked out of bytes
picked_below : (row ks : List ℕ) → AreBytes row → Each1 (λ b. b < 256) (pick_l 0 row ks)
picked_below row [] small = tt
picked_below row (k ∷ ks) small = (byte_within row small k, picked_below row ks small)

two_bytes : (a b : ℕ) → number_l 256 (b ∷ a ∷ []) ≡ from_be_bytes w16 (a ∷ b ∷ [])
two_bytes a b = omega arith

four_bytes : (a b c d : ℕ) → number_l 256 (d ∷ c ∷ b ∷ a ∷ []) ≡ from_be_bytes w32 (a ∷ b ∷ c ∷ d ∷ [])
four_bytes a b c d = omega arith

-- sixteen bytes, each two of them the other way round
pub pairs_row : (bytes : List ℕ) → 16 ≤ length bytes → AreBytes bytes
    → digits_l 65536 8 (number_l 256 (pick_l 0 (take 16 bytes ++ take 16 bytes) (1 ∷ 0 ∷ 3 ∷ 2 ∷ 5 ∷ 4 ∷ 7 ∷ 6 ∷ 9 ∷ 8 ∷ 11 ∷ 10 ∷ 13 ∷ 12 ∷ 15 ∷ 14 ∷ [])))
    ≡ map unsigned_abs (numbers UInt16 8 bytes)
pairs_row bytes enough small =
    let row = take 16 bytes in
    let ks : List ℕ = 1 ∷ 0 ∷ 3 ∷ 2 ∷ 5 ∷ 4 ∷ 7 ∷ 6 ∷ 9 ∷ 8 ∷ 11 ∷ 10 ∷ 13 ∷ 12 ∷ 15 ∷ 14 ∷ [] in
    let long : length row ≡ 16 = length-take-le 16 bytes enough in
    let b : ℕ → ℕ = λ k. get_or row k 0 in
    let xs = pick_l 0 row ks in
    let few = picked_below row ks (All-take (λ b. b < 256) 16 bytes small) in
    let at : (j : ℕ) → j < 8 → get_or (digits_l 65536 8 (number_l 256 xs)) j 0 ≡ number_l 256 (take 2 (drop (2 * j) xs)) =
    λ j h. get_or_wider 256 2 65536 8 xs j refl few h in
    let p0 = at 0 (omega arith) ∙ two_bytes (b 0) (b 1) in
    let p1 = at 1 (omega arith) ∙ two_bytes (b 2) (b 3) in
    let p2 = at 2 (omega arith) ∙ two_bytes (b 4) (b 5) in
    let p3 = at 3 (omega arith) ∙ two_bytes (b 6) (b 7) in
    let p4 = at 4 (omega arith) ∙ two_bytes (b 8) (b 9) in
    let p5 = at 5 (omega arith) ∙ two_bytes (b 10) (b 11) in
    let p6 = at 6 (omega arith) ∙ two_bytes (b 12) (b 13) in
    let p7 = at 7 (omega arith) ∙ two_bytes (b 14) (b 15) in
    let lanes : digits_l 65536 8 (number_l 256 xs) ≡ map unsigned_abs (numbers UInt16 8 (pick_l 0 row (range_with_len 0 16))) =
    λ i. p0 i ∷ p1 i ∷ p2 i ∷ p3 i ∷ p4 i ∷ p5 i ∷ p6 i ∷ p7 i ∷ [] in
    ap (λ l. digits_l 65536 8 (number_l 256 l)) (pick_l_left 0 row row 16 ks long tt) ∙ lanes
    ∙ ap (λ l. map unsigned_abs (numbers UInt16 8 l)) (pick_l_whole 0 row 16 long) ∙ ap (map unsigned_abs) (numbers-take UInt16 8 bytes)

-- sixteen bytes, each four of them the other way round
pub words_row : (bytes : List ℕ) → 16 ≤ length bytes → AreBytes bytes
    → digits_l 4294967296 4 (number_l 256 (pick_l 0 (take 16 bytes ++ take 16 bytes) (3 ∷ 2 ∷ 1 ∷ 0 ∷ 7 ∷ 6 ∷ 5 ∷ 4 ∷ 11 ∷ 10 ∷ 9 ∷ 8 ∷ 15 ∷ 14 ∷ 13 ∷ 12 ∷ [])))
    ≡ map unsigned_abs (numbers UInt32 4 bytes)
words_row bytes enough small =
    let row = take 16 bytes in
    let ks : List ℕ = 3 ∷ 2 ∷ 1 ∷ 0 ∷ 7 ∷ 6 ∷ 5 ∷ 4 ∷ 11 ∷ 10 ∷ 9 ∷ 8 ∷ 15 ∷ 14 ∷ 13 ∷ 12 ∷ [] in
    let long : length row ≡ 16 = length-take-le 16 bytes enough in
    let b : ℕ → ℕ = λ k. get_or row k 0 in
    let xs = pick_l 0 row ks in
    let few = picked_below row ks (All-take (λ b. b < 256) 16 bytes small) in
    let at : (j : ℕ) → j < 4 → get_or (digits_l 4294967296 4 (number_l 256 xs)) j 0 ≡ number_l 256 (take 4 (drop (4 * j) xs)) =
    λ j h. get_or_wider 256 4 4294967296 4 xs j refl few h in
    let p0 = at 0 (omega arith) ∙ four_bytes (b 0) (b 1) (b 2) (b 3) in
    let p1 = at 1 (omega arith) ∙ four_bytes (b 4) (b 5) (b 6) (b 7) in
    let p2 = at 2 (omega arith) ∙ four_bytes (b 8) (b 9) (b 10) (b 11) in
    let p3 = at 3 (omega arith) ∙ four_bytes (b 12) (b 13) (b 14) (b 15) in
    let lanes : digits_l 4294967296 4 (number_l 256 xs) ≡ map unsigned_abs (numbers UInt32 4 (pick_l 0 row (range_with_len 0 16))) =
    λ i. p0 i ∷ p1 i ∷ p2 i ∷ p3 i ∷ [] in
    ap (λ l. digits_l 4294967296 4 (number_l 256 l)) (pick_l_left 0 row row 16 ks long tt) ∙ lanes
    ∙ ap (λ l. map unsigned_abs (numbers UInt32 4 l)) (pick_l_whole 0 row 16 long) ∙ ap (map unsigned_abs) (numbers-take UInt32 4 bytes)

-- lanes made wider
pub widened : (w v : Width) (f : ℕ → ℕ) (lanes : List ℤ) → Each1 (λ z. to_z v (f (of_z w z)) ≡ z) lanes → map (to_z v) (map f (map (of_z w) lanes)) ≡ lanes
widened w v f [] h = refl
widened w v f (z ∷ lanes) h = let rest = widened w v f lanes h.1 in λ i. h.0 i ∷ rest i

pub pair_lane : (z : ℤ) → FitsSigned w16 z → to_z w32 (of_z w32 (to_z w16 (of_z w16 z))) ≡ z
pair_lane z f = ap (λ x. to_z w32 (of_z w32 x)) (to_z-of_z w16 z f) ∙ to_z-of_z w32 z (omega (arith, ints, f))

-- samples of 16 bits in lanes of 32
pub pairs_wider : (f : ℕ → ℕ) → ((b : ℕ) → f b ≡ of_z w32 (to_z w16 b)) → (n : ℕ) (bytes : List ℕ) (lanes : List ℤ) → lanes ≡ numbers Int16 n bytes
    → AreBytes bytes → map (to_z w32) (map f (map (of_z w16) lanes)) ≡ numbers Int16 n bytes
pairs_wider f is n bytes lanes e small =
    let same : (z : ℤ) → FitsSigned w16 z → to_z w32 (f (of_z w16 z)) ≡ z = λ z h. ap (to_z w32) (is (of_z w16 z)) ∙ pair_lane z h in
    ap (λ l. map (to_z w32) (map f (map (of_z w16) l))) e
    ∙ widened w16 w32 f (numbers Int16 n bytes) (each_number (λ z. to_z w32 (f (of_z w16 z)) ≡ z) Int16
    (λ b s. same (number Int16 b) (signed_16 (from_be_bytes w16 b) (below_16 b s))) n bytes small)

pub words_lanes : (h : ℕ → ℕ) → ((b : ℕ) → b < 2 ^ 32 → to_z w64 (h b) ≡ pos b) → (n : ℕ) (bytes : List ℕ) → AreBytes bytes
    → map (to_z w64) (map h (map unsigned_abs (numbers UInt32 n bytes))) ≡ numbers UInt32 n bytes
words_lanes h lane zero bytes small = refl
words_lanes h lane (suc n) bytes small =
    let first = lane (from_be_bytes w32 (take 4 bytes)) (below_32 (take 4 bytes) (All-take (λ b. b < 256) 4 bytes small)) in
    let rest = words_lanes h lane n (drop 4 bytes) (All-drop (λ b. b < 256) 4 bytes small) in
    λ i. first i ∷ rest i

pub unsigned_word : (b : ℕ) → b < 2 ^ 32 → to_z w64 b ≡ pos b
unsigned_word b h = to_z_pos w64 b (omega (arith, h))

-- squares in lanes of 32 bits
pub squared : (f : ℕ → ℕ → ℕ) (lanes : List ℤ) → Each1 (λ v. to_z w32 (f (of_z w32 v) (of_z w32 v)) ≡ square v) lanes
    → map (to_z w32) (zip2 f (map (of_z w32) lanes) (map (of_z w32) lanes)) ≡ map square lanes
squared f [] h = refl
squared f (v ∷ lanes) h = let rest = squared f lanes h.1 in λ i. h.0 i ∷ rest i

times_itself : (v : ℤ) → v *ℤ v ≡ square v
times_itself (pos n) = omega (arith, ints)
times_itself (negsuc n) = omega (arith, ints)

square_fits : (n : ℕ) → n ≤ 32768 → FitsSigned w32 (pos (n * n))
square_fits n h = let m = mul-le-mul h h in omega (arith, ints, m)

pub square_lane : (v : ℤ) → unsigned_abs v ≤ 32768 → to_z w32 ((of_z w32 v * of_z w32 v) % 4294967296) ≡ square v
square_lane v h =
    let f : FitsSigned w32 v = fits_signed_from_abs w32 v (omega (arith, h)) in
    wrapping_mul_is w32 v v f f ∙ ap (int_wrap w32) (times_itself v) ∙ int_wrap_fits w32 (square v) (square_fits (unsigned_abs v) h)

short : (kind : SampleType) (v : ℤ) → IsSample kind v → width kind ≤ 2 → kind ≢ UInt16 → unsigned_abs v ≤ 32768
short Int8 v h few other = omega (arith, ints, h)
short UInt8 v h few other = omega (arith, ints, h)
short Int16 v h few other = omega (arith, ints, h)
short UInt16 v h few other = absurd (other refl)
short Int32 v h few other = absurd (omega arith)
short UInt32 v h few other = absurd (omega arith)

-- samples of 8 bits or of 16 with a sign
pub short_number : (kind : SampleType) → width kind ≤ 2 → kind ≢ UInt16 → (bytes : List ℕ) → AreBytes bytes → unsigned_abs (number kind bytes) ≤ 32768
short_number kind few other bytes small = short kind (number kind bytes) (number-IsSample kind bytes small) few other

pub squares_fit : (kind : SampleType) → width kind ≤ 2 → kind ≢ UInt16 → (n : ℕ) (bytes : List ℕ) → AreBytes bytes → Each1 (FitsSigned w32) (map square (numbers kind n bytes))
squares_fit kind few other zero bytes small = tt
squares_fit kind few other (suc n) bytes small = (
  square_fits (unsigned_abs (number kind (take (width kind) bytes))) (short_number kind few other (take (width kind) bytes) (All-take (λ b. b < 256) (width kind) bytes small)),
  squares_fit kind few other n (drop (width kind) bytes) (All-drop (λ b. b < 256) (width kind) bytes small),
)

-- lanes of 32 bits in 64
pub fits_wider : (z : ℤ) → FitsSigned w32 z → FitsSigned w64 z
fits_wider z f = omega (arith, ints, f)

pub bits_wider : (lanes : List ℤ) → Each1 (FitsSigned w32) lanes → map (λ b. of_z w64 (to_z w32 b)) (map (of_z w32) lanes) ≡ map (of_z w64) lanes
bits_wider [] f = refl
bits_wider (z ∷ lanes) f = let first = ap (of_z w64) (to_z-of_z w32 z f.0) in let rest = bits_wider lanes f.1 in λ i. first i ∷ rest i

pub bits_fit : (lanes : List ℤ) → Each1 (FitsSigned w32) lanes → Each1 (λ b. FitsSigned w64 (to_z w32 b)) (map (of_z w32) lanes)
bits_fit [] h = tt
bits_fit (z ∷ lanes) h = (subst (FitsSigned w64) (sym (to_z-of_z w32 z h.0)) (fits_wider z h.0), bits_fit lanes h.1)

-- rows in lanes that lack an offset of their samples
pub byte_row : (kind : SampleType) (up : ℕ → ℤ) → width kind ≡ 1 → ((b : ℕ) → b < 256 → up b ≡ number kind (b ∷ [])) → (n : ℕ) (bytes : List ℕ) → n ≤ length bytes
    → AreBytes bytes → map up (take n bytes) ≡ numbers kind n bytes
byte_row kind up one lane zero bytes enough small = refl
byte_row kind up one lane (suc n) [] enough small = absurd (omega arith)
byte_row kind up one lane (suc n) (b ∷ bytes) enough small =
    let first = lane b (byte_within (b ∷ bytes) small 0) ∙ ap (λ w. number kind (take w (b ∷ bytes))) (sym one) in
    let rest = byte_row kind up one lane n bytes (omega arith) (All-drop (λ b. b < 256) 1 (b ∷ bytes) small) ∙ ap (λ w. numbers kind n (drop w (b ∷ bytes))) (sym one) in
    λ i. first i ∷ rest i

pub turned_byte : (b : ℕ) → b < 256 → pos ((b + 128) % 256) +ℤ negsuc 127 ≡ to_z w8 b
turned_byte b h = elim (cases_lt b 128) [
  | inl l ↦
      let e : (b + 128) % 256 ≡ b + 128 = omega (arith, l) in
      ap (λ n. pos n +ℤ negsuc 127) e ∙ (let f : pos (b + 128) +ℤ negsuc 127 ≡ pos b = omega (arith, ints) in f) ∙ sym (to_z_pos w8 b l)
  | inr g ↦
      let m = 255 - b in
      let e : (b + 128) % 256 ≡ 127 - m = omega (arith, g, h) in
      let f : b ≡ 256 - suc m = omega (arith, g, h) in
      let few : m ≤ 127 = omega (arith, g) in
      ap (λ n. pos n +ℤ negsuc 127) e ∙ (let n : pos (127 - m) +ℤ negsuc 127 ≡ negsuc m = omega (arith, ints, few) in n) ∙ sym (ap (to_z w8) f ∙ to_z-neg w8 m (omega (arith, g)))
]

-- what lanes of 32 bits stand for
pub signed_word_row : (n : ℕ) (bytes : List ℕ) (row : List ℤ) → AreBytes bytes → row ≡ numbers Int32 n bytes
    → map (λ b. to_z w32 b +ℤ pos 0) (map (of_z w32) row) ≡ numbers Int32 n bytes
signed_word_row n bytes row small e =
    ap (λ r. map (λ b. to_z w32 b +ℤ pos 0) (map (of_z w32) r)) e
    ∙ lanes (numbers Int32 n bytes) (each_number (FitsSigned w32) Int32 (λ b s. signed_32 (from_be_bytes w32 b) (below_32 b s)) n bytes small)
  where
    lanes : (vs : List ℤ) → Each1 (FitsSigned w32) vs → map (λ b. to_z w32 b +ℤ pos 0) (map (of_z w32) vs) ≡ vs
    lanes [] h = refl
    lanes (v ∷ vs) h =
        let first : to_z w32 (of_z w32 v) +ℤ pos 0 ≡ v = ap (λ z. z +ℤ pos 0) (to_z-of_z w32 v h.0) ∙ omega (arith, ints) in
        let rest = lanes vs h.1 in
        λ i. first i ∷ rest i

pub word_row : (n : ℕ) (bytes row : List ℕ) → row ≡ map unsigned_abs (numbers UInt32 n bytes) → map (λ b. pos b +ℤ pos 0) row ≡ numbers UInt32 n bytes
word_row n bytes row e = ap (map (λ b. pos b +ℤ pos 0)) e ∙ lanes n bytes
  where
    lanes : (n : ℕ) (bytes : List ℕ) → map (λ b. pos b +ℤ pos 0) (map unsigned_abs (numbers UInt32 n bytes)) ≡ numbers UInt32 n bytes
    lanes zero bytes = refl
    lanes (suc n) bytes =
        let b = from_be_bytes w32 (take 4 bytes) in
        let first : pos b +ℤ pos 0 ≡ pos b = omega (arith, ints) in
        let rest = lanes n (drop 4 bytes) in
        λ i. first i ∷ rest i

-- lanes of 32 bits made less by 2^31 in 64
abbrev pub low : ℕ → ℕ
low b = (b + (18446744073709551616 - 2147483648)) % 18446744073709551616

pub low_word : (b : ℕ) → b < 2 ^ 32 → to_z w64 (low b) ≡ pos b -ℤ pos 2147483648
low_word b h = elim (cases_lt b 2147483648) [
  | inl l ↦
      let m = 2147483647 - b in
      let e : low b ≡ 18446744073709551616 - suc m = omega (arith, l) in
      ap (to_z w64) e ∙ to_z-neg w64 m (omega (arith, l)) ∙ omega (arith, ints, l)
  | inr g ↦
      let e : low b ≡ b - 2147483648 = omega (arith, g, h) in
      ap (to_z w64) e ∙ to_z_pos w64 (b - 2147483648) (omega (arith, g, h)) ∙ omega (arith, ints, g)
]

low_fits : (b : ℕ) → b < 2 ^ 32 → FitsSigned w32 (pos b -ℤ pos 2147483648)
low_fits b h = omega (arith, ints, h)

pub lowered_fit : (bs : List ℕ) → Each1 (Fits w32) bs → Each1 (λ b. FitsSigned w32 (to_z w64 b)) (map low bs)
lowered_fit [] h = tt
lowered_fit (b ∷ bs) h = (subst (FitsSigned w32) (sym (low_word b h.0.fits)) (low_fits b h.0.fits), lowered_fit bs h.1)

pub lowered_lanes : (bs : List ℕ) → Each1 (Fits w32) bs → map (to_z w32) (map (λ b. of_z w32 (to_z w64 b)) (map low bs)) ≡ map (λ b. pos b -ℤ pos 2147483648) bs
lowered_lanes [] h = refl
lowered_lanes (b ∷ bs) h =
    let first = ap (λ z. to_z w32 (of_z w32 z)) (low_word b h.0.fits) ∙ to_z-of_z w32 (pos b -ℤ pos 2147483648) (low_fits b h.0.fits) in
    let rest = lowered_lanes bs h.1 in
    λ i. first i ∷ rest i

pub raised_lanes : (bs : List ℕ) → Each1 (Fits w32) bs
    → map (λ x. x +ℤ pos 2147483648) (map (to_z w32) (map (of_z w32) (map (λ b. pos b -ℤ pos 2147483648) bs))) ≡ map (λ b. pos b +ℤ pos 0) bs
raised_lanes [] h = refl
raised_lanes (b ∷ bs) h =
    let back : pos b -ℤ pos 2147483648 +ℤ pos 2147483648 ≡ pos b +ℤ pos 0 = omega (arith, ints) in
    let first = ap (λ z. z +ℤ pos 2147483648) (to_z-of_z w32 (pos b -ℤ pos 2147483648) (low_fits b h.0.fits)) ∙ back in
    let rest = raised_lanes bs h.1 in
    λ i. first i ∷ rest i

-- bytes in lanes of 32 bits
pub bytes_wider : (o : ℤ) (bs : List ℕ) → Each1 (Fits w8) bs → map (λ x. x +ℤ o) (map (to_z w32) (map (λ b. b) bs)) ≡ map (λ b. pos b +ℤ o) bs
bytes_wider o [] h = refl
bytes_wider o (b ∷ bs) h =
    let first = ap (λ z. z +ℤ o) (unsigned_lane b h.0.fits) in
    let rest = bytes_wider o bs h.1 in
    λ i. first i ∷ rest i
