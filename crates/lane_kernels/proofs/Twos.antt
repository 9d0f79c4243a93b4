-- Two samples in one word or one pair.
use Rattle.std.proofs.Common.{◌≡◌, ◌≢◌, ℕ, ◌+◌, ◌-◌, ◌*◌, ◌/◌, ◌%◌, ◌≤◌, suc, inl, inr, ℤ, pos, negsuc, ◌+ℤ◌, List, [], ◌∷◌, length, get_or, take, drop, Fits, FitsSigned, w8}
use Rattle.std.proofs.Common.{to_z, of_z, ap, sym, subst, refl, ◌∙◌, arith}
use Rattle.std.specs.Int.{w16, w32, from_be_bytes, int_wrap}
use Rattle.std.specs.Int.Signed.{shr_z}
use Rattle.std.specs.Prelude.{unsigned_abs}
use Rattle.std.proofs.Math.Facts.{of_z-to_z, to_z-neg}
use Rattle.std.proofs.lemmas.Bool.{cases_lt}
use Rattle.std.proofs.lemmas.Int.{to_z_pos, wrapping_add_is, int_wrap-add_left, int_wrap_fits, SFits-int_wrap, ints}
use Rattle.std.proofs.lemmas.List.{drop-drop, length-drop}
use Rattle.nd_base.specs.declared.array.SampleType.{SampleType}
use Rattle.nd_base.specs.declared.array.SampleType.TheVariants.{UInt8, Int16, UInt16}
use Rattle.nd_base.specs.SampleLaws.{signed_16}
use Rattle.lane_kernels.specs.Plain.{stored, run, square_run}
use Rattle.lane_kernels.proofs.Narrow.{narrow_stored, byte_stored, square_run-more}
use Rattle.lane_kernels.proofs.Wraps.{sum_below-more}

-- the sum of two samples without a sign
two_run : (kind : SampleType) (input : List ℕ) (place high low : ℕ) → stored kind input place ≡ pos high → stored kind input (place + 1) ≡ pos low
    → pos (high + low) ≡ run kind input 2 place
two_run kind input place high low first second =
    let here : place + 0 ≡ place = omega arith in
    let sum : high + low ≡ 0 + high + low = omega arith in
    ap pos sum ∙ ap (λ z. pos 0 +ℤ z +ℤ pos low) (sym (ap (stored kind input) here ∙ first))
    ∙ ap (λ z. pos 0 +ℤ stored kind input (place + 0) +ℤ z) (sym second)

word_halves : (bs : List ℕ) → 4 ≤ length bs → from_be_bytes w32 (take 4 bs) ≡ from_be_bytes w16 (take 2 bs) * 65536 + from_be_bytes w16 (take 2 (drop 2 bs))
word_halves [] h = absurd (omega arith)
word_halves (a ∷ []) h = absurd (omega arith)
word_halves (a ∷ b ∷ []) h = absurd (omega arith)
word_halves (a ∷ b ∷ c ∷ []) h = absurd (omega arith)
word_halves (a ∷ b ∷ c ∷ d ∷ bs) h = omega arith

halves_sum : (word high low : ℕ) → word ≡ high * 65536 + low → low ≤ 65535 → word / 65536 + word % 65536 ≡ high + low
halves_sum word high low e h = omega arith

high_half : (word high low : ℕ) → word ≡ high * 65536 + low → low ≤ 65535 → word / 65536 ≡ high
high_half word high low e h = omega (arith, e, h)

low_half : (word high low : ℕ) → word ≡ high * 65536 + low → low ≤ 65535 → word % 65536 ≡ low
low_half word high low e h = omega (arith, e, h)

-- a shift by 16 leaves the high half, with its sign
half : (high low : ℕ) → high ≤ 65535 → low ≤ 65535 → shr_z (to_z w32 (high * 65536 + low)) 65536 ≡ to_z w16 high
half high low h k = elim (cases_lt high 32768) [
  | inl l ↦
      let e : (high * 65536 + low) / 65536 ≡ high = omega (arith, k) in
      ap (λ z. shr_z z 65536) (to_z_pos w32 (high * 65536 + low) (omega (arith, l, k))) ∙ ap pos e ∙ sym (to_z_pos w16 high l)
  | inr g ↦
      let m = 65535 - high in
      let r = 65535 - low in
      let e : high * 65536 + low ≡ 4294967296 - suc (m * 65536 + r) = omega (arith, h, k) in
      let f : high ≡ 65536 - suc m = omega (arith, h) in
      let back : (m * 65536 + r) / 65536 ≡ m = omega arith in
      ap (λ w. shr_z (to_z w32 w) 65536) e ∙ ap (λ z. shr_z z 65536) (to_z-neg w32 (m * 65536 + r) (omega (arith, g)))
      ∙ ap negsuc back ∙ sym (ap (to_z w16) f ∙ to_z-neg w16 m (omega (arith, g)))
]

-- the two halves of a lane of 32 bits, each with its sign
abbrev pub signed_halves : ℕ → ℤ
signed_halves b = to_z w32 ((of_z w32 (shr_z (to_z w32 (b * 65536 % 4294967296)) 65536) + of_z w32 (shr_z (to_z w32 b) 65536)) % 4294967296)

-- their sum
signed_halves_sum : (word high low : ℕ) → word ≡ high * 65536 + low → high ≤ 65535 → low ≤ 65535 → signed_halves word ≡ pos 0 +ℤ to_z w16 high +ℤ to_z w16 low
signed_halves_sum word high low e h k =
    let one = ap (λ w. shr_z (to_z w32 w) 65536) e ∙ half high low h k in
    let moved : word * 65536 % 4294967296 ≡ low * 65536 + 0 = omega (arith, e, h, k) in
    let two = ap (λ w. shr_z (to_z w32 w) 65536) moved ∙ half low 0 k (omega arith) in
    let f : FitsSigned w16 (to_z w16 high) = signed_16 high (omega (arith, h)) in
    let g : FitsSigned w16 (to_z w16 low) = signed_16 low (omega (arith, k)) in
    let turned : to_z w16 low +ℤ to_z w16 high ≡ pos 0 +ℤ to_z w16 high +ℤ to_z w16 low = omega (arith, ints) in
    ap (λ z. to_z w32 ((of_z w32 z + of_z w32 (shr_z (to_z w32 word) 65536)) % 4294967296)) two
    ∙ ap (λ z. to_z w32 ((of_z w32 (to_z w16 low) + of_z w32 z) % 4294967296)) one
    ∙ wrapping_add_is w32 (to_z w16 low) (to_z w16 high) (omega (arith, ints, g)) (omega (arith, ints, f))
    ∙ int_wrap_fits w32 (to_z w16 low +ℤ to_z w16 high) (omega (arith, ints, f, g)) ∙ turned

-- the two numbers in the four bytes at a place
module _ (input : List ℕ) (place : ℕ) (fit : (i : ℕ) → Fits w8 (get_or input i 0)) where
  abbrev first : ℕ
  first = from_be_bytes w16 (take 2 (drop (place * 2) input))

  abbrev second : ℕ
  second = from_be_bytes w16 (take 2 (drop ((place + 1) * 2) input))

  module _ (word : ℕ) (e : word ≡ from_be_bytes w32 (take 4 (drop (place * 2) input))) (within : place * 2 + 4 ≤ length input) where
    split : word ≡ first * 65536 + second
    split =
        let bs = drop (place * 2) input in
        let long = length-drop (place * 2) input in
        let there : place * 2 + 2 ≡ (place + 1) * 2 = omega arith in
        let next : drop 2 bs ≡ drop ((place + 1) * 2) input = drop-drop 2 (place * 2) input ∙ ap (λ n. drop n input) there in
        e ∙ word_halves bs (omega arith) ∙ ap (λ l. first * 65536 + from_be_bytes w16 (take 2 l)) next

    -- each of them
    pub parts_of_word : (word / 65536 ≡ unsigned_abs (stored UInt16 input place)) × (word % 65536 ≡ unsigned_abs (stored UInt16 input (place + 1)))
    parts_of_word =
        let low = narrow_stored UInt16 input (place + 1) fit (omega arith) in
        (high_half word first second split low, low_half word first second split low)

    -- their sum
    pub two_of_word : pos (word / 65536 + word % 65536) ≡ run UInt16 input 2 place
    two_of_word =
        let low = narrow_stored UInt16 input (place + 1) fit (omega arith) in
        ap pos (halves_sum word first second split low) ∙ two_run UInt16 input place first second refl refl

    pub two_in_word : to_z w32 (word / 65536 + word % 65536) ≡ run UInt16 input 2 place
    two_in_word =
        let high = narrow_stored UInt16 input place fit (omega arith) in
        let low = narrow_stored UInt16 input (place + 1) fit (omega arith) in
        let both = halves_sum word first second split low in
        to_z_pos w32 (word / 65536 + word % 65536) (omega (arith, high, low, both)) ∙ two_of_word

    -- the sum of the two with a sign
    pub signed_two_of_word : signed_halves word ≡ run Int16 input 2 place
    signed_two_of_word =
        let high = narrow_stored UInt16 input place fit (omega arith) in
        let low = narrow_stored UInt16 input (place + 1) fit (omega arith) in
        let here : place ≡ place + 0 = omega arith in
        signed_halves_sum word first second split high low
        ∙ ap (λ p. pos 0 +ℤ stored Int16 input p +ℤ stored Int16 input (place + 1)) here

pair_halves : (bs : List ℕ) → 2 ≤ length bs → from_be_bytes w16 (take 2 bs) ≡ from_be_bytes w8 (take 1 bs) * 256 + from_be_bytes w8 (take 1 (drop 1 bs))
pair_halves [] h = absurd (omega arith)
pair_halves (a ∷ []) h = absurd (omega arith)
pair_halves (a ∷ b ∷ bs) h = omega arith

bytes_sum : (pair high low : ℕ) → pair ≡ high * 256 + low → low ≤ 255 → pair / 256 + pair % 256 ≡ high + low
bytes_sum pair high low e h = omega arith

-- the sum of the two bytes at a place
pub two_in_pair : (input : List ℕ) (place : ℕ) → ((i : ℕ) → Fits w8 (get_or input i 0)) → (pair : ℕ) → pair ≡ from_be_bytes w16 (take 2 (drop place input))
    → place + 2 ≤ length input → to_z w32 (pair / 256 + pair % 256) ≡ run UInt8 input 2 place
two_in_pair input place fit pair e within =
    let bs = drop place input in
    let long = length-drop place input in
    let here : place ≡ place * 1 = omega arith in
    let there : place + 1 ≡ (place + 1) * 1 = omega arith in
    let next : drop 1 bs ≡ drop ((place + 1) * 1) input = drop-drop 1 place input ∙ ap (λ n. drop n input) there in
    let high = from_be_bytes w8 (take 1 (drop (place * 1) input)) in
    let low = from_be_bytes w8 (take 1 (drop ((place + 1) * 1) input)) in
    let first = byte_stored UInt8 input place fit refl in
    let second = byte_stored UInt8 input (place + 1) fit refl in
    let split : pair ≡ high * 256 + low =
    e ∙ pair_halves bs (omega arith) ∙ ap (λ n. from_be_bytes w8 (take 1 (drop n input)) * 256 + from_be_bytes w8 (take 1 (drop 1 bs))) here
    ∙ ap (λ l. high * 256 + from_be_bytes w8 (take 1 l)) next in
    let both = bytes_sum pair high low split second in
    to_z_pos w32 (pair / 256 + pair % 256) (omega (arith, first, second, both)) ∙ ap pos both ∙ two_run UInt8 input place high low refl refl

regrouped : (r a b : ℤ) → r +ℤ a +ℤ b ≡ r +ℤ (pos 0 +ℤ a +ℤ b)
regrouped r a b = omega (arith, ints)

-- two samples more
pub run-two : (kind : SampleType) (bytes : List ℕ) (j p : ℕ) → run kind bytes ((j + 1) * 2) p ≡ run kind bytes (j * 2) p +ℤ run kind bytes 2 (p + j * 2)
run-two kind bytes j p =
    let f : ℕ → ℤ = λ i. stored kind bytes (p + i) in
    let more : (j + 1) * 2 ≡ j * 2 + 1 + 1 = omega arith in
    let first : p + j * 2 ≡ p + j * 2 + 0 = omega arith in
    let second : p + (j * 2 + 1) ≡ p + j * 2 + 1 = omega arith in
    ap (λ n. run kind bytes n p) more ∙ sum_below-more (j * 2 + 1) f ∙ ap (λ z. z +ℤ f (j * 2 + 1)) (sum_below-more (j * 2) f)
    ∙ ap (λ q. run kind bytes (j * 2) p +ℤ stored kind bytes q +ℤ f (j * 2 + 1)) first
    ∙ ap (λ q. run kind bytes (j * 2) p +ℤ stored kind bytes (p + j * 2 + 0) +ℤ stored kind bytes q) second
    ∙ regrouped (run kind bytes (j * 2) p) (stored kind bytes (p + j * 2 + 0)) (stored kind bytes (p + j * 2 + 1))

-- the squares of two samples more
pub square_run-two : (kind : SampleType) (bytes : List ℕ) (j p : ℕ) → square_run kind bytes ((j + 1) * 2) p
    ≡ square_run kind bytes (j * 2) p + unsigned_abs (stored kind bytes (p + j * 2)) * unsigned_abs (stored kind bytes (p + j * 2))
    + unsigned_abs (stored kind bytes (p + (j * 2 + 1))) * unsigned_abs (stored kind bytes (p + (j * 2 + 1)))
square_run-two kind bytes j p =
    let more : (j + 1) * 2 ≡ j * 2 + 1 + 1 = omega arith in
    let last = unsigned_abs (stored kind bytes (p + (j * 2 + 1))) in
    ap (λ n. square_run kind bytes n p) more ∙ square_run-more kind (j * 2 + 1) p bytes ∙ ap (λ n. n + last * last) (square_run-more kind (j * 2) p bytes)

-- an odd number of samples
pub run-last : (kind : SampleType) (bytes : List ℕ) (bin p : ℕ) → bin % 2 ≢ 0
    → run kind bytes bin p ≡ run kind bytes (bin / 2 * 2) p +ℤ stored kind bytes (p + bin - 1)
run-last kind bytes bin p odd =
    let before : bin ≡ bin / 2 * 2 + 1 = omega arith in
    let last : p + bin / 2 * 2 ≡ p + bin - 1 = omega arith in
    ap (λ n. run kind bytes n p) before ∙ sum_below-more (bin / 2 * 2) (λ j. stored kind bytes (p + j))
    ∙ ap (λ q. run kind bytes (bin / 2 * 2) p +ℤ stored kind bytes q) last

-- what is kept of a sum with more
pub kept_more : (bits : ℕ) (before more : ℤ) → Fits w32 bits → FitsSigned w32 more → to_z w32 bits ≡ int_wrap w32 before
    → to_z w32 ((bits + of_z w32 more) % 4294967296) ≡ int_wrap w32 (before +ℤ more)
kept_more bits before more f g e =
    let same = of_z-to_z f in
    let kept : FitsSigned w32 (to_z w32 bits) = subst (FitsSigned w32) (sym e) (SFits-int_wrap w32 before) in
    ap (λ b. to_z w32 ((b + of_z w32 more) % 4294967296)) (sym same) ∙ wrapping_add_is w32 (to_z w32 bits) more kept g
    ∙ ap (λ z. int_wrap w32 (z +ℤ more)) e ∙ int_wrap-add_left w32 before more
