-- Samples written as bytes.
use Rattle.std.proofs.Common.{◌≡◌, ℕ, zero, suc, ◌+◌, ◌%◌, ◌<◌, ◌≤◌, ℤ, pos, negsuc, List, [], ◌∷◌, ◌++◌, length, get_or, take, set, of_z, to_z, FitsSigned}
use Rattle.std.proofs.Common.{refl, ap, sym, ◌∙◌, arith, append_assoc}
use Rattle.std.specs.Int.{w16, w32, int_wrap, to_le_bytes, to_be_bytes, swap_bytes}
use Rattle.std.proofs.lemmas.Int.{ints, of_z-to_z, SFits-int_wrap}
use Rattle.std.specs.List.{flat_map}
use Rattle.std.proofs.lemmas.Nat.{le_bytes_2, le_bytes_4}
use Rattle.std.proofs.lemmas.List.{take_more, take_more_set, length-set, append-nil}
use Rattle.std.proofs.lemmas.Grind.{flat_map-append}
use Rattle.nd_base.specs.declared.array.SampleType.{SampleType}
use Rattle.nd_base.specs.declared.array.SampleType.TheVariants.{Int8, UInt8, Int16, UInt16, Int32, UInt32}
use Rattle.nd_roi.specs.Region.{low_bits}
use Rattle.nd_roi.specs.Walk.{bytes_of}

-- one more
pub flat_map-more : {X Y : Type 0} (f : X → List Y) (xs : List X) (k : ℕ) (d : X) → k < length xs
    → flat_map f (take (k + 1) xs) ≡ flat_map f (take k xs) ++ f (get_or xs k d)
flat_map-more f xs k d h = ap (flat_map f) (take_more xs k d h) ∙ flat_map-append f (take k xs) (get_or xs k d ∷ [])
    ∙ ap (λ ys. flat_map f (take k xs) ++ ys) (append-nil (f (get_or xs k d)))

-- two bytes more
pub take-two : (xs : List ℕ) (n high low : ℕ) → n + 2 ≤ length xs → take (n + 2) (set (set xs n high) (n + 1) low) ≡ take n xs ++ (high ∷ low ∷ [])
take-two xs n high low h =
    let ys : List ℕ = set xs n high in
    let long : n + 1 < length ys = simp length-set (omega arith) in
    let e : take (n + 1 + 1) (set ys (n + 1) low) ≡ take (n + 1) ys ++ (low ∷ []) = take_more_set ys (n + 1) low long in
    let f : take (n + 1) ys ≡ take n xs ++ (high ∷ []) = take_more_set xs n high (omega arith) in
    let s : n + 2 ≡ n + 1 + 1 = omega arith in
    ap (λ m. take m (set ys (n + 1) low)) s ∙ e ∙ ap (λ zs. zs ++ (low ∷ [])) f ∙ append_assoc (take n xs) (high ∷ []) (low ∷ [])

-- four bytes more
pub take-four : (xs : List ℕ) (n a b c d : ℕ) → n + 4 ≤ length xs
    → take (n + 4) (set (set (set (set xs n a) (n + 1) b) (n + 2) c) (n + 3) d) ≡ take n xs ++ (a ∷ b ∷ c ∷ d ∷ [])
take-four xs n a b c d h =
    let ys : List ℕ = set (set xs n a) (n + 1) b in
    let long : (n + 2) + 2 ≤ length ys = simp length-set (omega arith) in
    let e : take (n + 2 + 2) (set (set ys (n + 2) c) (n + 2 + 1) d) ≡ take (n + 2) ys ++ (c ∷ d ∷ []) = take-two ys (n + 2) c d long in
    let f : take (n + 2) ys ≡ take n xs ++ (a ∷ b ∷ []) = take-two xs n a b (omega arith) in
    let s : n + 4 ≡ n + 2 + 2 = omega arith in
    let t : n + 3 ≡ n + 2 + 1 = omega arith in
    ap (λ m. take m (set (set ys (n + 2) c) (n + 3) d)) s ∙ ap (λ m. take (n + 2 + 2) (set (set ys (n + 2) c) m d)) t
    ∙ e ∙ ap (λ zs. zs ++ (c ∷ d ∷ [])) f ∙ append_assoc (take n xs) (a ∷ b ∷ []) (c ∷ d ∷ [])

pub low_bits_8 : (z : ℤ) → FitsSigned w32 z → of_z w32 z % 256 ≡ low_bits 8 z
low_bits_8 (pos n) fits = refl
low_bits_8 (negsuc n) fits = omega arith

pub low_bits_16 : (z : ℤ) → FitsSigned w32 z → of_z w32 z % 65536 ≡ low_bits 16 z
low_bits_16 (pos n) fits = refl
low_bits_16 (negsuc n) fits = omega arith

pub low_bits_32 : (z : ℤ) → FitsSigned w32 z → of_z w32 z ≡ low_bits 32 z
low_bits_32 (pos n) fits = omega (arith, ints)
low_bits_32 (negsuc n) fits = omega (arith, ints)

below_32 : (z : ℤ) → low_bits 32 z < 4294967296
below_32 (pos n) = omega arith
below_32 (negsuc n) = omega arith

of_low_8 : (z : ℤ) → low_bits 32 z % 256 ≡ low_bits 8 z
of_low_8 (pos n) = omega arith
of_low_8 (negsuc n) = omega arith

of_low_16 : (z : ℤ) → low_bits 32 z % 65536 ≡ low_bits 16 z
of_low_16 (pos n) = omega arith
of_low_16 (negsuc n) = omega arith

module _ (z : ℤ) where
  wrapped : int_wrap w32 z ≡ to_z w32 (low_bits 32 z)
  unfolding int_wrap
  wrapped = refl

  back : of_z w32 (int_wrap w32 z) ≡ low_bits 32 z
  back = ap (of_z w32) wrapped ∙ of_z-to_z w32 (low_bits 32 z) (below_32 z)

  wrapped_8 : low_bits 8 (int_wrap w32 z) ≡ low_bits 8 z
  wrapped_8 = sym (low_bits_8 (int_wrap w32 z) (SFits-int_wrap w32 z)) ∙ ap (λ n. n % 256) back ∙ of_low_8 z

  wrapped_16 : low_bits 16 (int_wrap w32 z) ≡ low_bits 16 z
  wrapped_16 = sym (low_bits_16 (int_wrap w32 z) (SFits-int_wrap w32 z)) ∙ ap (λ n. n % 65536) back ∙ of_low_16 z

  wrapped_32 : low_bits 32 (int_wrap w32 z) ≡ low_bits 32 z
  wrapped_32 = sym (low_bits_32 (int_wrap w32 z) (SFits-int_wrap w32 z)) ∙ back

-- a sample's bytes are those of what is left of it in 32 bits
pub bytes_of-low : (kind : SampleType) (z : ℤ) → bytes_of kind (int_wrap w32 z) ≡ bytes_of kind z
bytes_of-low Int8 z = ap (λ n. n ∷ []) (wrapped_8 z)
bytes_of-low UInt8 z = ap (λ n. n ∷ []) (wrapped_8 z)
bytes_of-low Int16 z = ap (to_be_bytes w16) (wrapped_16 z)
bytes_of-low UInt16 z = ap (to_be_bytes w16) (wrapped_16 z)
bytes_of-low Int32 z = ap (to_be_bytes w32) (wrapped_32 z)
bytes_of-low UInt32 z = ap (to_be_bytes w32) (wrapped_32 z)

below_256-2 : (n i : ℕ) → get_or (to_be_bytes w16 n) i 0 < 256
below_256-2 n zero = omega arith
below_256-2 n (suc zero) = omega arith
below_256-2 n (suc (suc i)) = omega arith

below_256-4 : (n i : ℕ) → get_or (to_be_bytes w32 n) i 0 < 256
below_256-4 n zero = omega arith
below_256-4 n (suc zero) = omega arith
below_256-4 n (suc (suc zero)) = omega arith
below_256-4 n (suc (suc (suc zero))) = omega arith
below_256-4 n (suc (suc (suc (suc i)))) = omega arith

-- the low byte of the swapped number is the high one
pub swapped_2 : (n : ℕ) → to_le_bytes w16 (swap_bytes w16 n) ≡ to_be_bytes w16 n
swapped_2 n = le_bytes_2 (to_be_bytes w16 n) (swap_bytes w16 n) refl (below_256-2 n) (omega arith)

pub swapped_4 : (n : ℕ) → to_le_bytes w32 (swap_bytes w32 n) ≡ to_be_bytes w32 n
swapped_4 n = le_bytes_4 (to_be_bytes w32 n) (swap_bytes w32 n) refl (below_256-4 n) (omega arith)
