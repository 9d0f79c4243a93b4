-- A part of a list that was written anew.
use Rattle.std.proofs.Common.{◌≡◌, ℕ, ◌+◌, ◌-◌, ◌*◌, ◌<◌, ◌≤◌, ℤ, ◌+ℤ◌, List, ◌++◌, length, take, drop, get_or, ap, ◌∙◌, arith}
use Rattle.std.specs.Int.{Width, int_wrap}
use Rattle.std.proofs.lemmas.List.{get_or_append_left, get_or-append_right, get_or-take, get_or-drop, length-take-le}

pub in_part : {X : Type 0} (a k : ℕ) (xs : List X) (i : ℕ) (d : X) → i < k → get_or (take k (drop a xs)) i d ≡ get_or xs (a + i) d
in_part a k xs i d h = get_or-take k (drop a xs) i d h ∙ get_or-drop a xs i d

module _ {X : Type 0} (a k : ℕ) (xs ys : List X) (d : X) (within : a ≤ length xs) (same : length ys ≡ k) where
  -- the whole, with the part from a on
  abbrev pub with_part : List X
  with_part = take a xs ++ (ys ++ drop k (drop a xs))

  pub with_part-before : (i : ℕ) → i < a → get_or with_part i d ≡ get_or xs i d
  with_part-before i h =
      let long = length-take-le a xs within in
      get_or_append_left (take a xs) (ys ++ drop k (drop a xs)) d i (omega arith) ∙ get_or-take a xs i d h

  pub with_part-in : (i : ℕ) → a ≤ i → i < a + k → get_or with_part i d ≡ get_or ys (i - a) d
  with_part-in i from h =
      get_or-append_right (take a xs) (ys ++ drop k (drop a xs)) a i d (length-take-le a xs within) from
      ∙ get_or_append_left ys (drop k (drop a xs)) d (i - a) (omega arith)

  pub with_part-behind : (i : ℕ) → a + k ≤ i → get_or with_part i d ≡ get_or xs i d
  with_part-behind i h =
      let place : a + (k + (i - a - k)) ≡ i = omega arith in
      get_or-append_right (take a xs) (ys ++ drop k (drop a xs)) a i d (length-take-le a xs within) (omega arith)
      ∙ get_or-append_right ys (drop k (drop a xs)) k (i - a) d same (omega arith)
      ∙ get_or-drop k (drop a xs) (i - a - k) d ∙ get_or-drop a xs (k + (i - a - k)) d ∙ ap (λ n. get_or xs n d) place

  -- where each sum of the part grew, each of the whole did
  pub with_part-added : (w : Width) (value : X → ℤ) (more : ℕ → ℤ) (place bin : ℕ) →
      ((i : ℕ) → i < length ys → value (get_or ys i d) ≡ int_wrap w (value (get_or (take k (drop a xs)) i d) +ℤ more (place + a * bin + i * bin))) →
      (i : ℕ) → a ≤ i → i < a + k → value (get_or with_part i d) ≡ int_wrap w (value (get_or xs i d) +ℤ more (place + i * bin))
  with_part-added w value more place bin each i from h =
      let back : a + (i - a) ≡ i = omega arith in
      let scaled : (a + (i - a)) * bin ≡ i * bin = ap (λ n. n * bin) back in
      let there : place + a * bin + (i - a) * bin ≡ place + i * bin = omega (arith, scaled) in
      ap value (with_part-in i from h)
      ∙ each (i - a) (omega arith)
      ∙ ap (λ x. int_wrap w (value x +ℤ more (place + a * bin + (i - a) * bin))) (in_part a k xs (i - a) d (omega arith) ∙ ap (λ n. get_or xs n d) back)
      ∙ ap (λ p. int_wrap w (value (get_or xs i d) +ℤ more p)) there
