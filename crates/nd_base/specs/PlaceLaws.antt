-- Laws of places: there are as many indices as samples, the k-th index has place k, and a place has the index that it is of.
use Rattle.std.specs.Prelude.{◌≡◌, ℕ, zero, suc, ◌+◌, ◌*◌, ◌/◌, ◌%◌, ◌<◌, List, [], ◌∷◌, ◌++◌, length, map, refl}
use Rattle.std.specs.List.{range_with_len, flat_map}
use Rattle.std.proofs.Common.{ap, sym, ◌∙◌, arith, get_or}
use Rattle.std.proofs.Math.Nat.{add-mul-mod_self_left, add-mul-div_left, mod-eq_of_lt, div-eq_of_lt}
use Rattle.std.proofs.lemmas.List.{length-append, length-map, map-append}
use Rattle.std.proofs.lemmas.List.FromFn.{length-range_with_len}
use Rattle.nd_base.specs.declared.array.Dim.{Dim}
use Rattle.nd_base.specs.Shapes.{product}
use Rattle.nd_base.specs.Places.{sizes_of, place, product_of, indices, index_in, IsIndex}

-- each list in front of the rest
length-in_front : (xs : List ℕ) (n : ℕ) (rests : List (List ℕ)) → length xs ≡ n → length (flat_map (λ index. map (λ x. x ∷ index) xs) rests) ≡ n * length rests
length-in_front xs n [] h = omega arith
length-in_front xs n (rest ∷ rests) h =
    let more = flat_map (λ index. map (λ x. x ∷ index) xs) rests in
    let front : length (map (λ x. x ∷ rest) xs) ≡ n = length-map xs (λ x. x ∷ rest) ∙ h in
    let back = length-in_front xs n rests h in
    let both = length-append (map (λ x. x ∷ rest) xs) more in
    omega (arith, front, back, both)

-- there are as many indices as samples
pub length-indices : (sizes : List ℕ) → length (indices sizes) ≡ product sizes
length-indices [] = refl
length-indices (n ∷ sizes) = length-in_front (range_with_len 0 n) n (indices sizes) (length-range_with_len 0 n) ∙ ap (λ m. n * m) (length-indices sizes)

-- a range is its front and the rest
pub range-split : (from m n : ℕ) → range_with_len from (m + n) ≡ range_with_len from m ++ range_with_len (from + m) n
range-split from zero n = ap (λ k. range_with_len from k) (omega arith) ∙ ap (λ k. range_with_len k n) (omega arith)
range-split from (suc m) n =
    let e : suc m + n ≡ suc (m + n) = omega arith in
    ap (λ k. range_with_len from k) e
    ∙ ap (λ z. from ∷ z) (range-split (from + 1) m n ∙ ap (λ k. range_with_len (from + 1) m ++ range_with_len k n) (omega arith))

-- the places of the indices in one row, from its first place on
places-row : (sizes rest : List ℕ) (size n from : ℕ)
    → map (place (size ∷ sizes)) (map (λ x. x ∷ rest) (range_with_len from n)) ≡ range_with_len (from + size * place sizes rest) n
places-row sizes rest size zero from = refl
places-row sizes rest size (suc n) from =
    ap (λ z. (from + size * place sizes rest) ∷ z) (places-row sizes rest size n (from + 1) ∙ ap (λ k. range_with_len k n) (omega arith))

-- the rows that follow one another
places-rows : (sizes : List ℕ) (size from count : ℕ) (rests : List (List ℕ)) → map (place sizes) rests ≡ range_with_len from count →
    map (place (size ∷ sizes)) (flat_map (λ index. map (λ x. x ∷ index) (range_with_len 0 size)) rests) ≡ range_with_len (size * from) (size * count)
places-rows sizes size from zero [] h = let none : 0 ≡ size * zero = omega arith in ap (range_with_len (size * from)) none
places-rows sizes size from zero (rest ∷ rests) h = absurd (cc)
places-rows sizes size from (suc n) [] h = absurd (cc)
places-rows sizes size from (suc n) (rest ∷ rests) h =
    let first : place sizes rest ≡ from = cc in
    let others : map (place sizes) rests ≡ range_with_len (from + 1) n = cc in
    let more = flat_map (λ index. map (λ x. x ∷ index) (range_with_len 0 size)) rests in
    let next : size * (from + 1) ≡ size * from + size = omega arith in
    let count : size + size * n ≡ size * suc n = omega arith in
    let zero_more : 0 + size * from ≡ size * from = omega arith in
    let start : 0 + size * place sizes rest ≡ size * from = ap (λ p. 0 + size * p) first ∙ zero_more in
    map-append (place (size ∷ sizes)) (map (λ x. x ∷ rest) (range_with_len 0 size)) more
    ∙ ap (λ z. z ++ map (place (size ∷ sizes)) more) (places-row sizes rest size size 0 ∙ ap (λ k. range_with_len k size) start)
    ∙ ap (λ z. range_with_len (size * from) size ++ z) (places-rows sizes size (from + 1) n rests others ∙ ap (λ k. range_with_len k (size * n)) next)
    ∙ sym (range-split (size * from) size (size * n))
    ∙ ap (range_with_len (size * from)) count

-- the k-th index has place k
pub place-indices : (sizes : List ℕ) → map (place sizes) (indices sizes) ≡ range_with_len 0 (product sizes)
place-indices [] = refl
place-indices (size ∷ sizes) = places-rows sizes size 0 (product sizes) (indices sizes) (place-indices sizes)
    ∙ ap (λ k. range_with_len k (size * product sizes)) (omega arith)

-- the index of a place in a dimension is the number of the index that has this place
pub index_in-place : (dims : List Dim) (index : List ℕ) (k : ℕ) → IsIndex dims index → index_in dims k (place (sizes_of dims) index) ≡ get_or index k 0
index_in-place [] [] k h = refl
index_in-place [] (x ∷ index) k h = absurd h
index_in-place (d ∷ dims) [] k h = absurd h
index_in-place (d ∷ dims) (x ∷ index) zero h = add-mul-mod_self_left x d.size (place (sizes_of dims) index) ∙ mod-eq_of_lt h.0
index_in-place (d ∷ dims) (x ∷ index) (suc k) h =
    ap (λ p. index_in dims k p) (add-mul-div_left x (place (sizes_of dims) index) (omega (arith, h.0))
    ∙ ap (λ q. q + place (sizes_of dims) index) (div-eq_of_lt h.0) ∙ omega arith)
    ∙ index_in-place dims index k h.1
