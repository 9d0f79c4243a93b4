-- Which index stands at a place.
use Rattle.std.specs.Prelude.{◌≡◌, ℕ, zero, suc, ◌+◌, ◌*◌, ◌<◌, List, [], ◌∷◌, ◌++◌, length, map}
use Rattle.std.specs.List.{range_with_len, flat_map}
use Rattle.std.proofs.Common.{ap, ◌∙◌, arith, get_or}
use Rattle.std.proofs.lemmas.List.{length-map, get_or-map, get_or_append_left, get_or-append-add}
use Rattle.std.proofs.lemmas.List.FromFn.{length-range_with_len, get_or-range_with_len}
use Rattle.nd_base.specs.Shapes.{product}
use Rattle.nd_base.specs.Places.{indices}
use Rattle.nd_base.specs.PlaceLaws.{length-indices}

-- element x of part k, where each part has n elements
get_or-parts : {X Y : Type 0} (f : X → List Y) (n : ℕ) (xs : List X) (x k : ℕ) (d : Y) (e : X) → ((y : X) → length (f y) ≡ n) → x < n → k < length xs
    → get_or (flat_map f xs) (x + n * k) d ≡ get_or (f (get_or xs k e)) x d
get_or-parts f n [] x k d e each h within = absurd (omega arith)
get_or-parts f n (y ∷ xs) x zero d e each h within =
    let long = each y in
    ap (λ i. get_or (f y ++ flat_map f xs) i d) (omega arith) ∙ get_or_append_left (f y) (flat_map f xs) d x (omega arith)
get_or-parts f n (y ∷ xs) x (suc k) d e each h within =
    let long = each y in
    ap (λ i. get_or (f y ++ flat_map f xs) i d) (omega arith) ∙ get_or-append-add (f y) (flat_map f xs) (x + n * k) d
    ∙ get_or-parts f n xs x k d e each h (omega arith)

-- the index at place x + n * k begins with x, and goes on with the index at place k
pub get_or-indices : (n : ℕ) (sizes : List ℕ) (x k : ℕ) → x < n → k < product sizes
    → get_or (indices (n ∷ sizes)) (x + n * k) [] ≡ x ∷ get_or (indices sizes) k []
get_or-indices n sizes x k h within =
    let rest = get_or (indices sizes) k [] in
    let count = length-indices sizes in
    let some : k < length (indices sizes) = omega arith in
    let long = length-range_with_len 0 n in
    let first : x < length (range_with_len 0 n) = omega arith in
    get_or-parts (λ (index : List ℕ). map (λ x. x ∷ index) (range_with_len 0 n)) n (indices sizes) x k [] []
    (λ index. length-map (range_with_len 0 n) (λ x. x ∷ index) ∙ long) h some
    ∙ get_or-map (λ x. x ∷ rest) (range_with_len 0 n) x 0 [] first
    ∙ ap (λ x. x ∷ rest) (get_or-range_with_len 0 n x 0 h ∙ omega arith)
