-- Indices and the places that they have.
use Rattle.std.proofs.Common.{◌≡◌, ℕ, zero, suc, ◌+◌, ◌*◌, ◌/◌, ◌%◌, ◌<◌, List, [], ◌∷◌, length, map, get_or, refl, ap, sym, ◌∙◌, subst, arith}
use Rattle.std.proofs.lemmas.List.{length-map, get_or-map, same_lists}
use Rattle.std.proofs.lemmas.Nat.{mul-add-lt, div_below, mod_below}
use Rattle.std.proofs.Math.Nat.{mul_comm, zero-mul}
use Rattle.nd_base.specs.declared.array.Dim.{Dim}
use Rattle.nd_base.specs.Shapes.{product}
use Rattle.nd_base.specs.Places.{place, indices, sizes_of, IsIndex}
use Rattle.nd_base.specs.PlaceLaws.{length-indices}
use Rattle.nd_orient.specs.IndexLaws.{get_or-indices}

-- an index has a place among the samples
pub place-below : (dims : List Dim) (index : List ℕ) → IsIndex dims index → place (sizes_of dims) index < product (sizes_of dims)
place-below [] [] h = omega arith
place-below [] (x ∷ index) h = absurd h
place-below (d ∷ dims) [] h = absurd h
place-below (d ∷ dims) (x ∷ index) h =
    let rest = place-below dims index h.1 in
    let all = mul-add-lt (place (sizes_of dims) index) d.size x (product (sizes_of dims)) rest h.0 in
    omega (arith, all)

-- and stands there
pub get_or-place : (dims : List Dim) (index : List ℕ) → IsIndex dims index → get_or (indices (sizes_of dims)) (place (sizes_of dims) index) [] ≡ index
get_or-place [] [] h = refl
get_or-place [] (x ∷ index) h = absurd h
get_or-place (d ∷ dims) [] h = absurd h
get_or-place (d ∷ dims) (x ∷ index) h =
    get_or-indices d.size (sizes_of dims) x (place (sizes_of dims) index) h.0 (place-below dims index h.1)
    ∙ ap (λ rest. x ∷ rest) (get_or-place dims index h.1)

positive : (n m k : ℕ) → k < n * m → 0 < n
positive zero m k h = let none = zero-mul m in absurd (omega (arith, none, h))
positive (suc n) m k h = omega arith

turned : (n m k : ℕ) → k < n * m → k < m * n
turned n m k h = let e = mul_comm n m in omega (arith, e)

-- what stands at a place is an index
pub index_at-IsIndex : (dims : List Dim) (k : ℕ) → k < product (sizes_of dims) → IsIndex dims (get_or (indices (sizes_of dims)) k [])
index_at-IsIndex [] zero h = tt
index_at-IsIndex [] (suc k) h = absurd (omega arith)
index_at-IsIndex (d ∷ dims) k h =
    let n = d.size in
    let some : 0 < n = positive n (product (sizes_of dims)) k h in
    let x : k % n < n = mod_below k n some in
    let rest : k / n < product (sizes_of dims) = div_below k n (product (sizes_of dims)) some (turned n (product (sizes_of dims)) k h) in
    let whole : k % n + n * (k / n) ≡ k = omega arith in
    subst (λ m. IsIndex (d ∷ dims) (get_or (indices (sizes_of (d ∷ dims))) m [])) whole
    (subst (IsIndex (d ∷ dims)) (sym (get_or-indices n (sizes_of dims) (k % n) (k / n) x rest))
    (x, index_at-IsIndex dims (k / n) rest))

-- two lists of values, one for each index, are the same where they are at each index
pub indices-cong : {X : Type 0} (dims : List Dim) (f g : List ℕ → X) → ((index : List ℕ) → IsIndex dims index → f index ≡ g index)
    → map f (indices (sizes_of dims)) ≡ map g (indices (sizes_of dims))
indices-cong dims f g each =
    let all = indices (sizes_of dims) in
    let count = length-indices (sizes_of dims) in
    let long = length-map all f in
    same_lists (map f all) (map g all) (length-map all f ∙ sym (length-map all g)) (λ k d h.
    let within : k < length all = omega (arith, long) in
    get_or-map f all k [] d within ∙ each (get_or all k []) (index_at-IsIndex dims k (omega (arith, count))) ∙ sym (get_or-map g all k [] d within))

-- the value for an index stands at its place
pub get_or-map-place : {X : Type 0} (dims : List Dim) (f : List ℕ → X) (index : List ℕ) (e : X) → IsIndex dims index
    → get_or (map f (indices (sizes_of dims))) (place (sizes_of dims) index) e ≡ f index
get_or-map-place dims f index e h =
    let all = indices (sizes_of dims) in
    let count = length-indices (sizes_of dims) in
    let below = place-below dims index h in
    get_or-map f all (place (sizes_of dims) index) [] e (omega (arith, count)) ∙ ap f (get_or-place dims index h)
