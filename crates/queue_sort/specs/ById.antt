-- Lists of what has an id, in the order of ids. `id_of` says what the id is.
use Rattle.std.specs.Prelude.{ℤ, ◌≤ℤ◌, int_lt, int_le, List, ◌∷◌, ◌++◌}
use Rattle.std.specs.List.{AllPairs, filter}
use Rattle.std.specs.Ordering.{int_eq}

-- no id is above a later one
abbrev pub AreById : {X : Type 0} → (X → ℤ) → List X → Type 0
AreById id_of xs = AllPairs (λ v w. id_of v ≤ℤ id_of w) xs

-- with one more, behind those whose id is at most its own and before those whose id is greater
abbrev pub placed_by : {X : Type 0} → (X → ℤ) → X → List X → List X
placed_by id_of w xs = filter (λ v. int_le (id_of v) (id_of w)) xs ++ w ∷ filter (λ v. int_lt (id_of w) (id_of v)) xs

-- those of one id
abbrev pub with_id : {X : Type 0} → (X → ℤ) → ℤ → List X → List X
with_id id_of id xs = filter (λ w. int_eq (id_of w) id) xs
