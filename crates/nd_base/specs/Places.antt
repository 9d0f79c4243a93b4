-- Where a sample stands: the place of an index, and the index of a place. Dimension 0 is the fastest.
use Rattle.std.specs.Prelude.{ℕ, zero, suc, ◌+◌, ◌*◌, ◌/◌, ◌%◌, ◌<◌, List, [], ◌∷◌, map}
use Rattle.std.specs.List.{range_with_len, flat_map}
use Rattle.nd_base.specs.declared.array.Dim.{Dim}

-- the sizes of dimensions
abbrev pub sizes_of : List Dim → List ℕ
sizes_of dims = map (λ d. d.size) dims

-- the place of an index among the samples of dimensions of these sizes
abbrev pub place : (sizes index : List ℕ) → ℕ
place [] index = 0
place (n ∷ sizes) [] = 0
place (n ∷ sizes) (x ∷ index) = x + n * place sizes index

-- the indices with their numbers out of these lists, the first number the fastest
abbrev pub product_of : List (List ℕ) → List (List ℕ)
product_of [] = [] ∷ []
product_of (choices ∷ rest) = flat_map (λ index. map (λ x. x ∷ index) choices) (product_of rest)

-- all indices of dimensions of these sizes, in the order of their places
abbrev pub indices : List ℕ → List (List ℕ)
indices sizes = product_of (map (λ n. range_with_len 0 n) sizes)

-- the index of a place in dimension k; 0 where there is no such dimension
abbrev pub index_in : List Dim → ℕ → ℕ → ℕ
index_in [] k place = 0
index_in (d ∷ dims) zero place = place % d.size
index_in (d ∷ dims) (suc k) place = index_in dims k (place / d.size)

-- the size of dimension k; 1 where there is no such dimension
abbrev pub size_in : List Dim → ℕ → ℕ
size_in [] k = 1
size_in (d ∷ dims) zero = d.size
size_in (d ∷ dims) (suc k) = size_in dims k

-- an index has a number below its size in each dimension
abbrev pub IsIndex : List Dim → List ℕ → Type 0
IsIndex [] [] = Unit {0}
IsIndex [] (x ∷ index) = ⊥
IsIndex (d ∷ dims) [] = ⊥
IsIndex (d ∷ dims) (x ∷ index) = (x < d.size) × IsIndex dims index
