-- The samples of an array by their places, and where a place lies.
use Rattle.std.specs.Prelude.{ℕ, zero, suc, ◌+◌, ◌-◌, ◌/◌, ◌%◌, ◌||◌, nat_lt, nat_le, Bool, false, ℤ, pos, ◌+ℤ◌, List, [], ◌∷◌, int_lt, if◌then◌else◌}
use Rattle.nd_base.specs.declared.array.Dim.{Dim}
use Rattle.nd_base.specs.Samples.{IsSmall}

-- a sample: the number of its place in the array, and its value
pub record Sample : Type 0 where
  pub place : ℕ
  pub value : ℤ

-- the samples with these values at the places from `from` on
abbrev pub placed : ℕ → List ℤ → List Sample
placed from [] = []
placed from (v ∷ vs) = record { place = from; value = v } ∷ placed (from + 1) vs

-- whether an index is one of the first or of the last so many of its dimension
abbrev pub is_near_end : ℕ → ℕ → ℕ → Bool
is_near_end border size i = nat_lt i border || nat_le (size - border) i

-- whether a place is near the end of some dimension
abbrev pub is_at_border : ℕ → List Dim → ℕ → Bool
is_at_border border [] place = false
is_at_border border (d ∷ dims) place = is_near_end border d.size (place % d.size) || is_at_border border dims (place / d.size)

-- the sum of a number of each sample
abbrev pub sum_of : (Sample → ℤ) → List Sample → ℤ
sum_of f [] = pos 0
sum_of f (s ∷ xs) = f s +ℤ sum_of f xs

-- of a sample and those after it the first with the least value
abbrev pub least_from : Sample → List Sample → Sample
least_from s [] = s
least_from s (t ∷ xs) = let least = least_from t xs in (if int_lt least.value s.value then least else s)

-- of a sample and those after it the first with the greatest value
abbrev pub greatest_from : Sample → List Sample → Sample
greatest_from s [] = s
greatest_from s (t ∷ xs) = let greatest = greatest_from t xs in (if int_lt s.value greatest.value then greatest else s)

abbrev pub origin : Sample
origin = record { place = 0; value = pos 0 }

-- the first sample with the least value
abbrev pub least : List Sample → Sample
least [] = origin
least (s ∷ xs) = least_from s xs

-- the first sample with the greatest value
abbrev pub greatest : List Sample → Sample
greatest [] = origin
greatest (s ∷ xs) = greatest_from s xs

-- f at each of n numbers from k on
abbrev pub table : (ℕ → ℤ) → ℕ → ℕ → List ℤ
table f k zero = []
table f k (suc n) = f k ∷ table f (k + 1) n

-- samples of at most 32 bits
abbrev pub AreSmall : List Sample → Type 0
AreSmall [] = Unit {0}
AreSmall (s ∷ xs) = IsSmall s.value × AreSmall xs
