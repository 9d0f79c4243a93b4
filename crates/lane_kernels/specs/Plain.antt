-- What the kernels compute, over the list of all samples.
use Rattle.std.specs.Prelude.{ℕ, zero, suc, ◌+◌, ◌*◌, ℤ, pos, ◌+ℤ◌, List, [], ◌∷◌, take, drop, Option, Some, None, unsigned_abs}
use Rattle.std.specs.Int.{int_min, int_max}
use Rattle.nd_base.specs.declared.array.SampleType.{SampleType}
use Rattle.nd_base.specs.Samples.{width, number}
use Rattle.lane_kernels.specs.declared.extremes.MinMax.{MinMax}

-- the sample at a place
abbrev pub stored : SampleType → List ℕ → ℕ → ℤ
stored kind bytes k = number kind (take (width kind) (drop (k * width kind) bytes))

-- the sum of the values
abbrev pub total : List ℤ → ℤ
total [] = pos 0
total (v ∷ vs) = v +ℤ total vs

-- the sum of the squares
abbrev pub squares : List ℤ → ℕ
squares [] = 0
squares (v ∷ vs) = unsigned_abs v * unsigned_abs v + squares vs

-- the square of a value
abbrev pub square : ℤ → ℤ
square v = pos (unsigned_abs v * unsigned_abs v)

-- the least of a value and others
abbrev pub least_with : ℤ → List ℤ → ℤ
least_with v [] = v
least_with v (w ∷ vs) = int_min v (least_with w vs)

-- the greatest of a value and others
abbrev pub greatest_with : ℤ → List ℤ → ℤ
greatest_with v [] = v
greatest_with v (w ∷ vs) = int_max v (greatest_with w vs)

-- the least value, where there is one
abbrev pub least : List ℤ → Option ℤ
least [] = None
least (v ∷ vs) = Some (least_with v vs)

-- the greatest value, where there is one
abbrev pub greatest : List ℤ → Option ℤ
greatest [] = None
greatest (v ∷ vs) = Some (greatest_with v vs)

-- the least and the greatest value, where there is one
abbrev pub min_max : List ℤ → Option MinMax
min_max [] = None
min_max (v ∷ vs) = Some (record { min = least_with v vs; max = greatest_with v vs })

-- value 0 + value 1 + .. below n
abbrev pub sum_below : ℕ → (ℕ → ℤ) → ℤ
sum_below zero value = pos 0
sum_below (suc n) value = sum_below n value +ℤ value n

-- the sum of so many samples from a place on
abbrev pub run : SampleType → List ℕ → ℕ → ℕ → ℤ
run kind bytes n p = sum_below n (λ j. stored kind bytes (p + j))

-- the sum of the squares of so many samples from a place on
abbrev pub square_run : SampleType → List ℕ → ℕ → ℕ → ℕ
square_run kind bytes zero p = 0
square_run kind bytes (suc n) p = square_run kind bytes n p + unsigned_abs (stored kind bytes (p + n)) * unsigned_abs (stored kind bytes (p + n))
