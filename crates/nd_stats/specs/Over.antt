-- The samples that reach a threshold, with their indices in a line.
use Rattle.std.specs.Prelude.{◌≡◌, Bool, not, ℤ, pos, ◌*ℤ◌, List, filter, int_lt}
use Rattle.nd_stats.specs.declared.over.Over.{Over}
use Rattle.nd_stats.specs.Samples.{Sample, sum_of}
use Rattle.nd_stats.specs.Measured.{count_where, value_where}

abbrev pub reaches : ℤ → Sample → Bool
reaches threshold s = not (int_lt s.value threshold)

-- the sum of the values, each times its place
abbrev pub weighted : ℤ → List Sample → ℤ
weighted threshold xs = sum_of (λ s. pos s.place *ℤ s.value) (filter (reaches threshold) xs)

-- the numbers of these samples
pub record IsOver (threshold : ℤ) (xs : List Sample) (o : Over) : Type 0 where
  pub count : o.count ≡ count_where (reaches threshold) xs
  pub sum : o.sum ≡ value_where (reaches threshold) xs
  pub weighted : o.weighted ≡ weighted threshold xs
