-- Rising lists of numbers.
use Rattle.std.specs.Prelude.{ℕ, ◌==◌, ◌<◌, not, nat_lt, nat_le, List, [], ◌∷◌, filter, find, reverse, Option, if◌then◌else◌}
use Rattle.std.specs.List.{AllByRecursion, prefix_len}

-- a set with room for so many keys, in rising order
pub record Keys : Type 0 where
  pub room : ℕ
  pub keys : List ℕ

-- each key is below all later ones
abbrev pub IsRising : List ℕ → Type 0
IsRising [] = Unit {0}
IsRising (k ∷ ks) = AllByRecursion (λ j. k < j) ks × IsRising ks

-- the keys with one more in its place
abbrev pub with_key : ℕ → List ℕ → List ℕ
with_key key [] = key ∷ []
with_key key (k ∷ ks) = if nat_lt k key then k ∷ with_key key ks else key ∷ k ∷ ks

-- the keys without this one
abbrev pub without_key : ℕ → List ℕ → List ℕ
without_key key ks = filter (λ k. not (k == key)) ks

-- how many keys are below this number
abbrev pub count_below : ℕ → List ℕ → ℕ
count_below bound ks = prefix_len (λ k. nat_lt k bound) ks

-- the least key that isn't below this number
abbrev pub least_from : ℕ → List ℕ → Option ℕ
least_from bound ks = find (λ k. nat_le bound k) ks

-- the greatest key below this number
abbrev pub greatest_below : ℕ → List ℕ → Option ℕ
greatest_below bound ks = find (λ k. nat_lt k bound) (reverse ks)
