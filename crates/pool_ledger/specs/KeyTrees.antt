-- What a node of the key tree is seen as.
use Rattle.std.specs.Prelude.{ℕ, ◌<◌, ◌≤◌, List, [], ◌∷◌, ◌++◌}
use Rattle.std.specs.List.{AllByRecursion}
use Rattle.pool_ledger.specs.Keys.{IsRising}
use Rattle.pool_ledger.specs.declared.key_tree.Node.{Node}
use Rattle.pool_ledger.specs.declared.key_tree.Node.TheVariants.{Leaf, Fork}

-- the keys in rising order
abbrev pub keys : Node → List ℕ
keys Leaf = []
keys (Fork low least split high) = least ∷ (low.value ++ high.value)

-- The least key stands at the fork, the low side is below the split, and the high side is not.
pub record Splits (low : List ℕ) (least split : ℕ) (high : List ℕ) : Type 0 where
  pub rising : IsRising (least ∷ (low ++ high))
  pub below : AllByRecursion (λ k. k < split) low
  pub above : AllByRecursion (λ k. split ≤ k) high

abbrev pub IsSplit : Node → Type 0
IsSplit Leaf = Unit {0}
IsSplit (Fork low least split high) = Splits low.value least split high.value
