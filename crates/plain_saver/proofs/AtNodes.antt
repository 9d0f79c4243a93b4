-- Lists that have one element for each node of a graph, the first for node 1.
use Rattle.std.proofs.Common.{◌≡◌, ◌≢◌, ℕ, ◌-◌, ◌≤◌, List, length, get_or, set, arith}
use Rattle.std.proofs.lemmas.List.{get_or-set_same, get_or-set_other}

module _ {X : Type 0} (xs : List X) (v : ℕ) (x none : X) (first : 1 ≤ v) where
  -- what was written for a node
  pub node-same : v ≤ length xs → get_or (set xs (v - 1) x) (v - 1) none ≡ x
  node-same within = get_or-set_same xs (v - 1) x none (omega (arith, first, within))

  -- and what stands for another
  pub node-other : (w : ℕ) → 1 ≤ w → w ≢ v → get_or (set xs (v - 1) x) (w - 1) none ≡ get_or xs (w - 1) none
  node-other w some apart =
      get_or-set_other xs (v - 1) (w - 1) x none (λ e. apart (let same : w ≡ v = omega (arith, e, first, some) in same))
