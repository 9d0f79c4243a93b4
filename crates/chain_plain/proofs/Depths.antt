-- How many nodes there are on the way from the driver to a node.
use Rattle.std.specs.Prelude.{◌≡◌, ℕ, zero, suc, ◌<◌, List, refl}
use Rattle.std.proofs.Common.{ap, arith}
use Rattle.nd_base.specs.declared.graph.NodeRule.{NodeRule}
use Rattle.nd_base.specs.GraphRules.{input_of, source_of}

-- the nodes on the way up, of so many steps at most
abbrev pub depth : List NodeRule → (steps v : ℕ) → ℕ
depth nodes zero v = 0
depth nodes (suc steps) zero = 0
depth nodes (suc steps) (suc k) = suc (depth nodes steps (input_of nodes (suc k)))

depth-more : (nodes : List NodeRule) (steps v : ℕ) → source_of nodes steps v ≡ 0 → depth nodes (suc steps) v ≡ depth nodes steps v
depth-more nodes zero zero h = refl
depth-more nodes zero (suc k) h = let e : suc k ≡ 0 = h in absurd (omega (arith, e))
depth-more nodes (suc steps) zero h = refl
depth-more nodes (suc steps) (suc k) h = ap suc (depth-more nodes steps (input_of nodes (suc k)) h)

-- a node's input is nearer to the driver
pub depth-input : (nodes : List NodeRule) (steps k : ℕ) → source_of nodes steps (suc k) ≡ 0
    → depth nodes steps (input_of nodes (suc k)) < depth nodes steps (suc k)
depth-input nodes zero k h = let e : suc k ≡ 0 = h in absurd (omega (arith, e))
depth-input nodes (suc steps) k h =
    let same : depth nodes (suc steps) (input_of nodes (suc k)) ≡ depth nodes steps (input_of nodes (suc k)) =
    depth-more nodes steps (input_of nodes (suc k)) h in
    omega (arith, same)
