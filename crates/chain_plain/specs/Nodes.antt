-- The nodes of a graph by number: the driver is 0, and the nodes are 1, 2, .. in the graph's order.
use Rattle.std.specs.Prelude.{ℕ, zero, suc, Bool, false, List, length, filter, if◌then◌else◌}
use Rattle.std.specs.List.{range_with_len}
use Rattle.std.specs.Option.{option_map_or}
use Rattle.nd_base.specs.declared.graph.NodeRule.{NodeRule}
use Rattle.nd_base.specs.GraphRules.{makes_arrays, rule_at, input_of}

-- a region node, which makes arrays of its own
abbrev pub is_region : List NodeRule → ℕ → Bool
is_region nodes v = option_map_or (λ n. makes_arrays n.kind) (rule_at nodes v) false

-- the numbers of the region nodes, in the graph's order
abbrev pub regions : List NodeRule → List ℕ
regions nodes = filter (is_region nodes) (range_with_len 1 (length nodes))

-- What becomes of x on the way from the driver to node v, over so many nodes at most: a step at each node, given its number. In a graph no
-- way from the driver has more nodes than there are.
abbrev pub walked : {X : Type 0} → (step : ℕ → X → X) → List NodeRule → (steps v : ℕ) → X → X
walked step nodes zero v x = x
walked step nodes (suc steps) v x = step v (walked step nodes steps (input_of nodes v) x)

-- the maker of what a node passes on, where its input passes on what this one makes
abbrev pub maker_after : List NodeRule → ℕ → ℕ → ℕ
maker_after nodes v maker = if is_region nodes v then v else maker

-- the last region node on the way to a node, the node itself among them, over so many steps at most, or the driver
abbrev pub maker_within : List NodeRule → (steps v : ℕ) → ℕ
maker_within nodes steps v = walked (maker_after nodes) nodes steps v 0

-- the maker of what a node passes on: a region node makes it itself, and another passes on what its input does
abbrev pub maker_at : List NodeRule → ℕ → ℕ
maker_at nodes v = maker_within nodes (length nodes) v
