use Rattle.std.proofs.Common.{◌≡◌, ◌∷◌, map, filter}
use Rattle.std.specs.List.{range_with_len}
use Rattle.chain_plain.specs.Nodes.{is_region}
use Rattle.chain_plain.specs.Plans.{maker_of, shape_at}
use Rattle.chain_plain.proofs.plans.makers_of.Given as goal

-- the driver, and the region nodes so far
abbrev pub invariant-loop-place : goal.invariant-loop-place
invariant-loop-place l =
    l.makers.items ≡ map (λ v. maker_of v (shape_at l.graph.nodes l.shape v)) (0 ∷ filter (is_region l.graph.nodes) (range_with_len 1 l.place))
