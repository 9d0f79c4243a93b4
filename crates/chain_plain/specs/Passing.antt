-- What goes out of a node, as it is made of what goes out of the driver by the nodes on the way.
use Rattle.std.specs.Prelude.{ℕ, List, length, Option, Some, None}
use Rattle.nd_base.specs.declared.graph.NodeRule.{NodeRule}
use Rattle.nd_base.specs.declared.graph.Kind.{Kind}
use Rattle.nd_base.specs.declared.graph.Kind.TheVariants.{Roi, Stats, Circular, File, Scatter}
use Rattle.nd_base.specs.declared.graph.RoiRule.{RoiRule}
use Rattle.nd_base.specs.GraphRules.{rule_at}
use Rattle.chain_plain.specs.Nodes.{walked}

-- a region node cuts what comes to it, and every other passes it on as it is
abbrev pub by_kind : {X : Type 0} → (RoiRule → X → X) → Kind → X → X
by_kind cut (Roi r) x = cut r x
by_kind cut (Stats r) x = x
by_kind cut (Circular r) x = x
by_kind cut (File r) x = x
by_kind cut Scatter x = x

abbrev pub by_node : {X : Type 0} → (RoiRule → X → X) → Option NodeRule → X → X
by_node cut None x = x
by_node cut (Some n) x = by_kind cut n.kind x

-- what goes out of node v where x goes out of the driver, over so many nodes at most
abbrev pub passed_on : {X : Type 0} → (RoiRule → X → X) → List NodeRule → (steps v : ℕ) → X → X
passed_on cut nodes steps v x = walked (λ w y. by_node cut (rule_at nodes w) y) nodes steps v x

-- what goes out of node v: in a graph no way from the driver has more nodes than there are
abbrev pub out_of : {X : Type 0} → (RoiRule → X → X) → List NodeRule → ℕ → X → X
out_of cut nodes v x = passed_on cut nodes (length nodes) v x
