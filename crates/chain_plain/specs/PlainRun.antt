-- The plain run: a graph over a stack in one thread, where each node accepts all that its input passes on to it.
use Rattle.std.specs.Prelude.{ℕ, ◌-◌, ◌%◌, ◌==◌, List, length, filter, take, Option, Some, None}
use Rattle.std.specs.List.{range_with_len}
use Rattle.nd_base.specs.Array.{Array, StackValue}
use Rattle.nd_base.specs.declared.graph.Graph.{Graph}
use Rattle.nd_base.specs.declared.graph.Kind.{Kind}
use Rattle.nd_base.specs.declared.graph.Kind.TheVariants.{Roi, Stats, Circular, File, Scatter}
use Rattle.nd_base.specs.declared.graph.NodeRule.{NodeRule}
use Rattle.nd_base.specs.GraphRules.{input_of, rule_at}
use Rattle.trig_window.specs.Windows.{at_positions}
use Rattle.chain_plain.specs.Nodes.{walked}
use Rattle.chain_plain.specs.OneThread.{OneThread, one_thread, outputs}

-- how many of these nodes have this input
abbrev pub fed_by : List NodeRule → ℕ → ℕ
fed_by nodes u = length (filter (λ n. n.input == u) nodes)

-- What a node of this kind passes on to the child at this place of so many, of what goes out of it: a scatter node deals its arrays out to the
-- children in turn, and every other gives all of them to each.
abbrev pub kind_share : Kind → (place count : ℕ) → List ℕ → List ℕ
kind_share Scatter place count ks = at_positions (λ j. j % count == place) 0 ks
kind_share (Roi r) place count ks = ks
kind_share (Stats r) place count ks = ks
kind_share (Circular r) place count ks = ks
kind_share (File r) place count ks = ks

abbrev pub rule_share : Option NodeRule → (place count : ℕ) → List ℕ → List ℕ
rule_share None place count ks = ks
rule_share (Some n) place count ks = kind_share n.kind place count ks

-- what node u passes on to its child v, of what goes out of it: the children stand in the graph's order
abbrev pub share_of : List NodeRule → (u v : ℕ) → List ℕ → List ℕ
share_of nodes u v ks = rule_share (rule_at nodes u) (fed_by (take (v - 1) nodes) u) (fed_by nodes u) ks

-- what node v gets of what goes out of its input
abbrev pub share : List NodeRule → ℕ → List ℕ → List ℕ
share nodes v ks = share_of nodes (input_of nodes v) v ks

-- the positions that go out of node v, over so many nodes at most; the driver passes on every frame
abbrev pub passed_within : List NodeRule → List Array → (steps v : ℕ) → List ℕ
passed_within nodes arrays steps v = walked (λ w ks. outputs nodes arrays w (share nodes w ks)) nodes steps v (range_with_len 0 (length arrays))

-- the positions that go out of node v: in a graph no way from the driver has more nodes than there are
abbrev pub passed : Graph → StackValue → ℕ → List ℕ
passed g s v = passed_within g.nodes s.arrays (length g.nodes) v

-- the positions that the input of node v passes on to it
abbrev pub passed_to : Graph → StackValue → ℕ → List ℕ
passed_to g s v = share g.nodes v (passed g s (input_of g.nodes v))

-- the one-thread result of node v, on all that its input passes on to it
abbrev pub result_of : Graph → StackValue → ℕ → OneThread
result_of g s v = one_thread g.nodes s.arrays v (passed_to g s v)
