-- What the plain run says of each node: it acts on what its input passes on to it.
use Rattle.std.specs.Prelude.{◌≡◌, ℕ, length, Some}
use Rattle.std.specs.List.{range_with_len}
use Rattle.nd_base.specs.Array.{StackValue}
use Rattle.nd_base.specs.declared.graph.Graph.{Graph}
use Rattle.nd_base.specs.declared.graph.NodeRule.{NodeRule}
use Rattle.nd_base.specs.GraphRules.{IsGraph, rule_at}
use Rattle.chain_plain.specs.OneThread.{one_thread, outputs, arrays_out}
use Rattle.chain_plain.specs.PlainRun.{share_of, passed, result_of}

-- all frames of the stack go out of the driver, in their order
abbrev pub DriverPassesOnAll : Type 0
DriverPassesOnAll = (g : Graph) (s : StackValue) → passed g s 0 ≡ range_with_len 0 (length s.arrays)

-- what goes out of a node is what its rule passes on of its share of what goes out of its input
abbrev pub NodesPassOnTheirInputs : Type 0
NodesPassOnTheirInputs =
    (g : Graph) (s : StackValue) (v : ℕ) (n : NodeRule) → IsGraph g → rule_at g.nodes v ≡ Some n
    → passed g s v ≡ outputs g.nodes s.arrays v (share_of g.nodes n.input v (passed g s n.input))

-- and its result, of which its files are made, is its one-thread result on just that
abbrev pub ResultsAreOfTheInputs : Type 0
ResultsAreOfTheInputs =
    (g : Graph) (s : StackValue) (v : ℕ) (n : NodeRule) → IsGraph g → rule_at g.nodes v ≡ Some n
    → result_of g s v ≡ one_thread g.nodes s.arrays v (share_of g.nodes n.input v (passed g s n.input))

-- whose arrays are those that the node makes at the positions that go out of it
abbrev pub ResultsAreOfThePassed : Type 0
ResultsAreOfThePassed =
    (g : Graph) (s : StackValue) (v : ℕ) (n : NodeRule) → IsGraph g → rule_at g.nodes v ≡ Some n
    → (result_of g s v).arrays ≡ arrays_out g.nodes s.arrays v (passed g s v)
