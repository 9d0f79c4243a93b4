-- LAWS: what went out of a node is the one-thread result of what it accepted for good.
use Rattle.std.specs.Prelude.{◌≡◌, ℕ, ◌≤◌, ◌⊎◌, true, false, List, map, Some}
use Rattle.std.specs.List.{All}
use Rattle.std.specs.List.Sorted.{IsPermutation}
use Rattle.nd_base.specs.Array.{Array}
use Rattle.nd_base.specs.declared.frame.FrameName.{FrameName}
use Rattle.nd_base.specs.declared.graph.Graph.{Graph}
use Rattle.nd_base.specs.declared.graph.NodeRule.{NodeRule}
use Rattle.nd_base.specs.declared.plan.Maker.{Maker}
use Rattle.nd_base.specs.GraphRules.{IsGraph, is_parallel, rule_at}
use Rattle.trig_window.specs.Windows.{passed_items}
use Rattle.chain_plain.specs.Nodes.{maker_at}
use Rattle.flow_journal.specs.Setting.{Setting, Watches, node, is_node, may_sort, is_sorted}
use Rattle.flow_journal.specs.Pasts.{Past}
use Rattle.flow_journal.specs.Unsaved.{standing_saves, is_file}
use Rattle.flow_journal.specs.Accepted.{accepted, emitted}
use Rattle.flow_journal.specs.Histories.{is_history}
use Rattle.flow_journal.specs.RunSetting.{setting_of}
use Rattle.run_laws.specs.Results.{IsFinishedRun, put_out, indices, AreInOrder, AreInSomeOrder}
use Rattle.flow_journal.specs.ResultNames.{result_name}

-- a file node saved what it accepted for good, in this order
abbrev pub FilesSaveTheAccepted : Type 0
FilesSaveTheAccepted =
    (s : Setting) (P : Past) (v : ℕ) → is_file (node s v).work ≡ true → (node s v).threads ≤ 1 → IsFinishedRun s P → standing_saves v P ≡ accepted s v P

-- a region, statistics or scatter node of one thread without a sort list emitted its results of these, in this order
abbrev pub OneThreadEmitsTheAccepted : Type 0
OneThreadEmitsTheAccepted =
    (s : Setting) (P : Past) (v : ℕ) → is_node s v ≡ true → may_sort (node s v).work ≡ true → is_sorted s v ≡ false → (node s v).threads ≤ 1 → IsFinishedRun s P
    → emitted v P ≡ map (result_name s v) (accepted s v P)

-- any region, statistics or scatter node emitted its results of these, in some order
abbrev pub EmissionsPermuteTheAccepted : Type 0
EmissionsPermuteTheAccepted =
    (s : Setting) (P : Past) (v : ℕ) → is_node s v ≡ true → may_sort (node s v).work ≡ true → IsFinishedRun s P
    → IsPermutation (indices (accepted s v P)) (indices (emitted v P))

-- a circular node emitted those that have a position in a window, in this order
abbrev pub WindowsEmitTheAccepted : Type 0
WindowsEmitTheAccepted =
    (s : Setting) (P : Past) (v pre post preset : ℕ) → (node s v).work ≡ Watches pre post preset → 1 ≤ post → (node s v).threads ≤ 1 → IsFinishedRun s P
    → emitted v P ≡ passed_items pre post preset (map (λ (a : FrameName). s.fires v a.index) (accepted s v P)) (accepted s v P)

-- IN A RUN: what a node accepted has the name of its input's maker
abbrev pub AcceptedAreOfTheInput : Type 0
AcceptedAreOfTheInput =
    (g : Graph) (makers : List Maker) (arrays : List Array) (P : Past) (v : ℕ) (n : NodeRule) → IsGraph g → rule_at g.nodes v ≡ Some n
    → is_history (setting_of g makers arrays) P ≡ true → All (λ a. a.maker ≡ maker_at g.nodes n.input) (accepted (setting_of g makers arrays) v P)

-- and what went out that of its own
abbrev pub OutputsAreOfTheNode : Type 0
OutputsAreOfTheNode =
    (g : Graph) (makers : List Maker) (arrays : List Array) (P : Past) (v : ℕ) (n : NodeRule) → IsGraph g → rule_at g.nodes v ≡ Some n
    → IsFinishedRun (setting_of g makers arrays) P → All (λ a. a.maker ≡ maker_at g.nodes v) (put_out (setting_of g makers arrays) v P)

-- the node has one thread and no sort list, as each has that is neither a region nor a statistics node
abbrev pub KeepsOrder : NodeRule → Type 0
KeepsOrder n = (is_parallel n.kind ≡ false) ⊎ ((n.threads ≡ 1) × (n.sort ≡ 0))

-- such a node keeps the order of the accepted list
abbrev pub OutputsInOrder : Type 0
OutputsInOrder =
    (g : Graph) (makers : List Maker) (arrays : List Array) (P : Past) (v : ℕ) (n : NodeRule) → IsGraph g → rule_at g.nodes v ≡ Some n → KeepsOrder n
    → IsFinishedRun (setting_of g makers arrays) P
    → AreInOrder g.nodes arrays v (accepted (setting_of g makers arrays) v P) (put_out (setting_of g makers arrays) v P)

-- and at every other node it is that list in some order
abbrev pub OutputsInSomeOrder : Type 0
OutputsInSomeOrder =
    (g : Graph) (makers : List Maker) (arrays : List Array) (P : Past) (v : ℕ) (n : NodeRule) → IsGraph g → rule_at g.nodes v ≡ Some n
    → IsFinishedRun (setting_of g makers arrays) P
    → AreInSomeOrder g.nodes arrays v (accepted (setting_of g makers arrays) v P) (put_out (setting_of g makers arrays) v P)
