-- READING BACK: the arrays of each group of a history read back from their file.
use Rattle.std.specs.Prelude.{◌≡◌, ◌≢◌, ℕ, true, [], None, Some}
use Rattle.nd_base.specs.Array.{StackValue}
use Rattle.nd_base.specs.declared.graph.FileRule.{FileRule}
use Rattle.nd_base.specs.declared.graph.Graph.{Graph}
use Rattle.nd_base.specs.declared.graph.Kind.TheVariants.{File}
use Rattle.nd_base.specs.declared.graph.NodeRule.{NodeRule}
use Rattle.nd_base.specs.GraphRules.{IsGraph, rule_at}
use Rattle.nd_stack.specs.KeptStacks.{IsKeptStack}
use Rattle.nd_stack.specs.RoundTrip.{ReadsBack}
use Rattle.graph_conf.specs.Loads.{limit_fault}
use Rattle.flow_journal.specs.Pasts.{Past}
use Rattle.flow_journal.specs.Histories.{is_history}
use Rattle.flow_journal.specs.Unsaved.{standing_saves}
use Rattle.board_rules.specs.RunMeasures.{run_setting}
use Rattle.run_laws.specs.Results.{contents}
use Rattle.graph_files.specs.Groups.{group_of}
use Rattle.graph_files.specs.OutFiles.{file_shape}

-- in every history of a run that no limit refuses, each group of a file node that has an array
abbrev pub GroupsReadBack : Type 0
GroupsReadBack =
    (g : Graph) (stack : StackValue) (P : Past) (v i : ℕ) (n : NodeRule) (r : FileRule) → IsGraph g → IsKeptStack stack → limit_fault g stack ≡ None
    → is_history (run_setting g stack) P ≡ true → rule_at g.nodes v ≡ Some n → n.kind ≡ File r
    → group_of r.count i (contents g.nodes stack.arrays (standing_saves v P)) ≢ []
    → ReadsBack (file_shape g stack v) (group_of r.count i (contents g.nodes stack.arrays (standing_saves v P)))
