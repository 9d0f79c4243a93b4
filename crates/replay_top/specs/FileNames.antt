-- No two files have one name.
use Rattle.std.specs.Prelude.{◌≡◌, ◌≢◌, ℕ, ◌<◌, ◌^◌, List, AllPairs, Option, Some, Ok, codes}
use Rattle.nd_base.specs.declared.graph.Graph.{Graph}
use Rattle.nd_base.specs.declared.graph.NodeRule.{NodeRule}
use Rattle.nd_base.specs.GraphRules.{IsGraph, rule_at}
use Rattle.edge_traits.specs.Files.{Files}
use Rattle.graph_files.specs.OutFiles.{OutFile, group_name, stats_name}
use Rattle.tool_commands.specs.Command.{Command}
use Rattle.replay_top.specs.LogFiles.{log_name}
use Rattle.tool_commands.specs.Outcomes.{Leads}
use Rattle.tool_commands.specs.Works.{Work, outcome_of}

-- no two of these files have one name
abbrev pub HaveOwnNames : List OutFile → Type 0
HaveOwnNames files = AllPairs (λ a b. a.name ≢ b.name) files

-- nor of those that a command writes, over what it read
abbrev pub CommandsHaveOwnNames : Type 0
CommandsHaveOwnNames = (told : Option Files) (command : Option Command) (work : Work) → Leads told (outcome_of command) (Ok work) → HaveOwnNames work.files

-- two groups of one name are one group of one node, whoever writes them
abbrev pub GroupsHaveOwnNames : Type 0
GroupsHaveOwnNames =
    (g : Graph) (prefix : List ℕ) (v w i j : ℕ) (m n : NodeRule) → IsGraph g → rule_at g.nodes v ≡ Some m → rule_at g.nodes w ≡ Some n
    → i < 2 ^ 64 → j < 2 ^ 64 → group_name prefix m.name i ≡ group_name prefix n.name j → (v ≡ w) × (i ≡ j)

-- and two files of rows of one name are those of one node
abbrev pub RowsHaveOwnNames : Type 0
RowsHaveOwnNames =
    (g : Graph) (prefix : List ℕ) (v w : ℕ) (m n : NodeRule) → IsGraph g → rule_at g.nodes v ≡ Some m → rule_at g.nodes w ≡ Some n
    → stats_name prefix m.name ≡ stats_name prefix n.name → v ≡ w

-- no group has the name of a file of rows, nor that of a log
abbrev pub GroupsAreNoTexts : Type 0
GroupsAreNoTexts = (prefix m n : List ℕ) (i : ℕ) → (group_name prefix m i ≢ stats_name prefix n) × (group_name prefix m i ≢ log_name prefix)

-- and a file of rows has a log's name only where its node is named `log`
abbrev pub OnlyLogsMeetTheLog : Type 0
OnlyLogsMeetTheLog = (prefix n : List ℕ) → stats_name prefix n ≡ log_name prefix → n ≡ codes "log"
