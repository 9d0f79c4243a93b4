-- What a run leaves on the shelf, by its log: the groups of its file nodes, then the rows of its statistics nodes, and then the text of
-- the log.
use Rattle.std.specs.Prelude.{◌≡◌, ◌≢◌, ℕ, Bool, true, false, List, [], ◌++◌, Option, Some}
use Rattle.nd_base.specs.declared.graph.FileRule.{FileRule}
use Rattle.nd_base.specs.declared.graph.Graph.{Graph}
use Rattle.nd_base.specs.declared.graph.Kind.TheVariants.{File, Stats}
use Rattle.nd_base.specs.declared.graph.NodeRule.{NodeRule}
use Rattle.nd_base.specs.declared.graph.StatsRule.{StatsRule}
use Rattle.nd_base.specs.GraphRules.{rule_at}
use Rattle.edge_traits.specs.Files.{Files, with_file}
use Rattle.nd_stack.specs.RoundTrip.{ReadsBack}
use Rattle.flow_journal.specs.Pasts.{Past}
use Rattle.flow_journal.specs.Unsaved.{standing_saves}
use Rattle.run_laws.specs.Results.{contents}
use Rattle.graph_files.specs.BegunFiles.{AreBegun}
use Rattle.graph_files.specs.Groups.{group_of}
use Rattle.graph_files.specs.OutFiles.{OutFile, file_shape, stats_name}
use Rattle.flow_saver.specs.Ending.{IsTornHistory}
use Rattle.flow_saver.specs.HistoryFiles.{HoldsFilesOf, HoldsGroupsOf, rows_files}
use Rattle.flow_saver.specs.KeptNames.{IsGroupName}
use Rattle.replay_top.specs.LogFiles.{log_name, log_text, log_files, IsReadable}
use Rattle.replay_top.specs.RunCommand.{RunCommand}
use Rattle.tool_commands.specs.Works.{Source}

-- what is written once the groups stand: the rows, and the log's text last
abbrev pub later_files : RunCommand → Source → Past → List OutFile
later_files c source P = rows_files source.graph source.stack c.prefix P ++ log_files c.logs c.prefix P

-- the files of the history, and for `run-log` the log's text after them, which reads back as the log, also where a statistics node is named `log`
abbrev pub HoldsFiles : (logs : Bool) → Source → (prefix : List ℕ) → Past → (before held : Option Files) → Type 0
HoldsFiles false source prefix P before held = HoldsFilesOf source.graph source.stack prefix P before held
HoldsFiles true source prefix P before held =
    (rows : Option Files) × HoldsFilesOf source.graph source.stack prefix P before rows × (held ≡ with_file rows (log_name prefix) (log_text P))
    × IsReadable P

-- the file of each group reads back as the arrays that were saved there
abbrev pub HaveGroupsBack : Source → Past → Type 0
HaveGroupsBack source P =
    (v i : ℕ) (n : NodeRule) (r : FileRule) → rule_at source.graph.nodes v ≡ Some n → n.kind ≡ File r
    → group_of r.count i (contents source.graph.nodes source.stack.arrays (standing_saves v P)) ≢ []
    → ReadsBack (file_shape source.graph source.stack v) (group_of r.count i (contents source.graph.nodes source.stack.arrays (standing_saves v P)))

-- What stands where the shelf failed: on a group of a file node; or, after all groups, on the files of rows and text, of which the first stand whole,
-- and none after the one that it failed on was begun.
pub data AreTorn (c : RunCommand) (source : Source) (P : Past) (before held : Option Files) : Type 0 where
  AtGroups : IsTornHistory source.graph source.stack c.prefix P before held → AreTorn c source P before held
  AfterGroups : (groups : Option Files) → HoldsGroupsOf source.graph source.stack c.prefix P before groups → AreBegun groups (later_files c source P) held
      → AreTorn c source P before held

-- The names that a run over this graph may write, whatever comes of it: those of the groups of its file nodes, of the rows of its statistics nodes, and for
-- `run-log` that of the log.
pub data IsRunName (c : RunCommand) (g : Graph) : List ℕ → Type 0 where
  GroupName : (name : List ℕ) → IsGroupName g c.prefix name → IsRunName c g name
  RowsName : (v : ℕ) (n : NodeRule) (r : StatsRule) → rule_at g.nodes v ≡ Some n → n.kind ≡ Stats r → IsRunName c g (stats_name c.prefix n.name)
  LogName : c.logs ≡ true → IsRunName c g (log_name c.prefix)
