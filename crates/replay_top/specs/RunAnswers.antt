-- What each status of a run says of its log and of the objects.
use Rattle.std.specs.Prelude.{◌≡◌, ◌⊎◌, ℕ, Bool, true, false, List, [], ◌++◌, Option, None, Some, Ok, Err}
use Rattle.nd_base.specs.GraphRules.{IsGraph}
use Rattle.edge_traits.specs.Files.{Files}
use Rattle.edge_traits.specs.Ticks.{Coming}
use Rattle.edge_traits.specs.Written.{with_written}
use Rattle.chain_plain.specs.Plans.{plan_of}
use Rattle.flow_journal.specs.Journal.{Journal}
use Rattle.flow_journal.specs.Pasts.{Past}
use Rattle.board_rules.specs.RunMeasures.{run_setting}
use Rattle.board_rules.specs.Storage.{is_never_regrown}
use Rattle.run_laws.specs.Results.{IsFinishedRun}
use Rattle.run_laws.specs.RunHolds.{RunHolds}
use Rattle.run_report.specs.Report.{report}
use Rattle.run_report.specs.Text.{report_text}
use Rattle.graph_conf.specs.Loads.{limit_fault}
use Rattle.flow_saver.specs.KeptNames.{AreKeptBut}
use Rattle.flow_run.specs.Strangers.{AreOwnMoves}
use Rattle.flow_run.specs.Ticks.{IsFedByTheClock}
use Rattle.flow_journal.specs.Setting.{Setting}
use Rattle.flow_watch.specs.SeenLines.{AreSeenLines}
use Rattle.tool_commands.specs.declared.status.Status.{Status}
use Rattle.tool_commands.specs.declared.status.Status.TheVariants.{Done, Usage, GraphText, GraphRule, StackBytes, Limit, Sizes, ReadFault, ShelfFault, OutFault}
use Rattle.tool_commands.specs.declared.status.Status.TheVariants.{OutOfMemory}
use Rattle.tool_commands.specs.Answers.{Objects, objects_of}
use Rattle.tool_commands.specs.Causes.{Counts, IsCause}
use Rattle.tool_commands.specs.Outcomes.{Leads}
use Rattle.tool_commands.specs.Printed.{IsCutShort}
use Rattle.replay_top.specs.RunCommand.{RunCommand, ReadsFiles}
use Rattle.replay_top.specs.RunFiles.{HoldsFiles, AreTorn, HaveGroupsBack, IsRunName}
use Rattle.replay_top.specs.RunSources.{run_sources, sources_of}
use Rattle.tool_commands.specs.Works.{Source}

-- what the objects of a run tell: those of a command, and the clock its answers to come before the run and after it
pub record RunObjects : Type 0 where
  pub objects : Objects
  pub coming : Option Coming
  pub later : Option Coming

-- the same in one line, with the clock before and after at its end
abbrev pub run_objects_of : Option Files → Option Files → Option Files → Option (List ℕ) → Option (List ℕ) → Option Coming → Option Coming
    → RunObjects
run_objects_of library shelf shelf_now sink sink_now coming later =
    record { objects = objects_of library shelf shelf_now sink sink_now; coming = coming; later = later }

-- The log is a finished history of the graph and the stack that were read, which meet the rules of graphs and pass no limit. Unless a role left for want of
-- memory, each role has made its own moves; each load was handed the clock's next answer; and no storage was made anew. All points of finished runs hold of it.
pub record IsLogOf (o : RunObjects) (c : RunCommand) (source : Source) (P : Past) : Type 0 where
  pub read : Leads o.objects.library (run_sources c.source) (Ok source)
  pub sound : IsGraph source.graph
  pub within : limit_fault source.graph source.stack ≡ None
  pub run : IsFinishedRun (run_setting source.graph source.stack) P
  pub roles : AreOwnMoves (run_setting source.graph source.stack) P
  pub ticks : IsFedByTheClock (run_setting source.graph source.stack) P o.coming o.later
  pub storage : is_never_regrown P ≡ true
  pub points : RunHolds source.graph source.stack (run_setting source.graph source.stack) P

-- the report of a run of this log
abbrev pub run_print : Source → Past → List ℕ
run_print source P = report_text source.graph (report (plan_of source.graph source.stack) P)

-- what is told before it: how far the run had come while it went on, where it is watched, and else nothing
abbrev pub IsSeen : (watched : Bool) → Setting → Past → List ℕ → Type 0
IsSeen false s P seen = seen ≡ []
IsSeen true s P seen = AreSeenLines s P seen

-- what a run of this log prints
pub record Prints (watched : Bool) (source : Source) (P : Past) (text : List ℕ) : Type 0 where
  pub seen : List ℕ
  pub before : IsSeen watched (run_setting source.graph source.stack) P seen
  pub whole : text ≡ seen ++ run_print source P

-- the files of the log were written, and what it prints, and nothing else
pub record IsRunDone (o : RunObjects) (c : RunCommand) (P : Past) : Type 0 where
  pub source : Source
  pub log : IsLogOf o c source P
  pub files : HoldsFiles c.logs source c.prefix P o.objects.shelf_before o.objects.shelf_after
  pub back : HaveGroupsBack source P
  pub text : List ℕ
  pub prints : Prints c.watched source P text
  pub printed : o.objects.sink_after ≡ with_written o.objects.sink_before text

-- the files of the log were written, and a proper front of what it prints
pub record IsRunCutShort (o : RunObjects) (c : RunCommand) (P : Past) : Type 0 where
  pub source : Source
  pub log : IsLogOf o c source P
  pub files : HoldsFiles c.logs source c.prefix P o.objects.shelf_before o.objects.shelf_after
  pub back : HaveGroupsBack source P
  pub text : List ℕ
  pub prints : Prints c.watched source P text
  pub printed : IsCutShort o.objects.sink_before text o.objects.sink_after

-- the shelf failed while the files of the log were written, and nothing was printed
pub record IsRunTorn (o : RunObjects) (c : RunCommand) (P : Past) : Type 0 where
  pub source : Source
  pub log : IsLogOf o c source P
  pub files : AreTorn c source P o.objects.shelf_before o.objects.shelf_after
  pub unprinted : o.objects.sink_after ≡ o.objects.sink_before

-- whatever was written and printed: this is the log, of what was read
abbrev pub HasLog : RunObjects → RunCommand → Past → Type 0
HasLog o c P = (source : Source) × IsLogOf o c source P

-- a run with one of these three statuses has finished, and has its log
abbrev pub HasFinished : Status → Type 0
HasFinished Done = Unit {0}
HasFinished ShelfFault = Unit {0}
HasFinished OutFault = Unit {0}
HasFinished Usage = ⊥
HasFinished GraphText = ⊥
HasFinished (GraphRule fault) = ⊥
HasFinished (StackBytes fault) = ⊥
HasFinished (Limit fault) = ⊥
HasFinished Sizes = ⊥
HasFinished ReadFault = ⊥
HasFinished OutOfMemory = ⊥

-- there is a command and a log, and this holds of them
abbrev pub OfLog : (RunCommand → Past → Type 0) → Option RunCommand → Option Journal → Type 0
OfLog P (Some c) (Some log) = P c log.past
OfLog P None log = ⊥
OfLog P (Some c) None = ⊥

-- the files, the output and the clock are as they were
abbrev pub IsRunUntouched : RunObjects → Type 0
IsRunUntouched o = (o.objects.shelf_after ≡ o.objects.shelf_before) × (o.objects.sink_after ≡ o.objects.sink_before) × (o.later ≡ o.coming)

-- the files that were read lead to this refusal, and nothing else changed
abbrev pub IsRunRefused : Option RunCommand → Status → RunObjects → Type 0
IsRunRefused command status o = Leads o.objects.library (sources_of command) (Err status) × IsRunUntouched o

-- a run over what was read was begun: every name but those of its files is as before, and nothing was printed
pub record IsRunBegun (o : RunObjects) (c : RunCommand) : Type 0 where
  pub source : Source
  pub read : Leads o.objects.library (run_sources c.source) (Ok source)
  pub files : AreKeptBut (IsRunName c source.graph) o.objects.shelf_before o.objects.shelf_after
  pub unprinted : o.objects.sink_after ≡ o.objects.sink_before

-- memory was wanting, before a run was begun or then
abbrev pub IsRunStopped : Option RunCommand → RunObjects → Type 0
IsRunStopped None o = ⊥
IsRunStopped (Some c) o = IsRunUntouched o ⊎ IsRunBegun o c

-- how a run ends; without a log it was refused, the library failed, or memory was wanting
abbrev pub RunEnds : Status → Option Journal → Option RunCommand → RunObjects → Type 0
RunEnds Done log command o = OfLog (IsRunDone o) command log
RunEnds ShelfFault log command o = OfLog (IsRunTorn o) command log
RunEnds OutFault log command o = OfLog (IsRunCutShort o) command log
RunEnds Usage log command o = (log ≡ None) × (command ≡ None) × IsRunUntouched o
RunEnds GraphText log command o = (log ≡ None) × IsRunRefused command GraphText o
RunEnds (GraphRule fault) log command o = (log ≡ None) × IsRunRefused command (GraphRule fault) o
RunEnds (StackBytes fault) log command o = (log ≡ None) × IsRunRefused command (StackBytes fault) o
RunEnds (Limit fault) log command o = (log ≡ None) × IsRunRefused command (Limit fault) o
RunEnds Sizes log command o = (log ≡ None) × IsRunRefused command Sizes o
RunEnds ReadFault log command o = (log ≡ None) × ReadsFiles command × IsRunUntouched o
RunEnds OutOfMemory log command o = (log ≡ None) × IsRunStopped command o

-- the counts rise as with a plain run, but that want of memory may come after the shelf has failed
abbrev pub IsRunCause : Status → Counts → Counts → Type 0
IsRunCause OutOfMemory before after = (after.library ≡ before.library) × (after.sink ≡ before.sink)
IsRunCause Done before after = IsCause Done before after
IsRunCause Usage before after = IsCause Usage before after
IsRunCause GraphText before after = IsCause GraphText before after
IsRunCause (GraphRule fault) before after = IsCause (GraphRule fault) before after
IsRunCause (StackBytes fault) before after = IsCause (StackBytes fault) before after
IsRunCause (Limit fault) before after = IsCause (Limit fault) before after
IsRunCause Sizes before after = IsCause Sizes before after
IsRunCause ReadFault before after = IsCause ReadFault before after
IsRunCause ShelfFault before after = IsCause ShelfFault before after
IsRunCause OutFault before after = IsCause OutFault before after
