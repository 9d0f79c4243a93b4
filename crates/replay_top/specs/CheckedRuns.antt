-- What `run-log` left, `check` accepts.
use Rattle.std.specs.Prelude.{◌≡◌, ◌⊎◌, ℕ, true, List, Option, Some, Ok}
use Rattle.std.specs.FinMap as map
use Rattle.edge_traits.specs.Faults.{Rose}
use Rattle.edge_traits.specs.Files.{Files}
use Rattle.flow_journal.specs.Pasts.{Past}
use Rattle.tool_commands.specs.Outcomes.{Leads}
use Rattle.tool_commands.specs.Works.{sources}
use Rattle.tool_commands.specs.declared.status.Status.TheVariants.{Done, ReadFault, OutFault, OutOfMemory}
use Rattle.check_command.specs.CheckAnswers.{CommandEnds, IsCheckCause}
use Rattle.check_command.specs.CheckCommand.{CheckCommand}
use Rattle.check_command.specs.declared.status.CheckStatus.{CheckStatus}
use Rattle.check_command.specs.declared.status.CheckStatus.TheVariants.{Common}
use Rattle.replay_top.specs.LogFiles.{log_name}
use Rattle.replay_top.specs.RunAnswers.{RunObjects, IsRunDone}
use Rattle.replay_top.specs.RunCommand.{RunCommand}

-- the check of a run's log and files, by its graph and its stack under these names
abbrev pub check_of : (graph stack prefix : List ℕ) → CheckCommand
check_of graph stack prefix = record { graph = graph; stack = stack; log = log_name prefix; prefix = prefix }

-- each file of these is among the others, with the same bytes
abbrev pub AreAmong : (held files : Files) → Type 0
AreAmong held files = (name bytes : List ℕ) → map.get held name ≡ Some bytes → map.get files name ≡ Some bytes

-- accepted; or without an answer, as memory was wanting, or the count of faults of the library or of the sink rose
abbrev pub IsAccepted : CheckStatus → (library library_now sink sink_now : ℕ) → Type 0
IsAccepted status library library_now sink sink_now =
    (status ≡ Common Done)
    ⊎ (status ≡ Common OutOfMemory)
    ⊎ ((status ≡ Common OutFault) × Rose sink sink_now)
    ⊎ ((status ≡ Common ReadFault) × Rose library library_now)

-- Where `run-log` did its work and its shelf told what it holds, a check over a library that holds this, and the same graph and stack, accepts it: where
-- neither the library nor the sink fails it says `Done`, or memory was wanting.
abbrev pub ChecksAcceptRuns : Type 0
ChecksAcceptRuns =
    (o : RunObjects) (c : RunCommand) (P : Past) (done : IsRunDone o c P) → c.logs ≡ true
    → (held files : Files) → o.objects.shelf_after ≡ Some held → AreAmong held files
    → (graph stack : List ℕ) → Leads (Some files) (sources graph stack) (Ok done.source)
    → (status : CheckStatus) (sink sink_now : Option (List ℕ)) → CommandEnds status (check_of graph stack c.prefix) (Some files) sink sink_now
    → (library library_now faults faults_now : ℕ) → IsCheckCause status library library_now faults faults_now
    → IsAccepted status library library_now faults faults_now
