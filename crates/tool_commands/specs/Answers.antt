-- What each status of a command says of the objects.
use Rattle.std.specs.Prelude.{◌≡◌, ◌≢◌, ◌⊎◌, ℕ, All, List, Option, None, Result, Ok, Err}
use Rattle.edge_traits.specs.Files.{Files}
use Rattle.edge_traits.specs.Written.{with_written}
use Rattle.graph_files.specs.OutFiles.{with_files}
use Rattle.tool_commands.specs.declared.status.Status.{Status}
use Rattle.tool_commands.specs.declared.status.Status.TheVariants.{Done, Usage, GraphText, GraphRule, StackBytes, Limit, Sizes, ReadFault, ShelfFault, OutFault}
use Rattle.tool_commands.specs.declared.status.Status.TheVariants.{OutOfMemory}
use Rattle.tool_commands.specs.Command.{Command}
use Rattle.tool_commands.specs.Left.{AreLeft}
use Rattle.tool_commands.specs.Outcomes.{Outcome, Leads}
use Rattle.tool_commands.specs.Printed.{IsCutShort}
use Rattle.tool_commands.specs.Works.{Work, IsBack, outcome_of}

-- what a command that answered so ends with
abbrev pub status_of : {A : Type 0} → Result A Status → Status
status_of (Ok x) = Done
status_of (Err status) = status

-- the statuses that the words and the files decide
abbrev pub IsRefusal : Status → Type 0
IsRefusal Usage = Unit {0}
IsRefusal GraphText = Unit {0}
IsRefusal (GraphRule fault) = Unit {0}
IsRefusal (StackBytes fault) = Unit {0}
IsRefusal (Limit fault) = Unit {0}
IsRefusal Sizes = Unit {0}
IsRefusal Done = ⊥
IsRefusal ReadFault = ⊥
IsRefusal ShelfFault = ⊥
IsRefusal OutFault = ⊥
IsRefusal OutOfMemory = ⊥

-- what the objects tell: the library its files, and the shelf and the sink what they told before the call and tell after it
pub record Objects : Type 0 where
  pub library : Option Files
  pub shelf_before : Option Files
  pub shelf_after : Option Files
  pub sink_before : Option (List ℕ)
  pub sink_after : Option (List ℕ)

-- the same in one line: the library, the shelf before and after, and the sink before and after
abbrev pub objects_of : Option Files → Option Files → Option Files → Option (List ℕ) → Option (List ℕ) → Objects
objects_of library shelf shelf_now sink sink_now =
    record { library = library; shelf_before = shelf; shelf_after = shelf_now; sink_before = sink; sink_after = sink_now }

-- shelf and sink are as they were
abbrev pub IsUntouched : Objects → Type 0
IsUntouched o = (o.shelf_after ≡ o.shelf_before) × (o.sink_after ≡ o.sink_before)

-- the files that were read lead to this status, and nothing was written
abbrev pub IsRefused : {A : Type 0} → Outcome A → Status → Objects → Type 0
IsRefused outcome status o = Leads o.library outcome (Err status) × IsUntouched o

-- the files of the work were written, and its print, and nothing else
pub record IsDone (outcome : Outcome Work) (o : Objects) : Type 0 where
  pub work : Work
  pub read : Leads o.library outcome (Ok work)
  pub files : o.shelf_after ≡ with_files o.shelf_before work.files
  pub back : All IsBack work.groups
  pub printed : o.sink_after ≡ with_written o.sink_before work.print

-- the files were begun and not all written to their ends, or all of them were written; and nothing was printed
pub record IsWorkBegun (outcome : Outcome Work) (o : Objects) : Type 0 where
  pub work : Work
  pub read : Leads o.library outcome (Ok work)
  pub begun : AreLeft o.shelf_before work.files work.run o.shelf_after ⊎ (o.shelf_after ≡ with_files o.shelf_before work.files)
  pub unprinted : o.sink_after ≡ o.sink_before

-- the files were written, and a proper front of the print
pub record IsPrintCutShort (outcome : Outcome Work) (o : Objects) : Type 0 where
  pub work : Work
  pub read : Leads o.library outcome (Ok work)
  pub files : o.shelf_after ≡ with_files o.shelf_before work.files
  pub printed : IsCutShort o.sink_before work.print o.sink_after

-- what stands on the shelf and in the sink after each status, and what it says of the files that were read
abbrev pub Ends : Status → Option Command → Objects → Type 0
Ends Done command o = IsDone (outcome_of command) o
Ends Usage command o = (command ≡ None) × IsUntouched o
Ends GraphText command o = IsRefused (outcome_of command) GraphText o
Ends (GraphRule fault) command o = IsRefused (outcome_of command) (GraphRule fault) o
Ends (StackBytes fault) command o = IsRefused (outcome_of command) (StackBytes fault) o
Ends (Limit fault) command o = IsRefused (outcome_of command) (Limit fault) o
Ends Sizes command o = IsRefused (outcome_of command) Sizes o
Ends ReadFault command o = (command ≢ None) × IsUntouched o
Ends ShelfFault command o = IsWorkBegun (outcome_of command) o
Ends OutFault command o = IsPrintCutShort (outcome_of command) o
Ends OutOfMemory command o = (command ≢ None) × (IsUntouched o ⊎ IsWorkBegun (outcome_of command) o)
