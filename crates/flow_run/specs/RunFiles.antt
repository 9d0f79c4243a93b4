-- What stands on the shelf after a run.
use Rattle.std.specs.Prelude.{◌≡◌, ℕ, Bool, true, false, List, Option, None, Some}
use Rattle.nd_base.specs.Array.{StackValue}
use Rattle.nd_base.specs.declared.graph.Graph.{Graph}
use Rattle.edge_traits.specs.Files.{Files}
use Rattle.flow_journal.specs.Pasts.{Past}
use Rattle.flow_saver.specs.HistoryFiles.{HoldsGroupsOf}
use Rattle.flow_saver.specs.Ending.{IsTornHistory}
use Rattle.flow_saver.specs.KeptNames.{IsGroupName, AreKeptBut}
use Rattle.flow_saver.specs.Remaining.{IsSavingAlone, HasUnsavedAlone}
use Rattle.flow_saver.specs.declared.piece.DuePiece.{DuePiece}
use Rattle.graph_files.specs.NodeFiles.{NodeFile}
use Rattle.graph_files.specs.OpenFiles.{file_nodes}
use Rattle.board_rules.specs.States.{BoardState}
use Rattle.frame_store.specs.Sealed.{Sealed}

-- what the role that saves left of a run: its files, and a piece in its hand
abbrev pub SaverLeaves : Graph → StackValue → (prefix : List ℕ) → (before : Option Files) → Option (DuePiece Sealed)
    → BoardState → List NodeFile → (fault : Bool)
    → (held : Option Files) → Type 0
SaverLeaves g stack prefix before None b xs fault held = IsSavingAlone g stack prefix before b xs fault held
SaverLeaves g stack prefix before (Some due) b xs fault held = HasUnsavedAlone g stack prefix before b xs fault held due

-- the groups' files of the log, where the shelf hasn't failed, and else what was written of them
abbrev pub HasSavedRun : Graph → StackValue → (prefix : List ℕ) → Past → (before : Option Files) → (fault : Bool) → (held : Option Files) → Type 0
HasSavedRun g stack prefix P before false held = HoldsGroupsOf g stack prefix P before held
HasSavedRun g stack prefix P before true held = IsTornHistory g stack prefix P before held

-- whatever comes of a run whose files began as these: every name but those of its groups is as before
abbrev pub HasOnlySaved : Graph → StackValue → (began : List NodeFile) → (before held : Option Files) → Type 0
HasOnlySaved g stack began before held = (prefix : List ℕ) → began ≡ file_nodes g stack prefix → AreKeptBut (IsGroupName g prefix) before held
