-- What is left to save once all roles have ended: the last role has the board alone.
use Rattle.std.specs.Prelude.{◌≡◌, ◌≢◌, ℕ, ◌<◌, ◌==◌, Bool, true, false, List, [], ◌++◌, length, Option}
use Rattle.std.specs.List.{list_all}
use Rattle.nd_base.specs.Array.{StackValue}
use Rattle.nd_base.specs.declared.graph.Graph.{Graph}
use Rattle.edge_traits.specs.Files.{Files}
use Rattle.frame_store.specs.Sealed.{Sealed}
use Rattle.flow_journal.specs.declared.entry.Entry.{Entry}
use Rattle.flow_journal.specs.declared.entry.Entry.TheVariants.{Save, Saved}
use Rattle.flow_journal.specs.Setting.{Setting, last_role}
use Rattle.flow_journal.specs.Histories.{is_history}
use Rattle.flow_journal.specs.Unsaved.{unsaved}
use Rattle.board_rules.specs.States.{BoardState, past}
use Rattle.board_rules.specs.Movers.{moves_by}
use Rattle.board_rules.specs.Storage.{has_lost}
use Rattle.board_rules.specs.RunMeasures.{run_setting}
use Rattle.flow_roles.specs.Lasts.{fresh_said, said_other}
use Rattle.flow_roles.specs.Passes.{Pass, only_drain_saves}
use Rattle.flow_drain.specs.Drains.{IsDrained}
use Rattle.graph_files.specs.NodeFiles.{NodeFile}
use Rattle.flow_saver.specs.declared.piece.DuePiece.{DuePiece}
use Rattle.flow_saver.specs.declared.saving.Step.{Step}
use Rattle.flow_saver.specs.declared.saving.Step.TheVariants.{Nothing, Wrote, Wants}
use Rattle.flow_saver.specs.Saver.{IsSaving, HasUnsaved, IsToGiveBack}

-- MOVES

-- an entry of the last role's that saves
abbrev pub is_rest : Setting → Entry → Bool
is_rest s (Save r v m k g) = r == last_role s
is_rest s (Saved r v m k) = r == last_role s
is_rest s _ = false

-- such moves, and no others, lead from the one board to the other, and nothing stays away with them
abbrev pub RestMoves : Setting → (old new : BoardState) → Type 0
RestMoves s old new = (added : BoardState) × (new ≡ added ++ old) × (list_all (is_rest s) (past added) ≡ true) × (has_lost added ≡ false)

-- THE LAST ROLE ON A BOARD THAT IT HAS ALONE

-- what its pass would say: it has seen all of the log, and made its moves there
abbrev pub alone : Setting → BoardState → Pass
alone s b = record { role = last_role s; said = said_other fresh_said; seen = b; made = moves_by (last_role s) b }

-- Between two pieces: the files are those of the pieces that the log gave back, since the shelf had these. After a fault they are those of what was
-- given back before it, and the torn name.
pub record IsSavingAlone (g : Graph) (stack : StackValue) (prefix : List ℕ) (before : Option Files) (b : BoardState) (xs : List NodeFile)
    (fault : Bool) (held : Option Files) : Type 0 where
  pub legal : is_history (run_setting g stack) (past b) ≡ true
  pub drained : only_drain_saves (run_setting g stack) (past b) ≡ true
  pub made : BoardState
  pub saving : IsSaving g stack (record { prefix = prefix; made = made; held = before }) (last_role (run_setting g stack))
      (alone (run_setting g stack) b) xs fault held

-- with a piece in hand that isn't written
pub record HasUnsavedAlone (g : Graph) (stack : StackValue) (prefix : List ℕ) (before : Option Files) (b : BoardState) (xs : List NodeFile)
    (fault : Bool) (held : Option Files) (due : DuePiece Sealed) : Type 0 where
  pub legal : is_history (run_setting g stack) (past b) ≡ true
  pub drained : only_drain_saves (run_setting g stack) (past b) ≡ true
  pub made : BoardState
  pub unsaved : HasUnsaved g stack (record { prefix = prefix; made = made; held = before }) (last_role (run_setting g stack))
      (alone (run_setting g stack) b) xs fault held due

-- with a piece in hand that is to be given back
pub record IsToGiveBackAlone (g : Graph) (stack : StackValue) (prefix : List ℕ) (before : Option Files) (b : BoardState) (xs : List NodeFile)
    (fault : Bool) (held : Option Files) (piece : Sealed) : Type 0 where
  pub legal : is_history (run_setting g stack) (past b) ≡ true
  pub drained : only_drain_saves (run_setting g stack) (past b) ≡ true
  pub made : BoardState
  pub to_give : IsToGiveBack g stack (record { prefix = prefix; made = made; held = before }) (last_role (run_setting g stack))
      (alone (run_setting g stack) b) xs fault held piece

-- what one save at a node leaves
abbrev pub StepLeavesAlone : (g : Graph) (stack : StackValue) (prefix : List ℕ) (before : Option Files) → Step Sealed
    → (b : BoardState) (xs : List NodeFile) (fault : Bool) (held : Option Files) → Type 0
StepLeavesAlone g stack prefix before Nothing b xs fault held = IsSavingAlone g stack prefix before b xs fault held
StepLeavesAlone g stack prefix before Wrote b xs fault held = IsSavingAlone g stack prefix before b xs fault held
StepLeavesAlone g stack prefix before (Wants due) b xs fault held = HasUnsavedAlone g stack prefix before b xs fault held due

-- What it does to the board: where it wrote nothing, nothing is left to save at the node.
abbrev pub StepRests : Setting → (v : ℕ) → Step Sealed → (old new : BoardState) → Type 0
StepRests s v Nothing old new = (new ≡ old) × (unsaved s v (past new) ≡ [])
StepRests s v Wrote old new =
    IsDrained s (past new) × (length (past old) < length (past new)) × ((w : ℕ) → w ≢ v → unsaved s w (past new) ≡ unsaved s w (past old))
StepRests s v (Wants due) old new = Unit {0}
