-- LAWS of how the files go from the role that saves to the last role on a board that it has alone, and on through the drain.
use Rattle.std.specs.Prelude.{◌≡◌, ◌≢◌, ℕ, Bool, true, List, Option, None, Some}
use Rattle.nd_base.specs.Array.{StackValue}
use Rattle.nd_base.specs.declared.frame.FrameName.{FrameName}
use Rattle.nd_base.specs.declared.graph.Graph.{Graph}
use Rattle.edge_traits.specs.Files.{Files}
use Rattle.frame_store.specs.Sealed.{Sealed}
use Rattle.flow_journal.specs.Setting.{Setting, last_role}
use Rattle.flow_journal.specs.Hands.{hand, is_free}
use Rattle.flow_journal.specs.Ended.{was_reclaimed}
use Rattle.flow_journal.specs.Histories.{is_history}
use Rattle.board_rules.specs.declared.answers.Left.{Left}
use Rattle.board_rules.specs.States.{BoardState, past}
use Rattle.board_rules.specs.Movers.{moves_by}
use Rattle.board_rules.specs.RunMeasures.{run_setting}
use Rattle.flow_roles.specs.Passes.{Pass, only_drain_saves}
use Rattle.flow_roles.specs.TurnPasses.{HasMade}
use Rattle.flow_drain.specs.Drains.{DrainMoves, taken_back}
use Rattle.graph_files.specs.NodeFiles.{NodeFile}
use Rattle.flow_saver.specs.declared.piece.DuePiece.{DuePiece}
use Rattle.flow_saver.specs.Saver.{Start, RoleLeaves}
use Rattle.flow_saver.specs.Remaining.{RestMoves, IsSavingAlone, HasUnsavedAlone}

-- the last role with or without a piece in hand that isn't written
abbrev pub LeftAlone : (g : Graph) (stack : StackValue) (prefix : List ℕ) (before : Option Files) → Option (DuePiece Sealed)
    → (b : BoardState) (xs : List NodeFile) (fault : Bool) (held : Option Files) → Type 0
LeftAlone g stack prefix before None b xs fault held = IsSavingAlone g stack prefix before b xs fault held
LeftAlone g stack prefix before (Some due) b xs fault held = HasUnsavedAlone g stack prefix before b xs fault held due

pub record HandingLaws (F B O : Type 0) : Type 0 where
  -- what the role that saves left stands so on the board that has its pass
  pub role : (g : Graph) (stack : StackValue) (start : Start) (r : ℕ) (p : Pass) (left : Option (DuePiece Sealed)) (xs : List NodeFile)
      (fault : Bool) (held : Option Files) (b : BoardState) → r ≡ last_role (run_setting g stack)
      → HasMade b p → is_history (run_setting g stack) (past b) ≡ true → only_drain_saves (run_setting g stack) (past b) ≡ true
      → RoleLeaves g stack start r left p xs fault held → LeftAlone g stack start.prefix start.held left b xs fault held
  -- between two pieces the last role has nothing in hand
  pub free : (g : Graph) (stack : StackValue) (prefix : List ℕ) (before : Option Files) (b : BoardState) (xs : List NodeFile)
      (fault : Bool) (held : Option Files) → IsSavingAlone g stack prefix before b xs fault held
      → is_free (last_role (run_setting g stack)) (past b) ≡ true
  -- and the drain leaves the files those of the log
  pub drained : (name_of : F → FrameName) (g : Graph) (stack : StackValue) (prefix : List ℕ) (before : Option Files) (tick : ℕ) (ends : List (Left F B O))
      (b new : BoardState) (xs : List NodeFile) (fault : Bool) (held : Option Files)
      → DrainMoves (run_setting g stack) tick (taken_back name_of (run_setting g stack) 0 ends b) new → is_history (run_setting g stack) (past new) ≡ true
      → hand (last_role (run_setting g stack)) (past new) ≡ None
      → IsSavingAlone g stack prefix before b xs fault held → IsSavingAlone g stack prefix before new xs fault held
  -- a piece that is written before the drain changes nothing of the other roles
  pub others : (s : Setting) (r : ℕ) (old new : BoardState) → r ≢ last_role s → RestMoves s old new → moves_by r new ≡ moves_by r old
  pub reclaims : (s : Setting) (r : ℕ) (old new : BoardState) → RestMoves s old new → was_reclaimed r (past new) ≡ was_reclaimed r (past old)
