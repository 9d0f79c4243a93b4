-- What the role that saves begins with in a run, and what it leaves.
use Rattle.std.specs.Prelude.{◌≡◌, ℕ, [], true, Bool, List, Option, Some, None}
use Rattle.std.specs.List.{list_all}
use Rattle.nd_base.specs.Array.{StackValue}
use Rattle.nd_base.specs.declared.graph.Graph.{Graph}
use Rattle.edge_traits.specs.Files.{Files}
use Rattle.frame_store.specs.Sealed.{Sealed}
use Rattle.flow_journal.specs.Setting.{last_role}
use Rattle.board_rules.specs.States.{past}
use Rattle.board_rules.specs.RunMeasures.{run_setting}
use Rattle.flow_roles.specs.Passes.{Pass}
use Rattle.graph_files.specs.NodeFiles.{NodeFile}
use Rattle.graph_files.specs.OpenFiles.{file_nodes}
use Rattle.flow_saver.specs.declared.piece.DuePiece.{DuePiece}
use Rattle.flow_saver.specs.Saver.{RoleLeaves}
use Rattle.flow_roles.specs.RoleMoves.{saver_logs}

module _ {P : Type 0} (ours : P → Type 0) where
  -- a pass that has made no call, and the files before any was begun
  abbrev pub SaverBegins : Graph → StackValue → Option (P × List NodeFile) → Type 0
  SaverBegins g stack None = ⊥
  SaverBegins g stack (Some b) = ours b.0 × ((prefix : List ℕ) × (b.1 ≡ file_nodes g stack prefix))

-- the role has ended: it has only saved, and its files stand so
pub record IsSaverEnd (g : Graph) (stack : StackValue) (before : Option Files) (began : List NodeFile)
    (p : Pass) (left : Option (DuePiece Sealed)) (xs : List NodeFile)
    (fault : Bool) (held : Option Files) : Type 0 where
  pub role : p.role ≡ last_role (run_setting g stack)
  pub moves : list_all saver_logs (past p.made) ≡ true
  pub leaves : (prefix : List ℕ) → began ≡ file_nodes g stack prefix
      → RoleLeaves g stack (record { prefix = prefix; made = []; held = before }) (last_role (run_setting g stack)) left p xs fault held

module _ {P : Type 0} (ours : P → Type 0) (knows : P → Pass) where
  abbrev pub SaverEnds : Graph → StackValue → (before : Option Files) → Option (P × List NodeFile) → (pass : P)
      → (left : Option (DuePiece Sealed)) → (xs : List NodeFile)
      → (fault : Bool) → (held : Option Files) → Type 0
  SaverEnds g stack before None pass left xs fault held = ⊥
  SaverEnds g stack before (Some b) pass left xs fault held = ours pass × IsSaverEnd g stack before b.1 (knows pass) left xs fault held
