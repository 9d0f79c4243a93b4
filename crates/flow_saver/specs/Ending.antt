-- What stands under the names of a run's groups after a fault of the shelf.
use Rattle.std.specs.Prelude.{◌≡◌, ◌≢◌, ℕ, Bool, true, false, List, [], ◌∷◌, ◌++◌, Option, Some, is_some, Result, Ok, Err}
use Rattle.nd_base.specs.Array.{Array, StackValue}
use Rattle.nd_base.specs.declared.frame.FrameName.{FrameName}
use Rattle.nd_base.specs.declared.graph.FileRule.{FileRule}
use Rattle.nd_base.specs.declared.graph.Graph.{Graph}
use Rattle.nd_base.specs.declared.graph.Kind.TheVariants.{File}
use Rattle.nd_base.specs.declared.graph.NodeRule.{NodeRule}
use Rattle.nd_base.specs.GraphRules.{rule_at}
use Rattle.edge_traits.specs.Files.{Files, file_at}
use Rattle.file_out.specs.declared.fault.SaveFault.{SaveFault}
use Rattle.file_out.specs.Saving.{IsSaveCause}
use Rattle.flow_journal.specs.Pasts.{Past}
use Rattle.flow_journal.specs.Unsaved.{standing_saves}
use Rattle.run_laws.specs.Results.{contents}
use Rattle.graph_files.specs.Interrupted.{IsBegunAt}
use Rattle.graph_files.specs.OutFiles.{group_name, is_stream}
use Rattle.graph_files.specs.TornGroups.{AreTornGroups}
use Rattle.flow_saver.specs.GivenBack.{written_by}
use Rattle.flow_saver.specs.HistoryFiles.{kind_group}
use Rattle.flow_saver.specs.Pieces.{content_of}
use Rattle.flow_saver.specs.Saver.{back_of}

-- The call that failed was to write the array that this node gives back next after a place of the log; or to end a file, once all of the log was given back.
abbrev pub IsFailedCall : (g : Graph) (stack : StackValue) (later : Past) (node : ℕ) → (ending : Bool) → (coming : List Array) → Type 0
IsFailedCall g stack later node false coming =
    (newer : Past) × (role : ℕ) × (name : FrameName) × (array : Array) × (later ≡ newer ++ back_of role node name ∷ [])
    × (content_of g stack name ≡ Some array) × (coming ≡ array ∷ [])
IsFailedCall g stack later node true coming = later ≡ []

-- AFTER A FAULT: each name of a group is as before the run, whole, or begun as its final file; every other name is as before. What was given back as
-- saved up to one place of the log was written, and the shelf failed on what comes next.
pub record IsTornHistory (g : Graph) (stack : StackValue) (prefix : List ℕ) (P : Past) (before held : Option Files) : Type 0 where
  -- the shelf tells its files as it did
  pub told : is_some held ≡ is_some before
  pub each : (v i : ℕ) (n : NodeRule) (r : FileRule) (bytes : List ℕ) → rule_at g.nodes v ≡ Some n → n.kind ≡ File r
      → kind_group g stack P v n.kind i ≡ Some bytes
      → IsBegunAt (is_stream r.mode) bytes before held (group_name prefix n.name i)
  pub others : (q : List ℕ)
      → ((v i : ℕ) (n : NodeRule) (bytes : List ℕ) → rule_at g.nodes v ≡ Some n → kind_group g stack P v n.kind i ≡ Some bytes → q ≢ group_name prefix n.name i)
      → file_at held q ≡ file_at before q
  -- the place of the log, and what was given back up to there
  pub later : Past
  pub front : Past
  pub log : P ≡ later ++ front
  pub written : ℕ → List Array
  pub given : (v : ℕ) → written v ≡ written_by g stack front v
  pub groups : AreTornGroups g stack prefix (λ v. contents g.nodes stack.arrays (standing_saves v P)) written before held
  pub call : IsFailedCall g stack later groups.node groups.ending groups.coming

-- An end that comes after a fault changes nothing on the shelf, and any other answers a fault where the count rose, and nowhere else.
abbrev pub CountsEnd : {T : Type 0} → (fault : Bool) → Result T SaveFault → (before now : ℕ) → (held held_now : Option Files) → Type 0
CountsEnd true (Ok x) before now held held_now = ⊥
CountsEnd true (Err e) before now held held_now = (now ≡ before) × (held_now ≡ held)
CountsEnd false result before now held held_now = IsSaveCause result before now
