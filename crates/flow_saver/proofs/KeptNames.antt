-- Only names of groups change while a run saves.
use Rattle.std.proofs.Common.{◌≡◌, ℕ, Bool, true, false, List, map, refl, sym, subst, ◌∙◌, Option, Some}
use Rattle.std.specs.Prelude.{slice_get}
use Rattle.nd_base.specs.Array.{StackValue}
use Rattle.nd_base.specs.GraphRules.{IsGraph}
use Rattle.nd_base.specs.declared.graph.Graph.{Graph}
use Rattle.edge_traits.specs.Files.{Files}
use Rattle.frame_store.specs.Sealed.{Sealed}
use Rattle.flow_journal.specs.Pasts.{Past}
use Rattle.flow_journal.specs.Setting.{last_role}
use Rattle.board_rules.specs.States.{BoardState, past}
use Rattle.board_rules.specs.Movers.{moves_by}
use Rattle.board_rules.specs.RunMeasures.{run_setting}
use Rattle.graph_files.specs.NodeFiles.{NodeFile, name_of}
use Rattle.graph_files.specs.OpenFiles.{closed, file_nodes}
use Rattle.flow_saver.specs.Ending.{IsTornHistory}
use Rattle.flow_saver.specs.HistoryFiles.{HoldsGroupsOf}
use Rattle.flow_saver.specs.KeptNames.{IsGroupName, Group, AreKeptBut}
use Rattle.flow_saver.specs.Remaining.{IsSavingAlone, HasUnsavedAlone}
use Rattle.flow_saver.specs.Saver.{AreSaved}
use Rattle.flow_saver.specs.declared.piece.DuePiece.{DuePiece}
use Rattle.flow_saver.proofs.Due.{of_file}
use Rattle.flow_saver.proofs.Groups.{file-kind, group-named}

-- KEEPING

pub kept-all : (Own : List ℕ → Type 0) (held : Option Files) → AreKeptBut Own held held
kept-all Own held = record { told = refl; others = λ q away. refl }

pub kept-then : (Own : List ℕ → Type 0) (first held now : Option Files) → AreKeptBut Own first held → AreKeptBut Own held now → AreKeptBut Own first now
kept-then Own first held now h k = record { told = k.told ∙ h.told; others = λ q away. k.others q away ∙ h.others q away }

pub kept-more : (Own More : List ℕ → Type 0) (before now : Option Files) → ((q : List ℕ) → Own q → More q) → AreKeptBut Own before now → AreKeptBut More before now
kept-more Own More before now more h = record { told = h.told; others = λ q away. h.others q (λ own. away (more q own)) }

-- NAMES OF GROUPS

module _ (g : Graph) (stack : StackValue) (sound : IsGraph g) (prefix : List ℕ) where
  named-group : (xs : List NodeFile) → map closed xs ≡ file_nodes g stack prefix → (k : ℕ) (x : NodeFile) → slice_get xs k ≡ Some x → (i : ℕ)
      → IsGroupName g prefix (name_of x i)
  named-group xs nodes k x at i =
      let f = of_file g stack prefix xs k x sound nodes at in
      subst (IsGroupName g prefix) (sym (group-named g stack prefix xs nodes k x f.rule at f.at i)) (Group x.node i f.rule f.file f.at f.kind)

  saved-kept : (before : Option Files) (P seen : Past) (xs : List NodeFile) (fault : Bool) (held : Option Files) → map closed xs ≡ file_nodes g stack prefix
      → AreSaved g stack before P seen xs fault held → AreKeptBut (IsGroupName g prefix) before held
  saved-kept before P seen xs false held nodes h = record {
    told = h.0.told;
    others = λ q away. h.0.others q (λ k x i at named same. away (subst (IsGroupName g prefix) (sym same) (named-group xs nodes k x at i)));
  }
  saved-kept before P seen xs true held nodes t = record {
    told = t.stops.0.told;
    others = λ q away. t.stops.0.others q
        (λ same. away (subst (IsGroupName g prefix) (sym same) (named-group t.files (sym t.nodes ∙ nodes) t.at t.node t.listed t.group)))
        (λ k x i at named same. away (subst (IsGroupName g prefix) (sym same) (named-group xs nodes k x at i)));
  }

  pub saving-kept : (before : Option Files) (b : BoardState) (xs : List NodeFile) (fault : Bool) (held : Option Files)
      → IsSavingAlone g stack prefix before b xs fault held → AreKeptBut (IsGroupName g prefix) before held
  saving-kept before b xs fault held h = saved-kept before (past (moves_by (last_role (run_setting g stack)) b)) (past b) xs fault held h.saving.nodes h.saving.saved

  pub unsaved-kept : (before : Option Files) (b : BoardState) (xs : List NodeFile) (fault : Bool) (held : Option Files) (due : DuePiece Sealed)
      → HasUnsavedAlone g stack prefix before b xs fault held due → AreKeptBut (IsGroupName g prefix) before held
  unsaved-kept before b xs fault held due h =
      saved-kept before (past (moves_by (last_role (run_setting g stack)) b)) (past b) xs fault held h.unsaved.nodes h.unsaved.saved

  -- and so they have when it has ended
  pub groups-kept : (P : Past) (before held : Option Files) → HoldsGroupsOf g stack prefix P before held → AreKeptBut (IsGroupName g prefix) before held
  groups-kept P before held h = record {
    told = h.told;
    others = λ q away. h.others q (λ v i n bytes rule is same.
        let r = file-kind g stack P n v i bytes is in away (subst (IsGroupName g prefix) (sym same) (Group v i n r.0 rule r.1)));
  }

  pub torn-kept : (P : Past) (before held : Option Files) → IsTornHistory g stack prefix P before held → AreKeptBut (IsGroupName g prefix) before held
  torn-kept P before held h = record {
    told = h.told;
    others = λ q away. h.others q (λ v i n bytes rule is same.
        let r = file-kind g stack P n v i bytes is in away (subst (IsGroupName g prefix) (sym same) (Group v i n r.0 rule r.1)));
  }
