-- A run changes no name but those of its files.
use Rattle.std.proofs.Common.{◌≡◌, ℕ, suc, ◌+◌, Bool, true, false, List, [], ◌∷◌, ◌++◌, Option, Some, refl, sym, ap, subst, ◌∙◌, arith}
use Rattle.std.specs.Prelude.{slice_get, All}
use Rattle.std.proofs.Common.{inl, inr}
use Rattle.std.proofs.lemmas.List.Elements.{All-nil, All-cons, All-head, All-tail, All-append}
use Rattle.nd_base.specs.GraphRules.{rule_at}
use Rattle.nd_base.specs.declared.graph.Graph.{Graph}
use Rattle.nd_base.specs.declared.graph.Kind.{Kind}
use Rattle.nd_base.specs.declared.graph.Kind.TheVariants.{Roi, Stats, Circular, File, Scatter}
use Rattle.nd_base.specs.declared.graph.NodeRule.{NodeRule}
use Rattle.nd_base.specs.declared.measure.Measure.{Measure}
use Rattle.edge_traits.specs.Files.{Files, with_file}
use Rattle.file_out.specs.Saving.{Untouched, Front}
use Rattle.flow_journal.specs.Pasts.{Past}
use Rattle.graph_files.specs.BegunFiles.{IsFileBegun, Unended, Miscounted, AreBegun}
use Rattle.graph_files.specs.NodeFileLaws.{changed-told, changed-file_at}
use Rattle.graph_files.specs.NodeFiles.{IsChangedAt, Same, Wrote}
use Rattle.graph_files.specs.OutFiles.{OutFile, with_files}
use Rattle.flow_saver.specs.KeptNames.{IsGroupName, AreKeptBut}
use Rattle.flow_saver.proofs.KeptNames.{kept-all, kept-then, kept-more}
use Rattle.replay_top.specs.LogFiles.{log_files}
use Rattle.replay_top.specs.MeasuredFiles.{kind_rows_file, measured_rows, measured_files}
use Rattle.replay_top.specs.RunCommand.{RunCommand}
use Rattle.replay_top.specs.RunFiles.{IsRunName, GroupName, RowsName, LogName}

-- FILES THAT ARE BEGUN

begun-changed : (held : Option Files) (f : OutFile) (now : Option Files) → IsFileBegun held f now → IsChangedAt held f.name now
begun-changed held f now (Unended (Untouched same)) = Same same
begun-changed held f now (Unended (Front front rest is made)) = Wrote front made
begun-changed held f now (Miscounted late count four made) = Wrote _ made

module _ (Own : List ℕ → Type 0) where
  changed-kept : (held now : Option Files) (name : List ℕ) → Own name → IsChangedAt held name now → AreKeptBut Own held now
  changed-kept held now name own changed = record {
    told = changed-told held now name changed;
    others = λ q away. changed-file_at held now name q changed (λ same. away (subst Own (sym same) own));
  }

  abbrev IsOwn : OutFile → Type 0
  IsOwn f = Own f.name

  begun-kept : (held : Option Files) (fs : List OutFile) (now : Option Files) → All IsOwn fs → AreBegun held fs now → AreKeptBut Own held now
  begun-kept held [] now own same = subst (AreKeptBut Own held) (sym same) (kept-all Own held)
  begun-kept held (f ∷ fs) now own (inl begun) = changed-kept held now f.name (All-head IsOwn f fs own) (begun-changed held f now begun)
  begun-kept held (f ∷ fs) now own (inr later) =
      let there : Option Files = with_file held f.name f.bytes in
      kept-then Own held there now (changed-kept held there f.name (All-head IsOwn f fs own) (Wrote f.bytes refl))
      (begun-kept there fs now (All-tail IsOwn f fs own) later)

-- all of them were written
pub begun-all : (held now : Option Files) (fs : List OutFile) → now ≡ with_files held fs → AreBegun held fs now
begun-all held now [] is = is
begun-all held now (f ∷ fs) is = inr (begun-all (with_file held f.name f.bytes) now fs is)

-- THE NAMES OF A RUN

module _ (c : RunCommand) (g : Graph) where
  abbrev IsNamed : OutFile → Type 0
  IsNamed f = IsRunName c g f.name

  kind-named : (v : ℕ) (n : NodeRule) (k : Kind) (ms : List Measure) → rule_at g.nodes v ≡ Some n → n.kind ≡ k
      → All IsNamed (kind_rows_file c.prefix n.name k ms)
  kind-named v n (Stats r) ms at kind = All-cons IsNamed _ [] (RowsName v n r at kind) (All-nil IsNamed)
  kind-named v n (Roi r) ms at kind = All-nil IsNamed
  kind-named v n (Circular r) ms at kind = All-nil IsNamed
  kind-named v n (File r) ms at kind = All-nil IsNamed
  kind-named v n Scatter ms at kind = All-nil IsNamed

  -- of these nodes, where v is the number of the first
  rows-named : (v : ℕ) (ns : List NodeRule) (ms : List (List Measure))
      → ((k : ℕ) (n : NodeRule) → slice_get ns k ≡ Some n → rule_at g.nodes (v + k) ≡ Some n) → All IsNamed (measured_files c.prefix ns ms)
  rows-named v [] ms at = All-nil IsNamed
  rows-named v (n ∷ ns) [] at = All-nil IsNamed
  rows-named v (n ∷ ns) (m ∷ ms) at =
      let first : rule_at g.nodes v ≡ Some n = ap (rule_at g.nodes) (let e : v ≡ v + 0 = omega arith in e) ∙ at 0 n refl in
      All-append IsNamed (measured_rows c.prefix n m) (measured_files c.prefix ns ms) (kind-named v n n.kind m first refl)
      (rows-named (v + 1) ns ms (λ k q is. ap (rule_at g.nodes) (let e : v + 1 + k ≡ v + suc k = omega arith in e) ∙ at (suc k) q is))

  log-named : (logs : Bool) → c.logs ≡ logs → (P : Past) → All IsNamed (log_files logs c.prefix P)
  log-named false is P = All-nil IsNamed
  log-named true is P = All-cons IsNamed _ [] (LogName is) (All-nil IsNamed)

  later-named : (ms : List (List Measure)) (P : Past) → All IsNamed (measured_files c.prefix g.nodes ms ++ log_files c.logs c.prefix P)
  later-named ms P =
      All-append IsNamed (measured_files c.prefix g.nodes ms) (log_files c.logs c.prefix P)
      (rows-named 1 g.nodes ms (λ k n is. ap (rule_at g.nodes) (let e : 1 + k ≡ suc k = omega arith in e) ∙ is)) (log-named c.logs refl P)

  pub groups-named : (before now : Option Files) → AreKeptBut (IsGroupName g c.prefix) before now → AreKeptBut (IsRunName c g) before now
  groups-named before now kept = kept-more (IsGroupName g c.prefix) (IsRunName c g) before now (λ q own. GroupName q own) kept

  -- the groups, and some of what comes after them
  pub later-kept : (before mid now : Option Files) (ms : List (List Measure)) (P : Past) → AreKeptBut (IsGroupName g c.prefix) before mid
      → AreBegun mid (measured_files c.prefix g.nodes ms ++ log_files c.logs c.prefix P) now → AreKeptBut (IsRunName c g) before now
  later-kept before mid now ms P kept begun =
      kept-then (IsRunName c g) before mid now (groups-named before mid kept)
      (begun-kept (IsRunName c g) mid (measured_files c.prefix g.nodes ms ++ log_files c.logs c.prefix P) now (later-named ms P) begun)
