-- The files of the statistics nodes as they are begun, without a row.
use Rattle.std.specs.Prelude.{◌≡◌, ◌⊎◌, ℕ, ◌≤◌, List, [], length, Option, Some, is_some}
use Rattle.nd_base.specs.GraphRules.{rule_at}
use Rattle.nd_base.specs.declared.graph.Graph.{Graph}
use Rattle.nd_base.specs.declared.graph.Kind.{Kind}
use Rattle.nd_base.specs.declared.graph.Kind.TheVariants.{Roi, Stats, Circular, File, Scatter}
use Rattle.nd_base.specs.declared.graph.NodeRule.{NodeRule}
use Rattle.nd_base.specs.declared.graph.StatsRule.{StatsRule}
use Rattle.edge_traits.specs.Files.{Files, HasFile, file_at, with_file}
use Rattle.graph_files.specs.OutFiles.{stats_name}
use Rattle.plain_saver.specs.Saved.{IsNoRows}

-- the file of a node of this kind and name was begun, if it has one
abbrev pub IsKindBegun : (prefix name : List ℕ) → Kind → (before held : Option Files) → Type 0
IsKindBegun prefix name (Stats r) before held = held ≡ with_file before (stats_name prefix name) []
IsKindBegun prefix name (Roi r) before held = held ≡ before
IsKindBegun prefix name (Circular r) before held = held ≡ before
IsKindBegun prefix name (File r) before held = held ≡ before
IsKindBegun prefix name Scatter before held = held ≡ before

abbrev pub IsRowsFileBegun : (prefix : List ℕ) → NodeRule → (before held : Option Files) → Type 0
IsRowsFileBegun prefix n before held = IsKindBegun prefix n.name n.kind before held

-- it may have been begun
abbrev pub MayBeginRowsFile : (prefix : List ℕ) → NodeRule → (before held : Option Files) → Type 0
MayBeginRowsFile prefix n before held = (held ≡ before) ⊎ IsRowsFileBegun prefix n before held

-- Since the shelf had these files, those of the statistics nodes up to node j were begun, and no other name was touched.
pub record AreBegunTo (g : Graph) (prefix : List ℕ) (before held : Option Files) (j : ℕ) : Type 0 where
  pub told : is_some held ≡ is_some before
  pub each : (v : ℕ) (n : NodeRule) (r : StatsRule) → v ≤ j → rule_at g.nodes v ≡ Some n → n.kind ≡ Stats r → HasFile held (stats_name prefix n.name) []
  pub others : (q : List ℕ) → IsNoRows g prefix q → file_at held q ≡ file_at before q

-- all of them were begun
abbrev pub AreRowsBegun : Graph → (prefix : List ℕ) → (before held : Option Files) → Type 0
AreRowsBegun g prefix before held = AreBegunTo g prefix before held (length g.nodes)

-- some of them may have been begun, and no other name was touched
pub record AreRowsTouched (g : Graph) (prefix : List ℕ) (before held : Option Files) : Type 0 where
  pub told : is_some held ≡ is_some before
  pub each : (q : List ℕ) → (file_at held q ≡ file_at before q) ⊎ (file_at held q ≡ Some [])
  pub others : (q : List ℕ) → IsNoRows g prefix q → file_at held q ≡ file_at before q
