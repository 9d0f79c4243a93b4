-- Which names of the shelf stay as they were, whatever comes of a run.
use Rattle.std.specs.Prelude.{◌≡◌, ℕ, List, Option, Some, is_some}
use Rattle.nd_base.specs.declared.graph.FileRule.{FileRule}
use Rattle.nd_base.specs.declared.graph.Graph.{Graph}
use Rattle.nd_base.specs.declared.graph.Kind.TheVariants.{File}
use Rattle.nd_base.specs.declared.graph.NodeRule.{NodeRule}
use Rattle.nd_base.specs.GraphRules.{rule_at}
use Rattle.edge_traits.specs.Files.{Files, file_at}
use Rattle.graph_files.specs.OutFiles.{group_name}

-- the name of a group of a file node
pub data IsGroupName (g : Graph) (prefix : List ℕ) : List ℕ → Type 0 where
  Group : (v i : ℕ) (n : NodeRule) (r : FileRule) → rule_at g.nodes v ≡ Some n → n.kind ≡ File r → IsGroupName g prefix (group_name prefix n.name i)

-- every name but these is as before; the shelf tells its files as it did
pub record AreKeptBut (Own : List ℕ → Type 0) (before now : Option Files) : Type 0 where
  pub told : is_some now ≡ is_some before
  pub others : (q : List ℕ) → (Own q → ⊥) → file_at now q ≡ file_at before q
