-- THE FILES OF A HISTORY: of each file node and group the file layout of the arrays that its Saves took in that order, and of each
-- statistics node a row for each array that it emitted.
use Rattle.std.specs.Prelude.{◌≡◌, ◌≢◌, ℕ, ◌+◌, false, List, [], ◌∷◌, ◌++◌, map, Option, None, Some, is_some}
use Rattle.std.specs.List.{flat_map}
use Rattle.nd_base.specs.Array.{StackValue}
use Rattle.nd_base.specs.declared.graph.Graph.{Graph}
use Rattle.nd_base.specs.declared.graph.Kind.{Kind}
use Rattle.nd_base.specs.declared.graph.Kind.TheVariants.{Roi, Stats, Circular, File, Scatter}
use Rattle.nd_base.specs.declared.graph.NodeRule.{NodeRule}
use Rattle.nd_base.specs.GraphRules.{IsGraph, rule_at}
use Rattle.edge_traits.specs.Files.{Files, file_at, HasFile}
use Rattle.nd_stats.specs.Row.{row}
use Rattle.chain_plain.specs.OneThread.{measure_of_array}
use Rattle.flow_journal.specs.Pasts.{Past}
use Rattle.flow_journal.specs.Unsaved.{standing_saves}
use Rattle.flow_journal.specs.Accepted.{emitted}
use Rattle.run_laws.specs.Results.{contents}
use Rattle.graph_files.specs.Groups.{group_of, whole_file}
use Rattle.graph_files.specs.OutFiles.{OutFile, file_shape, group_name, stats_name, with_files}

-- the file of group i of a node of this kind
abbrev pub kind_group : Graph → StackValue → Past → (v : ℕ) → Kind → (i : ℕ) → Option (List ℕ)
kind_group g stack P v (File r) i = whole_file (file_shape g stack v) (group_of r.count i (contents g.nodes stack.arrays (standing_saves v P)))
kind_group g stack P v (Roi r) i = None
kind_group g stack P v (Stats r) i = None
kind_group g stack P v (Circular r) i = None
kind_group g stack P v Scatter i = None

-- the rows of a node of this kind
abbrev pub kind_rows : Graph → StackValue → Past → (v : ℕ) → Kind → Option (List ℕ)
kind_rows g stack P v (Stats r) = Some (flat_map row (map (measure_of_array r) (contents g.nodes stack.arrays (emitted v P))))
kind_rows g stack P v (Roi r) = None
kind_rows g stack P v (Circular r) = None
kind_rows g stack P v (File r) = None
kind_rows g stack P v Scatter = None

-- these bytes stand under this name after the run, by its log
pub data IsFileOf (g : Graph) (stack : StackValue) (prefix : List ℕ) (P : Past) : (name bytes : List ℕ) → Type 0 where
  Group : (v i : ℕ) (n : NodeRule) (bytes : List ℕ) → rule_at g.nodes v ≡ Some n → kind_group g stack P v n.kind i ≡ Some bytes
      → IsFileOf g stack prefix P (group_name prefix n.name i) bytes
  Rows : (v : ℕ) (n : NodeRule) (bytes : List ℕ) → rule_at g.nodes v ≡ Some n → kind_rows g stack P v n.kind ≡ Some bytes
      → IsFileOf g stack prefix P (stats_name prefix n.name) bytes

-- the shelf holds the files of the history, and every other name is as before; it tells its files as it did
pub record HoldsFilesOf (g : Graph) (stack : StackValue) (prefix : List ℕ) (P : Past) (before held : Option Files) : Type 0 where
  pub told : is_some held ≡ is_some before
  pub each : (name bytes : List ℕ) → IsFileOf g stack prefix P name bytes → HasFile held name bytes
  pub others : (q : List ℕ) → ((name bytes : List ℕ) → IsFileOf g stack prefix P name bytes → q ≢ name) → file_at held q ≡ file_at before q

-- THE GROUPS ALONE, AND THE ROWS AFTER THEM

-- the shelf holds the groups' files of the history, and every other name is as before; it tells its files as it did
pub record HoldsGroupsOf (g : Graph) (stack : StackValue) (prefix : List ℕ) (P : Past) (before held : Option Files) : Type 0 where
  pub told : is_some held ≡ is_some before
  pub each : (v i : ℕ) (n : NodeRule) (bytes : List ℕ) → rule_at g.nodes v ≡ Some n → kind_group g stack P v n.kind i ≡ Some bytes
      → HasFile held (group_name prefix n.name i) bytes
  pub others : (q : List ℕ)
      → ((v i : ℕ) (n : NodeRule) (bytes : List ℕ) → rule_at g.nodes v ≡ Some n → kind_group g stack P v n.kind i ≡ Some bytes → q ≢ group_name prefix n.name i)
      → file_at held q ≡ file_at before q

-- the file of a node's rows, where it has any
abbrev pub rows_file : (prefix node : List ℕ) → (rows : Option (List ℕ)) → List OutFile
rows_file prefix node None = []
rows_file prefix node (Some bytes) = record { name = stats_name prefix node; bytes = bytes; late = false } ∷ []

-- the files of the statistics nodes among these, where v is the number of the first
abbrev pub rows_from : Graph → StackValue → (prefix : List ℕ) → Past → (v : ℕ) → List NodeRule → List OutFile
rows_from g stack prefix P v [] = []
rows_from g stack prefix P v (n ∷ ns) = rows_file prefix n.name (kind_rows g stack P v n.kind) ++ rows_from g stack prefix P (v + 1) ns

-- the files of the rows of the history, in the graph's order
abbrev pub rows_files : Graph → StackValue → (prefix : List ℕ) → Past → List OutFile
rows_files g stack prefix P = rows_from g stack prefix P 1 g.nodes

-- the groups' files, and then those of the rows, are the files of the history
abbrev pub RowsComplete : Type 0
RowsComplete =
    (g : Graph) (stack : StackValue) (prefix : List ℕ) (P : Past) (before held : Option Files) → IsGraph g → HoldsGroupsOf g stack prefix P before held
    → HoldsFilesOf g stack prefix P before (with_files held (rows_files g stack prefix P))
