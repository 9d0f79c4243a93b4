-- What stands on the shelf while a plain run's files are written.
use Rattle.std.specs.Prelude.{◌≡◌, ◌≢◌, ℕ, ◌-◌, ◌*◌, ◌/◌, ◌%◌, List, map, min, length, take, slice_get, Option, None, Some, is_some, ◌≤◌, true}
use Rattle.std.specs.List.{flat_map}
use Rattle.nd_base.specs.Array.{Array, StackValue}
use Rattle.nd_base.specs.GraphRules.{rule_at}
use Rattle.nd_base.specs.declared.graph.Graph.{Graph}
use Rattle.nd_base.specs.declared.graph.Kind.TheVariants.{Stats}
use Rattle.nd_base.specs.declared.graph.NodeRule.{NodeRule}
use Rattle.nd_base.specs.declared.graph.StatsRule.{StatsRule}
use Rattle.edge_traits.specs.Files.{Files, file_at}
use Rattle.nd_stats.specs.Row.{row}
use Rattle.chain_plain.specs.OneThread.{arrays_out, measure_of_array}
use Rattle.chain_plain.specs.PlainRun.{passed}
use Rattle.graph_files.specs.NodeFiles.{NodeFile, AreWritten, HasNumrecs, first_count}
use Rattle.graph_files.specs.OpenFiles.{closed, file_nodes, IsElsewhere}
use Rattle.graph_files.specs.OutFiles.{stats_name}
use Rattle.plain_saver.specs.Passes.{ArePasses, AreFrom, is_next, pass_at}
use Rattle.plain_saver.specs.Texts.{HasFront, text_at}
use Rattle.plain_saver.specs.declared.passes.Pass.{Pass}

-- the arrays that have gone out of node v
abbrev pub written : Graph → StackValue → List Pass → ℕ → List Array
written g s ps v = arrays_out g.nodes s.arrays v (take (pass_at ps v).gone (passed g s v))

-- the rows of these arrays at a statistics node
abbrev pub rows_of : StatsRule → List Array → List ℕ
rows_of r xs = flat_map row (map (measure_of_array r) xs)

-- after so many of all arrays, how many the group of the next one has in the end
abbrev pub group_size : (count all gone : ℕ) → ℕ
group_size count all gone = min count (all - gone / count * count)

-- the files of a file node: those of the arrays that have gone out of it, one of them open only within a group
pub record IsGrouped (g : Graph) (s : StackValue) (ps : List Pass) (x : NodeFile) (held : Option Files) : Type 0 where
  pub written : AreWritten x (written g s ps x.node) held
  pub numrecs : HasNumrecs (first_count x.late (Some (group_size x.count (length (passed g s x.node)) (pass_at ps x.node).gone))) x.current
  pub between : (pass_at ps x.node).gone % x.count ≡ 0 → x.current ≡ None

-- the name is that of no statistics file
abbrev pub IsNoRows : Graph → (prefix name : List ℕ) → Type 0
IsNoRows g prefix q = (v : ℕ) (n : NodeRule) (r : StatsRule) → rule_at g.nodes v ≡ Some n → n.kind ≡ Stats r → q ≢ stats_name prefix n.name

-- Since the shelf had these files, just the arrays that have gone out of each node were written: a file node has its groups' files, a statistics node its
-- rows but for those that are kept back, and every other name is as it was.
pub record IsSaved (g : Graph) (s : StackValue) (prefix : List ℕ) (before : Option Files) (ps : List Pass) (ts : List (List ℕ)) (xs : List NodeFile)
    (held : Option Files) : Type 0 where
  pub told : is_some held ≡ is_some before
  pub passes : ArePasses g s ps
  pub kept : length ts ≡ length g.nodes
  pub nodes : map closed xs ≡ file_nodes g s prefix
  pub groups : (k : ℕ) (x : NodeFile) → slice_get xs k ≡ Some x → IsGrouped g s ps x held
  pub rows : (v : ℕ) (n : NodeRule) (r : StatsRule) → rule_at g.nodes v ≡ Some n → n.kind ≡ Stats r
      → HasFront held (stats_name prefix n.name) (text_at ts v) (rows_of r (written g s ps v))
  pub others : (q : List ℕ) → IsElsewhere xs (written g s ps) q → IsNoRows g prefix q → file_at held q ≡ file_at before q

-- no position that is left at a file node is below k, and none that is left at a statistics node is below l
pub record AreLeftFrom (g : Graph) (ps : List Pass) (xs : List NodeFile) (k l : ℕ) : Type 0 where
  pub groups : (j : ℕ) (x : NodeFile) → slice_get xs j ≡ Some x → AreFrom ps x.node k
  pub rows : (v : ℕ) (n : NodeRule) (r : StatsRule) → rule_at g.nodes v ≡ Some n → n.kind ≡ Stats r → AreFrom ps v l

-- a file node is one of those of which it is known what goes out, and not too much for 32 bits
pub record IsCounted (ps : List Pass) (x : NodeFile) : Type 0 where
  pub first : 1 ≤ x.node
  pub within : x.node ≤ length ps
  pub some : 1 ≤ x.count
  pub few : length (pass_at ps x.node).positions ≤ 65536

-- frame k is the next one that goes out of a file node, and its array goes to this place of this group, which has `of` arrays in the end
pub record IsNextPlace (ps : List Pass) (x : NodeFile) (k : ℕ) (group place of : ℕ) : Type 0 where
  pub next : is_next ps x.node k ≡ true
  pub group_is : group ≡ (pass_at ps x.node).gone / x.count
  pub place_is : place ≡ (pass_at ps x.node).gone % x.count
  pub of_is : of ≡ group_size x.count (length (pass_at ps x.node).positions) (pass_at ps x.node).gone
