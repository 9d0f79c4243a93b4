-- The files of a graph: their names, and what stands in them when all of them were written.
use Rattle.std.specs.Prelude.{ℕ, ◌+◌, ◌-◌, Bool, true, false, List, [], ◌∷◌, ◌++◌, length, replicate, Option, codes}
use Rattle.std.specs.Fmt.{decimal}
use Rattle.std.specs.List.{flat_map, range_with_len}
use Rattle.std.specs.Option.{option_map_or}
use Rattle.nd_base.specs.Array.{Array, StackValue}
use Rattle.nd_base.specs.declared.attribute.FileShape.{FileShape}
use Rattle.nd_base.specs.declared.form.Form.{Form}
use Rattle.nd_base.specs.declared.form.Form.TheVariants.{Classic}
use Rattle.nd_base.specs.declared.graph.Graph.{Graph}
use Rattle.nd_base.specs.declared.graph.Kind.{Kind}
use Rattle.nd_base.specs.declared.graph.Kind.TheVariants.{Roi, Stats, Circular, File, Scatter}
use Rattle.nd_base.specs.declared.graph.Mode.{Mode}
use Rattle.nd_base.specs.declared.graph.Mode.TheVariants.{Stream}
use Rattle.nd_base.specs.declared.graph.NodeRule.{NodeRule}
use Rattle.nd_base.specs.GraphRules.{rule_at}
use Rattle.edge_traits.specs.Files.{Files, with_file}
use Rattle.cdf_write.specs.Layout.{layout}
use Rattle.nd_stats.specs.Row.{row}
use Rattle.chain_plain.specs.OneThread.{OneThread}
use Rattle.chain_plain.specs.Plans.{shape_at}
use Rattle.chain_plain.specs.PlainRun.{result_of}

-- a file: its name, its bytes, and whether its count of records is put in when it ends
pub record OutFile : Type 0 where
  pub name : List ℕ
  pub bytes : List ℕ
  pub late : Bool

-- the number of a group, in decimal with zeros in front to at least three digits
abbrev pub group_number : ℕ → List ℕ
group_number g = replicate (3 - length (decimal g)) 48 ++ decimal g

abbrev pub group_name : (prefix node : List ℕ) → ℕ → List ℕ
group_name prefix node g = prefix ++ node ++ codes "_" ++ group_number g ++ codes ".nc"

abbrev pub stats_name : (prefix node : List ℕ) → List ℕ
stats_name prefix node = prefix ++ node ++ codes ".txt"

abbrev pub is_stream : Mode → Bool
is_stream Stream = true
is_stream _ = false

-- the form of the files of a node of this kind; only file nodes choose one
abbrev pub kind_form : Kind → Form
kind_form (File r) = r.form
kind_form (Roi r) = Classic
kind_form (Stats r) = Classic
kind_form (Circular r) = Classic
kind_form Scatter = Classic

abbrev pub form_at : List NodeRule → ℕ → Form
form_at nodes v = option_map_or (λ n. kind_form n.kind) (rule_at nodes v) Classic

-- the shape of the arrays that go out of a node, as their file has it
abbrev pub file_shape : Graph → StackValue → ℕ → FileShape
file_shape g s v = record s.shape { form = form_at g.nodes v; kind = (shape_at g.nodes s.shape v).kind; dims = (shape_at g.nodes s.shape v).dims }

-- the files of these groups of a node, numbered from g on
abbrev pub group_files : Mode → FileShape → (prefix node : List ℕ) → ℕ → List (List Array) → List OutFile
group_files mode shape prefix node g [] = []
group_files mode shape prefix node g (group ∷ groups) =
    record { name = group_name prefix node g; bytes = layout shape group; late = is_stream mode } ∷ group_files mode shape prefix node (g + 1) groups

-- what a node of this kind writes: a file node its groups, and a statistics node a row for each array
abbrev pub kind_files : Kind → FileShape → (prefix node : List ℕ) → OneThread → List OutFile
kind_files (File r) shape prefix node result = group_files r.mode shape prefix node 0 result.files
kind_files (Stats r) shape prefix node result = record { name = stats_name prefix node; bytes = flat_map row result.measures; late = false } ∷ []
kind_files (Roi r) shape prefix node result = []
kind_files (Circular r) shape prefix node result = []
kind_files Scatter shape prefix node result = []

abbrev pub node_files : Graph → StackValue → List ℕ → ℕ → List OutFile
node_files g s prefix v = option_map_or (λ n. kind_files n.kind (file_shape g s v) prefix n.name (result_of g s v)) (rule_at g.nodes v) []

-- the files of all nodes, in the graph's order
abbrev pub plain_files : Graph → StackValue → List ℕ → List OutFile
plain_files g s prefix = flat_map (node_files g s prefix) (range_with_len 1 (length g.nodes))

-- the shelf with these files
abbrev pub with_files : Option Files → List OutFile → Option Files
with_files held [] = held
with_files held (f ∷ fs) = with_files (with_file held f.name f.bytes) fs
