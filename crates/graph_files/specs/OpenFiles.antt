-- The files of all file nodes of a graph while they are written.
use Rattle.std.specs.Prelude.{◌≡◌, ◌≢◌, ◌⊎◌, ℕ, ◌+◌, ◌<◌, ◌^◌, ◌==◌, List, [], ◌∷◌, ◌++◌, length, slice_get, slice_set, Option, None, Some, IsSome, is_some}
use Rattle.std.specs.Prelude.{if◌then◌else◌}
use Rattle.nd_base.specs.Array.{Array, StackValue}
use Rattle.nd_base.specs.declared.array.Head.{Head}
use Rattle.nd_base.specs.declared.graph.Graph.{Graph}
use Rattle.nd_base.specs.declared.graph.Kind.{Kind}
use Rattle.nd_base.specs.declared.graph.Kind.TheVariants.{Roi, Stats, Circular, File, Scatter}
use Rattle.nd_base.specs.declared.graph.NodeRule.{NodeRule}
use Rattle.edge_traits.specs.Files.{Files, file_at}
use Rattle.file_out.specs.declared.fault.SaveFault.{SaveFault}
use Rattle.file_out.specs.declared.fault.SaveFault.TheVariants.{Failed, OutOfMemory}
use Rattle.file_out.specs.Streams.{Stream, IsRow}
use Rattle.graph_files.specs.Groups.{group_of, HasBytes}
use Rattle.graph_files.specs.NodeFiles.{NodeFile, node_file, name_of, first_count, group_file, IsPlaceAfter, AreWritten, IsSized, HasNumrecs, IsTorn}

-- the files of a node of this kind
abbrev pub kind_node : Graph → StackValue → (prefix : List ℕ) → (v : ℕ) → (name : List ℕ) → Kind → List NodeFile
kind_node g s prefix v name (File r) = node_file g s prefix v r name ∷ []
kind_node g s prefix v name (Roi r) = []
kind_node g s prefix v name (Stats r) = []
kind_node g s prefix v name (Circular r) = []
kind_node g s prefix v name Scatter = []

-- the files of these nodes, where v is the number of the first
abbrev pub nodes_from : Graph → StackValue → (prefix : List ℕ) → (v : ℕ) → List NodeRule → List NodeFile
nodes_from g s prefix v [] = []
nodes_from g s prefix v (n ∷ ns) = kind_node g s prefix v n.name n.kind ++ nodes_from g s prefix (v + 1) ns

-- the files of each file node, in the graph's order, before any was begun
abbrev pub file_nodes : Graph → StackValue → (prefix : List ℕ) → List NodeFile
file_nodes g s prefix = nodes_from g s prefix 1 g.nodes

-- the same files, whatever is open
abbrev pub closed : NodeFile → NodeFile
closed x = record x { current = None }

-- no two of these are of one node, or have one name
abbrev pub AreApart : List NodeFile → Type 0
AreApart xs = (j k : ℕ) (x y : NodeFile) → slice_get xs j ≡ Some x → slice_get xs k ≡ Some y → j ≢ k
    → (x.node ≢ y.node) × ((i h : ℕ) → i < 2 ^ 64 → h < 2 ^ 64 → name_of x i ≢ name_of y h)

-- the name is none of the files of these nodes, where these arrays were written at each node
abbrev pub IsElsewhere : List NodeFile → (written : ℕ → List Array) → List ℕ → Type 0
IsElsewhere xs written q = (k : ℕ) (x : NodeFile) (i : ℕ) → slice_get xs k ≡ Some x → IsSome (group_file x (written x.node) i) → q ≢ name_of x i

-- Since the shelf had these files, just these arrays were written at each node: each name of a group has its file, and every other name is as
-- it was. The shelf tells its files as it did.
pub record AllWritten (before : Option Files) (xs : List NodeFile) (written : ℕ → List Array) (held : Option Files) : Type 0 where
  pub told : is_some held ≡ is_some before
  pub each : (k : ℕ) (x : NodeFile) → slice_get xs k ≡ Some x → AreWritten x (written x.node) held
  pub few : (k : ℕ) (x : NodeFile) → slice_get xs k ≡ Some x → length (written x.node) < 2 ^ 64
  pub others : (q : List ℕ) → IsElsewhere xs written q → file_at held q ≡ file_at before q

-- the same, but for the name of this group of this node
pub record AllWrittenBut (before : Option Files) (xs : List NodeFile) (written : ℕ → List Array)
    (at : NodeFile) (group : ℕ) (held : Option Files) : Type 0 where
  pub told : is_some held ≡ is_some before
  pub each : (k : ℕ) (x : NodeFile) (i : ℕ) → slice_get xs k ≡ Some x → (x.node ≢ at.node) ⊎ (i ≢ group)
      → HasBytes held (name_of x i) (group_file x (written x.node) i)
  pub others : (q : List ℕ) → q ≢ name_of at group → IsElsewhere xs written q → file_at held q ≡ file_at before q

-- with one array more at this node
abbrev pub with_array : (written : ℕ → List Array) → (v : ℕ) → Array → ℕ → List Array
with_array written v a w = if w == v then written w ++ a ∷ [] else written w

-- what a write at a node asks for
pub record IsReady (x : NodeFile) (group place : ℕ) (of : Option ℕ) (head : Head) (samples : List ℕ) (held : Option Files) : Type 0 where
  pub written : (arrays : List Array) × IsPlaceAfter x.count arrays group place × AreWritten x arrays held
  pub room : place < x.room
  pub sized : IsSized x.late place x.room of
  pub numrecs : HasNumrecs (first_count x.late of) x.current
  pub row : IsRow x.shape head samples

-- the files of node k may be open otherwise, with this number of records; nothing else of the list changed
abbrev pub IsReopened : (xs : List NodeFile) → (k : ℕ) → (of : Option ℕ) → (ys : List NodeFile) → Type 0
IsReopened xs k of ys =
    (x : NodeFile) → slice_get xs k ≡ Some x → (o : Option Stream) × (ys ≡ slice_set xs k (record x { current = o })) × HasNumrecs (first_count x.late of) o

-- what a write that stopped leaves
abbrev pub AllStops : SaveFault → (before : Option Files) → (x : NodeFile) → (ys : List NodeFile) → (written : ℕ → List Array) → (group : ℕ)
    → (numrecs : Option ℕ) → Array → (held now : Option Files) → Type 0
AllStops OutOfMemory before x ys written group numrecs a held now = AllWritten before ys written now
AllStops Failed before x ys written group numrecs a held now =
    AllWrittenBut before ys written x group now
    × IsTorn (is_some x.current) x.count (file_at held (name_of x group)) x.shape numrecs (group_of x.count group (written x.node)) (a ∷ [])
    (file_at now (name_of x group))
