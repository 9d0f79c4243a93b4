-- What stands under the names of a graph's groups once the shelf has failed on one of them.
use Rattle.std.specs.Prelude.{◌≡◌, ◌≢◌, ◌⊎◌, ℕ, ◌/◌, ◌<◌, ◌≤◌, Bool, true, false, List, [], ◌++◌, length, Option, None, Some}
use Rattle.nd_base.specs.Array.{Array, StackValue}
use Rattle.nd_base.specs.declared.attribute.FileShape.{FileShape}
use Rattle.nd_base.specs.declared.graph.FileRule.{FileRule}
use Rattle.nd_base.specs.declared.graph.Graph.{Graph}
use Rattle.nd_base.specs.declared.graph.Kind.TheVariants.{File}
use Rattle.nd_base.specs.declared.graph.NodeRule.{NodeRule}
use Rattle.nd_base.specs.GraphRules.{rule_at}
use Rattle.edge_traits.specs.Files.{Files, HasFile, file_at}
use Rattle.cdf_write.specs.Layout.{layout}
use Rattle.file_out.specs.Streams.{begun_file}
use Rattle.graph_files.specs.Interrupted.{IsCountOf}
use Rattle.graph_files.specs.Groups.{group_of}
use Rattle.graph_files.specs.NodeFiles.{IsTorn}
use Rattle.graph_files.specs.OutFiles.{file_shape, group_name, is_stream}

-- what the torn name had when the call failed: what was there at first, where its file wasn't begun, and else the header and the rows that were written
abbrev pub HasStood : (begun : Bool) → FileShape → (numrecs : Option ℕ) → (written : List Array) → (before was : Option (List ℕ)) → Type 0
HasStood false shape numrecs written before was = (written ≡ []) × (was ≡ before)
HasStood true shape numrecs written before was = was ≡ Some (begun_file shape numrecs written)

-- The torn name keeps what it had when the call failed, and may have more of what that call was to write: of the header, where the file wasn't begun, and of
-- the rows of the arrays that came with the call. Once it has all rows of its group, an open number of records may be any four bytes.
pub record IsTornName (late : Bool) (shape : FileShape) (final written more : List Array) (before now : Option (List ℕ)) : Type 0 where
  pub rest : List Array
  pub next : final ≡ (written ++ more) ++ rest
  pub numrecs : Option ℕ
  pub count : IsCountOf late (length final) numrecs
  pub begun : Bool
  pub was : Option (List ℕ)
  pub stood : HasStood begun shape numrecs written before was
  pub torn : IsTorn begun (length final) was shape numrecs written more now

-- the same, where the shelf tells its files
abbrev pub IsTornAt : (late : Bool) → (shape : FileShape) → (final written more : List Array) → (before held : Option Files) → (name : List ℕ) → Type 0
IsTornAt late shape final written more before None name = Unit {0}
IsTornAt late shape final written more before (Some files) name = IsTornName late shape final written more (file_at before name) (file_at (Some files) name)

-- Of all arrays of each file node the first were written, and the shelf failed on one name: that of the group to which the next array of its node goes. But
-- for that, each group that has as many as a group takes is whole, and one of which none was written is as at first. Any other has the header that it was
-- begun with, and its rows; but where the shelf failed at the end of a file, once all were written, those of the nodes up to that file's are whole.
pub record AreTornGroups (g : Graph) (stack : StackValue) (prefix : List ℕ) (final written : ℕ → List Array) (before held : Option Files) : Type 0 where
  pub first : (v : ℕ) → (rest : List Array) × (final v ≡ written v ++ rest)
  -- the node and the group of the torn name, and the arrays that came with the call that failed
  pub node : ℕ
  pub group : ℕ
  pub coming : List Array
  -- what was written fills the groups before this one, and not this one
  pub place : (n : NodeRule) (r : FileRule) → rule_at g.nodes node ≡ Some n → n.kind ≡ File r → group ≡ length (written node) / r.count
  pub torn : (n : NodeRule) (r : FileRule) → rule_at g.nodes node ≡ Some n → n.kind ≡ File r
      → IsTornAt (is_stream r.mode) (file_shape g stack node) (group_of r.count group (final node)) (group_of r.count group (written node))
      coming before held (group_name prefix n.name group)
  -- whether the call that failed was to end a file, after all were written
  pub ending : Bool
  pub none : ending ≡ true → coming ≡ []
  pub all : ending ≡ true → (v : ℕ) (n : NodeRule) (r : FileRule) → rule_at g.nodes v ≡ Some n → n.kind ≡ File r → written v ≡ final v
  pub untouched : (v i : ℕ) (n : NodeRule) (r : FileRule) → rule_at g.nodes v ≡ Some n → n.kind ≡ File r → (v ≢ node) ⊎ (i ≢ group)
      → 1 ≤ length (group_of r.count i (final v)) → group_of r.count i (written v) ≡ []
      → file_at held (group_name prefix n.name i) ≡ file_at before (group_name prefix n.name i)
  pub whole : (v i : ℕ) (n : NodeRule) (r : FileRule) → rule_at g.nodes v ≡ Some n → n.kind ≡ File r → (v ≢ node) ⊎ (i ≢ group)
      → length (group_of r.count i (written v)) ≡ r.count
      → HasFile held (group_name prefix n.name i) (layout (file_shape g stack v) (group_of r.count i (written v)))
  pub ended : ending ≡ true → (v i : ℕ) (n : NodeRule) (r : FileRule) → rule_at g.nodes v ≡ Some n → n.kind ≡ File r → (v ≢ node) ⊎ (i ≢ group) → v ≤ node
      → 1 ≤ length (group_of r.count i (written v))
      → HasFile held (group_name prefix n.name i) (layout (file_shape g stack v) (group_of r.count i (written v)))
  pub begun : (v i : ℕ) (n : NodeRule) (r : FileRule) → rule_at g.nodes v ≡ Some n → n.kind ≡ File r → (v ≢ node) ⊎ (i ≢ group)
      → (ending ≡ true → node < v) → 1 ≤ length (group_of r.count i (written v)) → length (group_of r.count i (written v)) < r.count
      → (numrecs : Option ℕ) × IsCountOf (is_stream r.mode) (length (group_of r.count i (final v))) numrecs
      × HasFile held (group_name prefix n.name i) (begun_file (file_shape g stack v) numrecs (group_of r.count i (written v)))
