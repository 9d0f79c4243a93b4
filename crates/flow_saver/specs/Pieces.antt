-- A piece, and where it is to be written.
use Rattle.std.specs.Prelude.{◌≡◌, ℕ, ◌<◌, List, Option}
use Rattle.nd_base.specs.Array.{Array, StackValue}
use Rattle.nd_base.specs.declared.frame.FrameName.{FrameName}
use Rattle.nd_base.specs.declared.graph.Graph.{Graph}
use Rattle.edge_traits.specs.Files.{Files}
use Rattle.chain_plain.specs.Content.{content}
use Rattle.chain_plain.specs.Nodes.{maker_at}
use Rattle.graph_files.specs.NodeFiles.{NodeFile, first_count, IsPlaceAfter, AreWritten, IsSized, HasNumrecs}
use Rattle.graph_files.specs.OutFiles.{file_shape}

-- what the frame of this name holds
abbrev pub content_of : Graph → StackValue → FrameName → Option Array
content_of g stack name = content g.nodes stack.arrays name

-- the array of this name is the next one of these files, at this place of this group
pub record IsDuePiece (g : Graph) (stack : StackValue) (x : NodeFile) (name : FrameName) (group place : ℕ) (of : Option ℕ) (held : Option Files) : Type 0 where
  pub written : (arrays : List Array) × IsPlaceAfter x.count arrays group place × AreWritten x arrays held
  pub room : place < x.room
  pub sized : IsSized x.late place x.room of
  pub numrecs : HasNumrecs (first_count x.late of) x.current
  pub shape : x.shape ≡ file_shape g stack x.node
  pub maker : name.maker ≡ maker_at g.nodes x.node
