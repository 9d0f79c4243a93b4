-- A piece as a row of its node's file.
use Rattle.std.proofs.Common.{◌≡◌, ℕ, List, Option, Some, None, refl, sym, ap, ◌∙◌, length}
use Rattle.std.specs.Prelude.{slice_get, IsSomeAnd}
use Rattle.std.specs.Option.{IfSome, option_map}
use Rattle.nd_base.specs.Array.{Array, StackValue}
use Rattle.nd_base.specs.Shapes.{array_of}
use Rattle.nd_base.specs.Stacks.{head_of}
use Rattle.nd_base.specs.GraphRules.{IsGraph}
use Rattle.nd_base.specs.declared.array.Head.{Head}
use Rattle.nd_base.specs.declared.frame.FrameName.{FrameName}
use Rattle.nd_base.specs.declared.graph.Graph.{Graph}
use Rattle.chain_plain.specs.Content.{AreSamples, IsContent, content}
use Rattle.nd_roi.specs.Region.{region}
use Rattle.nd_stack.specs.KeptStacks.{IsKeptStack}
use Rattle.chain_plain.specs.ContentLaws.{frame, out_of-head, content-maker}
use Rattle.chain_plain.specs.Nodes.{maker_at}
use Rattle.chain_plain.specs.Passing.{out_of}
use Rattle.file_out.specs.Streams.{IsRow}
use Rattle.graph_files.specs.NodeFiles.{NodeFile}
use Rattle.graph_files.specs.OutFiles.{file_shape}
use Rattle.graph_files.specs.RowLaws.{content-IsRow, content-array_of}
use Rattle.flow_saver.specs.Pieces.{content_of}

pub record IsPieceRow (g : Graph) (stack : StackValue) (x : NodeFile) (name : FrameName) (head : Head) (bytes : List ℕ) : Type 0 where
  pub array : Array
  pub holds : content_of g stack name ≡ Some array
  pub row : IsRow x.shape head bytes
  pub same : array_of head x.shape.kind x.shape.dims bytes ≡ array

module _ (g : Graph) (stack : StackValue) (sound : IsGraph g) (kept : IsKeptStack stack) (x : NodeFile) (shape : x.shape ≡ file_shape g stack x.node)
    (name : FrameName) (maker : name.maker ≡ maker_at g.nodes x.node) (head : Head) (bytes : List ℕ) where
  facts : (o : Option Array) → slice_get stack.arrays name.index ≡ o
      → IsSomeAnd (option_map (out_of region g.nodes name.maker) o) (λ a. AreSamples a bytes) → IfSome o (λ a. head_of a ≡ head)
      → IsPieceRow g stack x name head bytes
  facts None is holds heads = absurd holds
  facts (Some b) is holds heads =
      let a = out_of region g.nodes name.maker b in
      let has : content g.nodes stack.arrays name ≡ Some a = ap (option_map (out_of region g.nodes name.maker)) is in
      let made : content g.nodes stack.arrays (frame x.node name.index) ≡ Some a =
      content-maker g stack.arrays x.node name.index sound ∙ ap (λ (m : ℕ). content g.nodes stack.arrays (frame m name.index)) (sym maker) ∙ has in
      let own : head_of a ≡ head = out_of-head g.nodes (length g.nodes) name.maker b ∙ heads in
      record {
        array = a;
        holds = has;
        row = content-IsRow g stack x.node name.index a x.shape head bytes kept shape made (ap (λ (h : Head). h.attrs) (sym own)) holds.size;
        same = content-array_of g stack x.node name.index a x.shape head bytes kept shape made own holds.samples;
      }

  pub piece-row : IsContent g stack name bytes → IfSome (slice_get stack.arrays name.index) (λ a. head_of a ≡ head) → IsPieceRow g stack x name head bytes
  piece-row holds heads = facts (slice_get stack.arrays name.index) refl holds heads
