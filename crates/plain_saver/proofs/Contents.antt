-- The samples that go out of a node, as a row of its file and as the row of its measure.
use Rattle.std.proofs.Common.{◌≡◌, ℕ, ◌*◌, List, Option, Some, None, refl, sym, ap, subst, ◌∙◌, length}
use Rattle.std.specs.Prelude.{slice_get, IfSome, IsSomeAnd}
use Rattle.std.specs.Option.{option_map}
use Rattle.std.proofs.lemmas.Option.{slice_get_within, get_or_from_slice_get}
use Rattle.nd_base.specs.Array.{Array, StackValue}
use Rattle.nd_base.specs.Samples.{width}
use Rattle.nd_base.specs.Shapes.{array_of, sample_count}
use Rattle.nd_base.specs.Stacks.{head_of, HasShape, IsStack}
use Rattle.nd_base.specs.declared.array.Head.{Head}
use Rattle.nd_base.specs.declared.graph.Graph.{Graph}
use Rattle.nd_base.specs.declared.plan.Maker.{Maker}
use Rattle.nd_roi.specs.Region.{region}
use Rattle.nd_stack.specs.KeptStacks.{IsKeptStack}
use Rattle.chain_plain.specs.Content.{AreSamples, IsContent, content}
use Rattle.chain_plain.specs.ContentLaws.{frame, IsOfShape, out_of-head, out_of-shape}
use Rattle.chain_plain.specs.Passing.{out_of}
use Rattle.chain_plain.specs.Plans.{maker_of, shape_at}
use Rattle.file_out.specs.Streams.{IsRow}
use Rattle.graph_files.specs.NodeFiles.{NodeFile}
use Rattle.graph_files.specs.OutFiles.{file_shape}
use Rattle.graph_files.specs.RowLaws.{content-IsRow, content-array_of}

-- these bytes are the samples of the array of frame k that goes out of node v, and this is its head
pub record IsArrayOut (g : Graph) (s : StackValue) (v k : ℕ) (head : Head) (bytes : List ℕ) : Type 0 where
  pub array : Array
  pub made : content g.nodes s.arrays (frame v k) ≡ Some array
  pub own : head_of array ≡ head
  pub samples : AreSamples array bytes
  pub shape : IsOfShape array (shape_at g.nodes s.shape v)

module _ (g : Graph) (s : StackValue) (stack : IsStack s) (v k : ℕ) (head : Head) (bytes : List ℕ) where
  facts : (o : Option Array) → slice_get s.arrays k ≡ o → IsSomeAnd (option_map (out_of region g.nodes v) o) (λ a. AreSamples a bytes)
      → IfSome o (λ a. head_of a ≡ head) → IsArrayOut g s v k head bytes
  facts None is holds heads = absurd holds
  facts (Some b) is holds heads = record {
    array = out_of region g.nodes v b;
    made = ap (option_map (out_of region g.nodes v)) is;
    own = out_of-head g.nodes (length g.nodes) v b ∙ heads;
    samples = holds;
    shape = out_of-shape g.nodes s.shape v b
        (subst (HasShape s.shape) (get_or_from_slice_get s.arrays k b b is) (stack.frames k b (slice_get_within s.arrays k b is)));
  }

  pub array-out : IsContent g s (frame v k) bytes → IfSome (slice_get s.arrays k) (λ a. head_of a ≡ head) → IsArrayOut g s v k head bytes
  array-out holds heads = facts (slice_get s.arrays k) refl holds heads

module _ (g : Graph) (s : StackValue) (x : NodeFile) (k : ℕ) (head : Head) (bytes : List ℕ) (kept : IsKeptStack s) (shape : x.shape ≡ file_shape g s x.node)
    (out : IsArrayOut g s x.node k head bytes) where
  -- they make a row of the node's file
  pub out-row : IsRow x.shape head bytes
  out-row =
      content-IsRow g s x.node k out.array x.shape head bytes kept shape out.made (ap (λ (h : Head). h.attrs) (sym out.own)) out.samples.size

  -- and the row's array is that one
  pub out-array : array_of head x.shape.kind x.shape.dims bytes ≡ out.array
  out-array = content-array_of g s x.node k out.array x.shape head bytes kept shape out.made out.own out.samples.samples

module _ (g : Graph) (s : StackValue) (v k : ℕ) (head : Head) (bytes : List ℕ) (out : IsArrayOut g s v k head bytes) (m : Maker)
    (maker : m ≡ maker_of m.node (shape_at g.nodes s.shape v)) where
  -- they have the type and the dimensions that the plan says
  pub out-kind : m.kind ≡ out.array.kind
  out-kind = ap (λ (x : Maker). x.kind) maker ∙ sym out.shape.kind

  pub out-dims : m.dims ≡ out.array.dims
  out-dims = ap (λ (x : Maker). x.dims) maker ∙ sym out.shape.dims

  -- and as many bytes
  pub out-size : length bytes ≡ sample_count m.dims * width m.kind
  out-size =
      out.samples.size
      ∙ (ap (λ n. n * width out.array.kind) (out.shape.count ∙ sym (ap (λ (x : Maker). sample_count x.dims) maker))
      ∙ ap (λ t. sample_count m.dims * width t) (sym out-kind))

-- a content is an array
pub content-array : (g : Graph) (s : StackValue) (v k : ℕ) (bytes : List ℕ) → IsContent g s (frame v k) bytes
    → (a : Array) × (content g.nodes s.arrays (frame v k) ≡ Some a)
content-array g s v k bytes holds = found (content g.nodes s.arrays (frame v k)) refl holds
  where
    found : (o : Option Array) → content g.nodes s.arrays (frame v k) ≡ o → IsSomeAnd o (λ a. AreSamples a bytes)
        → (a : Array) × (content g.nodes s.arrays (frame v k) ≡ Some a)
    found None is h = absurd h
    found (Some a) is h = (a, is)
