-- LAWS: the contents of frames as rows of a node's file.
use Rattle.std.proofs.Common.{◌≡◌, ℕ, ◌*◌, List, [], ◌∷◌, Some, length, ap, sym, subst, ◌∙◌, arith}
use Rattle.std.specs.Prelude.{All}
use Rattle.std.proofs.lemmas.List.Elements.{All-nil, All-cons}
use Rattle.nd_base.specs.Array.{Array, StackValue}
use Rattle.nd_base.specs.Samples.{samples_of, width}
use Rattle.nd_base.specs.Shapes.{array_of, sample_count}
use Rattle.nd_base.specs.Stacks.{head_of}
use Rattle.nd_base.specs.Stacks as stacks
use Rattle.nd_base.specs.declared.array.Head.{Head}
use Rattle.nd_base.specs.declared.attribute.FileShape.{FileShape}
use Rattle.nd_base.specs.declared.graph.Graph.{Graph}
use Rattle.cdf_write.specs.Writable.{HasShape, HasColumns}
use Rattle.file_out.specs.Streams.{IsRow}
use Rattle.nd_stack.specs.KeptStacks.{IsKeptStack}
use Rattle.nd_base.specs.Rebuilt.{frame-rebuilt}
use Rattle.chain_plain.specs.Content.{content}
use Rattle.chain_plain.specs.ContentLaws.{frame}
use Rattle.graph_files.specs.OutFiles.{file_shape}
use Rattle.graph_files.specs.OutgoingLaws.{content-HasShape}

pub head_is : (a : Array) (h : Head) → h.id ≡ a.id → h.stamp ≡ a.stamp → h.sec ≡ a.sec → h.nsec ≡ a.nsec → h.attrs ≡ a.attrs → head_of a ≡ h
head_is a h id stamp sec nsec attrs =
    ap (λ i. record { id = i; stamp = a.stamp; sec = a.sec; nsec = a.nsec; attrs = a.attrs }) (sym id)
    ∙ ap (λ i. record { id = h.id; stamp = i; sec = a.sec; nsec = a.nsec; attrs = a.attrs }) (sym stamp)
    ∙ ap (λ i. record { id = h.id; stamp = h.stamp; sec = i; nsec = a.nsec; attrs = a.attrs }) (sym sec)
    ∙ ap (λ i. record { id = h.id; stamp = h.stamp; sec = h.sec; nsec = i; attrs = a.attrs }) (sym nsec)
    ∙ ap (λ i. record { id = h.id; stamp = h.stamp; sec = h.sec; nsec = h.nsec; attrs = i }) (sym attrs)

-- the array of its head and its bytes is the array
array_of-parts : (a : Array) (shape : FileShape) (head : Head) (bytes : List ℕ) → HasShape shape a → head_of a ≡ head → samples_of a.kind bytes ≡ a.samples
    → array_of head shape.kind shape.dims bytes ≡ a
array_of-parts a shape head bytes has is samples =
    let same : samples_of shape.kind bytes ≡ a.samples = ap (λ kind. samples_of kind bytes) (sym has.kind) ∙ samples in
    let all : All (stacks.HasShape shape) (a ∷ []) =
    All-cons (stacks.HasShape shape) a [] (record { kind = has.kind; dims = has.dims; count = has.count }) (All-nil (stacks.HasShape shape)) in
    let one : Some a ≡ Some (array_of head shape.kind shape.dims bytes) = frame-rebuilt (a ∷ []) shape 0 head bytes (omega arith) all is same in
    cc

module _ (g : Graph) (s : StackValue) (v k : ℕ) (a : Array) (shape : FileShape) (head : Head) (bytes : List ℕ) (kept : IsKeptStack s)
    (same : shape ≡ file_shape g s v) (made : content g.nodes s.arrays (frame v k) ≡ Some a) where
  has_shape : HasShape shape a
  has_shape = subst (λ (sh : FileShape). HasShape sh a) (sym same) (content-HasShape g s v k a kept made)

  -- a content's attributes and bytes make a row of the node's file
  pub content-IsRow : head.attrs ≡ a.attrs → length bytes ≡ length a.samples * width a.kind → IsRow shape head bytes
  content-IsRow attrs count = record {
    columns = subst (HasColumns shape) (sym attrs) has_shape.attrs;
    samples = count ∙ ap (λ n. n * width a.kind) has_shape.count ∙ ap (λ kind. sample_count shape.dims * width kind) has_shape.kind;
  }

  -- and the row's array is the content
  pub content-array_of : head_of a ≡ head → samples_of a.kind bytes ≡ a.samples → array_of head shape.kind shape.dims bytes ≡ a
  content-array_of is samples = array_of-parts a shape head bytes has_shape is samples
