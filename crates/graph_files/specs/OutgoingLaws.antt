-- Laws of the arrays that go out of nodes.
use Rattle.std.proofs.Common.{◌≡◌, ℕ, zero, suc, ◌<◌, List, [], ◌∷◌, ◌++◌, Option, None, Some, length, refl, ap, sym, subst, ◌∙◌, arith}
use Rattle.std.specs.Prelude.{All, slice_get}
use Rattle.std.specs.Option.{option_map}
use Rattle.std.proofs.lemmas.List.{length-append}
use Rattle.std.proofs.lemmas.List.Concat.{flat_map-append}
use Rattle.std.proofs.lemmas.List.Elements.{All-head, All-tail, All-nil, All-cons, All-append}
use Rattle.std.proofs.lemmas.Option.{get_or_from_slice_get, slice_get_within}
use Rattle.nd_base.specs.Array.{Array, StackValue}
use Rattle.nd_base.specs.declared.array.Head.{Head}
use Rattle.nd_base.specs.declared.attribute.Attr.{Attr}
use Rattle.nd_base.specs.declared.graph.Graph.{Graph}
use Rattle.nd_base.specs.declared.graph.NodeRule.{NodeRule}
use Rattle.nd_roi.specs.Region.{region}
use Rattle.cdf_write.specs.Writable.{HasShape, HasColumns}
use Rattle.nd_stack.specs.KeptStacks.{IsKeptStack}
use Rattle.chain_plain.specs.Content.{content}
use Rattle.chain_plain.specs.ContentLaws.{frame, out_of-shape, out_of-head}
use Rattle.chain_plain.specs.OneThread.{arrays_out, listed}
use Rattle.chain_plain.specs.Passing.{out_of}
use Rattle.graph_files.specs.OutFiles.{file_shape}

module _ (nodes : List NodeRule) (arrays : List Array) (v : ℕ) where
  pub arrays_out-append : (ks ls : List ℕ) → arrays_out nodes arrays v (ks ++ ls) ≡ arrays_out nodes arrays v ks ++ arrays_out nodes arrays v ls
  arrays_out-append ks ls = flat_map-append (λ (k : ℕ). listed (content nodes arrays (frame v k))) ks ls

  -- one position more
  pub arrays_out-more : (ks : List ℕ) (k : ℕ) (a : Array) → content nodes arrays (frame v k) ≡ Some a
      → arrays_out nodes arrays v (ks ++ k ∷ []) ≡ arrays_out nodes arrays v ks ++ a ∷ []
  arrays_out-more ks k a is =
      arrays_out-append ks (k ∷ []) ∙ ap (λ o. arrays_out nodes arrays v ks ++ (listed o ++ [])) is

  one_each : (xs : List Array) (f : Array → Array) (k : ℕ) → k < length xs → length (listed (option_map f (slice_get xs k))) ≡ 1
  one_each [] f k within = absurd (omega arith)
  one_each (x ∷ xs) f zero within = refl
  one_each (x ∷ xs) f (suc k) within = one_each xs f k (omega arith)

  -- as many arrays as positions
  pub length-arrays_out : (ks : List ℕ) → All (λ k. k < length arrays) ks → length (arrays_out nodes arrays v ks) ≡ length ks
  length-arrays_out [] all = refl
  length-arrays_out (k ∷ ks) all =
      let both = length-append (listed (content nodes arrays (frame v k))) (arrays_out nodes arrays v ks) in
      let here = one_each arrays (out_of region nodes v) k (All-head (λ (i : ℕ). i < length arrays) k ks all) in
      let rest = length-arrays_out ks (All-tail (λ (i : ℕ). i < length arrays) k ks all) in
      omega (arith, both, here, rest)

-- what holds of all that a node makes of the stack's arrays holds of those that go out of it
module _ (P : Array → Type 0) where
  listed-all : (f : Array → Array) (arrays : List Array) (k : ℕ) → All (λ a. P (f a)) arrays → All P (listed (option_map f (slice_get arrays k)))
  listed-all f [] k all = All-nil P
  listed-all f (a ∷ arrays) zero all = All-cons P (f a) [] (All-head (λ (b : Array). P (f b)) a arrays all) (All-nil P)
  listed-all f (a ∷ arrays) (suc k) all = listed-all f arrays k (All-tail (λ (b : Array). P (f b)) a arrays all)

  pub arrays_out-all : (nodes : List NodeRule) (arrays : List Array) (v : ℕ) (ks : List ℕ) → All (λ a. P (out_of region nodes v a)) arrays
      → All P (arrays_out nodes arrays v ks)
  arrays_out-all nodes arrays v [] all = All-nil P
  arrays_out-all nodes arrays v (k ∷ ks) all =
      All-append P (listed (content nodes arrays (frame v k))) (arrays_out nodes arrays v ks) (listed-all (out_of region nodes v) arrays k all)
      (arrays_out-all nodes arrays v ks all)

columns_of : (g : Graph) (s : StackValue) (v : ℕ) (attrs : List Attr) → HasColumns s.shape attrs → HasColumns (file_shape g s v) attrs
columns_of g s v attrs h = record { same = h.same; texts = h.texts }

-- what a node makes of an array of the stack has the shape of the node's file
pub out_has_shape : (g : Graph) (s : StackValue) (v : ℕ) (b : Array) → HasShape s.shape b → HasShape (file_shape g s v) (out_of region g.nodes v b)
out_has_shape g s v b h =
    let made = out_of-shape g.nodes s.shape v b (record { kind = h.kind; dims = h.dims; count = h.count }) in
    record {
      kind = made.kind;
      dims = made.dims;
      count = made.count;
      attrs =
          subst (HasColumns (file_shape g s v)) (sym (ap (λ (head : Head). head.attrs) (out_of-head g.nodes (length g.nodes) v b)))
          (columns_of g s v b.attrs h.attrs);
    }

shaped : (g : Graph) (s : StackValue) (v k : ℕ) (o : Option Array) (a : Array) → IsKeptStack s → slice_get s.arrays k ≡ o
    → option_map (out_of region g.nodes v) o ≡ Some a → HasShape (file_shape g s v) a
shaped g s v k None a kept is made = absurd (cc)
shaped g s v k (Some b) a kept is made =
    let same : out_of region g.nodes v b ≡ a = cc in
    let has : HasShape s.shape b = subst (HasShape s.shape) (get_or_from_slice_get s.arrays k b b is) (kept.each k b (slice_get_within s.arrays k b is)) in
    subst (HasShape (file_shape g s v)) same (out_has_shape g s v b has)

-- a content has the shape of the node's file
pub content-HasShape : (g : Graph) (s : StackValue) (v k : ℕ) (a : Array) → IsKeptStack s
    → content g.nodes s.arrays (frame v k) ≡ Some a → HasShape (file_shape g s v) a
content-HasShape g s v k a kept made = shaped g s v k (slice_get s.arrays k) a kept refl made
