-- Laws of the bytes of contents: those of the stack's frames, of what comes to a node, and of what a region node makes of it.
use Rattle.std.specs.Prelude.{◌≡◌, ℕ, ◌<◌, ◌*◌, List, length, Option, Some, None, IfSome, IsSomeAnd, slice_get, refl}
use Rattle.std.specs.Option.{option_map}
use Rattle.std.proofs.Common.{sym, ap, ◌∙◌, subst, arith, inl, inr}
use Rattle.std.proofs.lemmas.Option.{slice_get_cases}
use Rattle.nd_base.specs.Array.{Array, StackValue}
use Rattle.nd_base.specs.GraphRules.{IsGraph, rule_at}
use Rattle.nd_base.specs.Samples.{width, samples_of}
use Rattle.nd_base.specs.Shapes.{sample_count}
use Rattle.nd_base.specs.Stacks.{frame_size, IsStack, HasShape}
use Rattle.nd_base.specs.declared.array.Dim.{Dim}
use Rattle.nd_base.specs.declared.frame.FrameName.{FrameName}
use Rattle.nd_base.specs.declared.graph.Graph.{Graph}
use Rattle.nd_base.specs.declared.graph.Kind.TheVariants.{Roi}
use Rattle.nd_base.specs.declared.graph.NodeRule.{NodeRule}
use Rattle.nd_base.specs.declared.graph.RoiRule.{RoiRule}
use Rattle.nd_base.specs.declared.plan.Maker.{Maker}
use Rattle.nd_roi.specs.Cut.{region_dims}
use Rattle.nd_roi.specs.Region.{region, region_samples, out_type}
use Rattle.nd_roi.specs.RegionLaws.{length-region_samples}
use Rattle.chain_plain.specs.declared.shape.Shape.{Shape}
use Rattle.chain_plain.specs.Content.{content, AreSamples, IsContent}
use Rattle.chain_plain.specs.ContentLaws.{frame, content-driver, content-maker, content-region, IsOfShape, IsArrayShape, out_of-shape, shape-sound}
use Rattle.chain_plain.specs.Nodes.{maker_at}
use Rattle.chain_plain.specs.Passing.{out_of}
use Rattle.chain_plain.specs.PassingLaws.{out_of-roi}
use Rattle.chain_plain.specs.Plans.{maker_of, region_shape, stack_shape, shape_at}

-- THE DRIVER'S FRAMES

-- the samples of a frame of the stack are its content at the driver
pub frame-content : (g : Graph) (stack : StackValue) (k : ℕ) (bytes : List ℕ) → IsStack stack → k < length stack.arrays
    → IfSome (slice_get stack.arrays k) (λ (a : Array). samples_of stack.shape.kind bytes ≡ a.samples) → length bytes ≡ frame_size stack.shape
    → IsContent g stack (frame 0 k) bytes
frame-content g stack k bytes sound within samples size =
    elim (slice_get_cases stack.arrays k).1 [
      | inl is ↦
          let a = is.0 in
          let shape : HasShape stack.shape a = subst (HasShape stack.shape) is.3 (sound.frames k a is.1) in
          let here = subst (λ (o : Option Array). IfSome o (λ (b : Array). samples_of stack.shape.kind bytes ≡ b.samples)) is.2 samples in
          subst (λ (o : Option Array). IsSomeAnd o (λ (b : Array). AreSamples b bytes)) (sym (content-driver g.nodes stack.arrays k ∙ is.2))
          (record {
            size = size ∙ (ap (λ (n : ℕ). n * width stack.shape.kind) (sym shape.count) ∙ ap (λ t. length a.samples * width t) (sym shape.kind));
            samples = ap (λ t. samples_of t bytes) shape.kind ∙ here;
          })
      | inr past_ ↦ absurd (omega (arith, within, past_.0))
    ]

-- CONTENTS

-- bytes are a content only where there is one
content-some : (g : Graph) (stack : StackValue) (name : FrameName) (bytes : List ℕ) (o : Option Array) → content g.nodes stack.arrays name ≡ o
    → IsSomeAnd o (λ (a : Array). AreSamples a bytes) → (a : Array) × (content g.nodes stack.arrays name ≡ Some a) × AreSamples a bytes
content-some g stack name bytes None is h = absurd h
content-some g stack name bytes (Some a) is h = (a, is, h)

-- the frame of a content is one of the stack
pub index-within : (g : Graph) (stack : StackValue) (name : FrameName) (bytes : List ℕ) → IsContent g stack name bytes → name.index < length stack.arrays
index-within g stack name bytes holds =
    let c = content-some g stack name bytes (content g.nodes stack.arrays name) refl holds in
    elim (slice_get_cases stack.arrays name.index).1 [
      | inl at ↦ at.1
      | inr past_ ↦ let clash : None ≡ Some c.0 = sym (ap (option_map (out_of region g.nodes name.maker)) past_.1) ∙ c.1 in absurd (cc)
    ]

-- what goes out of the maker of a node goes out of the node
pub content-of-maker : (g : Graph) (stack : StackValue) (v k : ℕ) (bytes : List ℕ) → IsGraph g → IsContent g stack (frame (maker_at g.nodes v) k) bytes
    → IsContent g stack (frame v k) bytes
content-of-maker g stack v k bytes sound holds =
    subst (λ (o : Option Array). IsSomeAnd o (λ (a : Array). AreSamples a bytes)) (sym (content-maker g stack.arrays v k sound)) holds

-- WHAT COMES TO A NODE

-- a maker of the shape of what goes out of a node has the dimensions of an array
pub maker-sound : (g : Graph) (stack : StackValue) (m : Maker) (v : ℕ) → IsStack stack
    → m ≡ maker_of m.node (shape_at g.nodes stack.shape v) → IsArrayShape m.dims
maker-sound g stack m v sound made = subst (λ (x : Maker). IsArrayShape x.dims) (sym made) (shape-sound g stack v sound)

-- what goes out of a node of a frame of the stack has the shape that the plan says
shaped : (g : Graph) (stack : StackValue) (w : ℕ) (k : ℕ) (a : Array) (o : Option Array) → IsStack stack → o ≡ slice_get stack.arrays k
    → option_map (out_of region g.nodes w) o ≡ Some a → IsOfShape a (shape_at g.nodes stack.shape w) × (k < length stack.arrays)
shaped g stack w k a None sound is h = let clash : None ≡ Some a = h in absurd (cc)
shaped g stack w k a (Some b) sound is h =
    elim (slice_get_cases stack.arrays k).1 [
      | inl at ↦
          let found : Some at.0 ≡ Some b = sym at.2 ∙ sym is in
          let same_ : at.0 ≡ b = cc in
          let shape : HasShape stack.shape b = subst (HasShape stack.shape) (at.3 ∙ same_) (sound.frames k at.0 at.1) in
          let out : Some (out_of region g.nodes w b) ≡ Some a = h in
          let made : out_of region g.nodes w b ≡ a = cc in
          (subst (λ (c : Array). IsOfShape c (shape_at g.nodes stack.shape w)) made (out_of-shape g.nodes stack.shape w b shape), at.1)
      | inr past_ ↦ let clash : Some b ≡ None = is ∙ past_.1 in absurd (cc)
    ]

-- the array that comes to a node, with the bytes of its frame and what the plan says of it
pub record Input (g : Graph) (stack : StackValue) (n : NodeRule) (m : Maker) (name : FrameName) (bytes : List ℕ) : Type 0 where
  pub array : Array
  pub named : content g.nodes stack.arrays name ≡ Some array
  pub made : content g.nodes stack.arrays (frame (maker_at g.nodes n.input) name.index) ≡ Some array
  pub kind : array.kind ≡ m.kind
  pub dims : array.dims ≡ m.dims
  pub size : length bytes ≡ sample_count m.dims * width m.kind
  pub samples : samples_of m.kind bytes ≡ array.samples
  pub within : name.index < length stack.arrays

-- a frame that has what goes out of the node's input comes to the node
pub input-of : (g : Graph) (stack : StackValue) (n : NodeRule) (m : Maker) (name : FrameName) (bytes : List ℕ) → IsGraph g → IsStack stack
    → m ≡ maker_of m.node (shape_at g.nodes stack.shape n.input)
    → content g.nodes stack.arrays name ≡ content g.nodes stack.arrays (frame n.input name.index) → IsContent g stack name bytes
    → Input g stack n m name bytes
input-of g stack n m name bytes sound stack_ maker comes holds =
    let c = content-some g stack name bytes (content g.nodes stack.arrays name) refl holds in
    let k = name.index in
    let above : content g.nodes stack.arrays (frame n.input k) ≡ Some c.0 = sym comes ∙ c.1 in
    let shape = shaped g stack n.input k c.0 (slice_get stack.arrays k) stack_ refl above in
    let kind_ : c.0.kind ≡ m.kind = shape.0.kind ∙ sym (ap (λ (x : Maker). x.kind) maker) in
    let dims_ : c.0.dims ≡ m.dims = shape.0.dims ∙ sym (ap (λ (x : Maker). x.dims) maker) in
    let count_ : length c.0.samples ≡ sample_count m.dims = shape.0.count ∙ sym (ap (λ (x : Maker). sample_count x.dims) maker) in
    record {
      array = c.0;
      named = c.1;
      made = sym (content-maker g stack.arrays n.input k sound) ∙ above;
      kind = kind_;
      dims = dims_;
      size = c.2.size ∙ (ap (λ (i : ℕ). i * width c.0.kind) count_ ∙ ap (λ t. sample_count m.dims * width t) kind_);
      samples = ap (λ t. samples_of t bytes) (sym kind_) ∙ c.2.samples;
      within = shape.1;
    }

-- REGIONS

-- what a region node makes has the bytes of the region
pub region-need : (g : Graph) (stack : StackValue) (v : ℕ) (n : NodeRule) (r : RoiRule) (from to : Maker) → IsGraph g
    → rule_at g.nodes v ≡ Some n → n.kind ≡ Roi r
    → from ≡ maker_of from.node (shape_at g.nodes stack.shape n.input) → to ≡ maker_of to.node (shape_at g.nodes stack.shape v)
    → to.need ≡ sample_count (region_dims r from.dims) * width (out_type r from.kind)
region-need g stack v n r from to sound rule kind is made =
    let shape : shape_at g.nodes stack.shape v ≡ region_shape r (shape_at g.nodes stack.shape n.input) =
    out_of-roi region_shape g v n r (stack_shape stack.shape) sound (sym rule) kind in
    ap (λ (x : Maker). x.need) made ∙ (ap (λ (t : Shape). sample_count t.dims * width t.kind) shape
    ∙ sym (ap (λ (x : Maker). sample_count (region_dims r x.dims) * width (out_type r x.kind)) is))

-- the samples of the region of what comes to a region node are the content that it makes
pub region-content : (g : Graph) (stack : StackValue) (v : ℕ) (n : NodeRule) (r : RoiRule) (m : Maker) (name : FrameName) (bytes out : List ℕ) → IsGraph g
    → rule_at g.nodes v ≡ Some n → n.kind ≡ Roi r → Input g stack n m name bytes
    → length out ≡ sample_count (region_dims r m.dims) * width (out_type r m.kind)
    → samples_of (out_type r m.kind) out ≡ region_samples r m.kind m.dims (samples_of m.kind bytes) → IsContent g stack (frame v name.index) out
region-content g stack v n r m name bytes out sound rule kind i size samples =
    let a = i.array in
    let made_ : content g.nodes stack.arrays (frame v name.index) ≡ Some (region r a) =
    content-region g stack.arrays v name.index n r sound rule kind ∙ ap (option_map (region r)) i.made in
    let shape : (dims : List Dim) → dims ≡ m.dims → length (region_samples r a.kind dims a.samples) ≡ sample_count (region_dims r m.dims) =
    λ dims same_. length-region_samples r a.kind dims a.samples ∙ ap (λ (d : List Dim). sample_count (region_dims r d)) same_ in
    subst (λ (o : Option Array). IsSomeAnd o (λ (b : Array). AreSamples b out)) (sym made_)
    (record {
      size =
          size
          ∙ (ap (λ (c : ℕ). c * width (out_type r m.kind)) (sym (shape a.dims i.dims))
          ∙ ap (λ t. length (region_samples r a.kind a.dims a.samples) * width (out_type r t)) (sym i.kind));
      samples = ap (λ t. samples_of (out_type r t) out) i.kind ∙ (samples ∙ (ap (λ t. region_samples r t m.dims (samples_of m.kind bytes)) (sym i.kind)
          ∙ (ap (λ (d : List Dim). region_samples r a.kind d (samples_of m.kind bytes)) (sym i.dims) ∙ ap (region_samples r a.kind a.dims) i.samples)));
    })
