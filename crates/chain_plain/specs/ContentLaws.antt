-- Laws of contents: how they follow from one another, and what they have of the plan and of the stack.
use Rattle.std.specs.Prelude.{◌≡◌, ℕ, zero, suc, ◌≤◌, ◌*◌, false, List, ◌∷◌, length, All, Option, Some, None, IfSome, IsTrue, slice_get, refl}
use Rattle.std.specs.Option.{option_map, option_map_or}
use Rattle.std.proofs.Common.{ap, sym, subst, arith, ◌∙◌, get_or}
use Rattle.std.proofs.lemmas.List.Elements.{All-map}
use Rattle.std.proofs.lemmas.Option.{slice_get_within, get_or_from_slice_get}
use Rattle.nd_base.specs.Array.{Array, StackValue}
use Rattle.nd_base.specs.GraphRules.{IsGraph, input_of, rule_at}
use Rattle.nd_base.specs.Samples.{width}
use Rattle.nd_base.specs.Shapes.{has_dimensions, sample_count, most_samples}
use Rattle.nd_base.specs.Stacks.{HasShape, IsStack, head_of}
use Rattle.nd_base.specs.declared.array.Dim.{Dim}
use Rattle.nd_base.specs.declared.array.Head.{Head}
use Rattle.nd_base.specs.declared.attribute.FileShape.{FileShape}
use Rattle.nd_base.specs.declared.frame.FrameName.{FrameName}
use Rattle.nd_base.specs.declared.graph.CircularRule.{CircularRule}
use Rattle.nd_base.specs.declared.graph.Graph.{Graph}
use Rattle.nd_base.specs.declared.graph.Kind.{Kind}
use Rattle.nd_base.specs.declared.graph.Kind.TheVariants.{Roi, Stats, Circular, File, Scatter}
use Rattle.nd_base.specs.declared.graph.NodeRule.{NodeRule}
use Rattle.nd_base.specs.declared.graph.RoiRule.{RoiRule}
use Rattle.nd_base.specs.declared.plan.Maker.{Maker}
use Rattle.nd_roi.specs.Cut.{region_dims}
use Rattle.nd_roi.specs.CutLaws.{region_dims-count, region_dims-has_dimensions}
use Rattle.nd_roi.specs.Region.{region, out_type}
use Rattle.nd_roi.specs.RegionLaws.{length-region_samples}
use Rattle.trig_window.specs.Triggers.{trigger_fires}
use Rattle.chain_plain.specs.declared.shape.Shape.{Shape}
use Rattle.chain_plain.specs.Content.{content}
use Rattle.chain_plain.specs.Nodes.{maker_at, regions}
use Rattle.chain_plain.specs.OneThread.{fires_at}
use Rattle.chain_plain.specs.Passing.{by_kind, by_node, passed_on, out_of}
use Rattle.chain_plain.specs.PassingLaws.{IsMaker, input_some, maker_makes, out_of-driver, out_of-maker, out_of-step}
use Rattle.chain_plain.specs.Plans.{maker_of, plan_of, region_shape, stack_shape, shape_at}

abbrev pub frame : ℕ → ℕ → FrameName
frame m k = record { maker = m; index = k }

map-both : (f g : Array → Array) (o : Option Array) → ((a : Array) → f a ≡ g a) → option_map f o ≡ option_map g o
map-both f g None h = refl
map-both f g (Some a) h = ap Some (h a)

map-twice : (f g : Array → Array) (o : Option Array) → option_map (λ a. f (g a)) o ≡ option_map f (option_map g o)
map-twice f g None = refl
map-twice f g (Some a) = refl

map-same : (f : Array → Array) (o : Option Array) → ((a : Array) → f a ≡ a) → option_map f o ≡ o
map-same f None h = refl
map-same f (Some a) h = ap Some (h a)

always : {X : Type 0} (P : X → Type 0) (xs : List X) → ((x : X) → P x) → All P xs
always P xs f i d within = f (get_or xs i d)

-- at the driver it is the stack's array
abbrev pub DriverHasTheStack : Type 0
DriverHasTheStack = (nodes : List NodeRule) (arrays : List Array) (k : ℕ) → content nodes arrays (frame 0 k) ≡ slice_get arrays k

pub content-driver : DriverHasTheStack
content-driver nodes arrays k = map-same (out_of region nodes 0) (slice_get arrays k) (λ a. out_of-driver region nodes (length nodes) a)

-- at a node it is what the node makes of the content at its input
pub content-step : (g : Graph) (arrays : List Array) (v k : ℕ) → IsGraph g
    → content g.nodes arrays (frame v k) ≡ option_map (by_node region (rule_at g.nodes v)) (content g.nodes arrays (frame (input_of g.nodes v) k))
content-step g arrays v k sound =
    map-both (out_of region g.nodes v) (λ a. by_node region (rule_at g.nodes v) (out_of region g.nodes (input_of g.nodes v) a)) (slice_get arrays k)
    (λ a. out_of-step region g v a sound)
    ∙ map-twice (by_node region (rule_at g.nodes v)) (out_of region g.nodes (input_of g.nodes v)) (slice_get arrays k)

-- a number stands for the maker of what that node passes on
abbrev pub NodesPassOnTheirMakers : Type 0
NodesPassOnTheirMakers =
    (g : Graph) (arrays : List Array) (v k : ℕ) → IsGraph g → content g.nodes arrays (frame v k) ≡ content g.nodes arrays (frame (maker_at g.nodes v) k)

pub content-maker : NodesPassOnTheirMakers
content-maker g arrays v k sound =
    map-both (out_of region g.nodes v) (out_of region g.nodes (maker_at g.nodes v)) (slice_get arrays k) (λ a. out_of-maker region g v a sound)

-- at a region node it is the region of the content at the maker that the node's input passes on
abbrev pub RegionsCutTheirInputs : Type 0
RegionsCutTheirInputs =
    (g : Graph) (arrays : List Array) (v k : ℕ) (n : NodeRule) (r : RoiRule) → IsGraph g → rule_at g.nodes v ≡ Some n → n.kind ≡ Roi r
    → content g.nodes arrays (frame v k) ≡ option_map (region r) (content g.nodes arrays (frame (maker_at g.nodes n.input) k))

pub content-region : RegionsCutTheirInputs
content-region g arrays v k n r sound is kind =
    content-step g arrays v k sound
    ∙ ap (λ o. option_map (by_node region o) (content g.nodes arrays (frame (input_of g.nodes v) k))) is
    ∙ ap (λ w. option_map (by_kind region n.kind) (content g.nodes arrays (frame w k))) (input_some g.nodes v n (sym is))
    ∙ ap (λ q. option_map (by_kind region q) (content g.nodes arrays (frame n.input k))) kind
    ∙ ap (option_map (region r)) (content-maker g arrays n.input k sound)

-- the maker is the driver or a region node
abbrev pub MakersMake : Type 0
MakersMake = (nodes : List NodeRule) (v : ℕ) → IsMaker nodes (maker_at nodes v)

pub maker_at-makes : MakersMake
maker_at-makes nodes v = maker_makes nodes (length nodes) v

-- what holds of what goes out of the driver, and stays at each region, holds of what goes out of a node
module _ {X Y : Type 0} (R : X → Y → Type 0)
    (f : RoiRule → X → X) (g : RoiRule → Y → Y) (both : (r : RoiRule) (x : X) (y : Y) → R x y → R (f r x) (g r y)) where
  by_kind-both : (kind : Kind) (x : X) (y : Y) → R x y → R (by_kind f kind x) (by_kind g kind y)
  by_kind-both (Roi r) x y h = both r x y h
  by_kind-both (Stats r) x y h = h
  by_kind-both (Circular r) x y h = h
  by_kind-both (File r) x y h = h
  by_kind-both Scatter x y h = h

  by_node-both : (n : Option NodeRule) (x : X) (y : Y) → R x y → R (by_node f n x) (by_node g n y)
  by_node-both None x y h = h
  by_node-both (Some n) x y h = by_kind-both n.kind x y h

  pub passed_on-both : (nodes : List NodeRule) (steps v : ℕ) (x : X) (y : Y) → R x y → R (passed_on f nodes steps v x) (passed_on g nodes steps v y)
  passed_on-both nodes zero v x y h = h
  passed_on-both nodes (suc steps) v x y h = by_node-both (rule_at nodes v) _ _ (passed_on-both nodes steps (input_of nodes v) x y h)

-- the array has this type and these dimensions, and the samples of these
pub record IsOfShape (a : Array) (s : Shape) : Type 0 where
  pub kind : a.kind ≡ s.kind
  pub dims : a.dims ≡ s.dims
  pub count : length a.samples ≡ sample_count s.dims

region-shape : (r : RoiRule) (a : Array) (s : Shape) → IsOfShape a s → IsOfShape (region r a) (region_shape r s)
region-shape r a s h =
    record {
      kind = ap (out_type r) h.kind;
      dims = ap (region_dims r) h.dims;
      count = length-region_samples r a.kind a.dims a.samples ∙ ap (λ d. sample_count (region_dims r d)) h.dims;
    }

-- what goes out of a node has the shape that the plan says
pub out_of-shape : (nodes : List NodeRule) (shape : FileShape) (v : ℕ) (a : Array) → HasShape shape a
    → IsOfShape (out_of region nodes v a) (shape_at nodes shape v)
out_of-shape nodes shape v a h =
    passed_on-both IsOfShape region region_shape region-shape nodes (length nodes) v a (stack_shape shape)
    (record { kind = h.kind; dims = h.dims; count = h.count })

-- the array has the type, the dimensions and the bytes that a maker's arrays have
pub record IsMadeBy (m : Maker) (a : Array) : Type 0 where
  pub kind : a.kind ≡ m.kind
  pub dims : a.dims ≡ m.dims
  pub count : length a.samples ≡ sample_count m.dims
  pub need : length a.samples * width a.kind ≡ m.need

made_as_planned : (v : ℕ) (a : Array) (s : Shape) → IsOfShape a s → IsMadeBy (maker_of v s) a
made_as_planned v a s h =
    record {
      kind = h.kind;
      dims = h.dims;
      count = h.count;
      need = ap (λ n. n * width a.kind) h.count ∙ ap (λ k. sample_count s.dims * width k) h.kind;
    }

-- a content has the type, the dimensions and the bytes that the plan says
abbrev pub ContentsAreAsPlanned : Type 0
ContentsAreAsPlanned =
    (g : Graph) (s : StackValue) (k : ℕ) → IsStack s → All (λ m. IfSome (content g.nodes s.arrays (frame m.node k)) (IsMadeBy m)) (plan_of g s).makers

stack_frame : (arrays : List Array) (P : Array → Type 0) (k : ℕ) (o : Option Array) → All P arrays → o ≡ slice_get arrays k → IfSome o P
stack_frame arrays P k None all h = tt
stack_frame arrays P k (Some a) all h =
    subst P (get_or_from_slice_get arrays k a a (sym h)) (all k a (slice_get_within arrays k a (sym h)))

planned_at : (nodes : List NodeRule) (shape : FileShape) (v : ℕ) (o : Option Array) → IfSome o (HasShape shape)
    → IfSome (option_map (out_of region nodes v) o) (IsMadeBy (maker_of v (shape_at nodes shape v)))
planned_at nodes shape v None h = tt
planned_at nodes shape v (Some a) h = made_as_planned v (out_of region nodes v a) (shape_at nodes shape v) (out_of-shape nodes shape v a h)

pub contents-planned : ContentsAreAsPlanned
contents-planned g s k stack =
    All-map (λ m. IfSome (content g.nodes s.arrays (frame m.node k)) (IsMadeBy m)) (λ v. maker_of v (shape_at g.nodes s.shape v)) (0 ∷ regions g.nodes)
    (always _ (0 ∷ regions g.nodes)
    (λ v. planned_at g.nodes s.shape v (slice_get s.arrays k) (stack_frame s.arrays (HasShape s.shape) k (slice_get s.arrays k) stack.frames refl)))

-- the dimensions are those of an array
pub record IsArrayShape (dims : List Dim) : Type 0 where
  pub dimensions : IsTrue (has_dimensions dims)
  pub few : sample_count dims ≤ most_samples

region-sound : (r : RoiRule) (s t : Shape) → IsArrayShape s.dims → IsArrayShape (region_shape r s).dims
region-sound r s t h =
    let less = region_dims-count r s.dims h.dimensions in
    record { dimensions = region_dims-has_dimensions r s.dims h.dimensions; few = omega (arith, less, h.few) }

-- what goes out of a node has the dimensions of an array
pub shape-sound : (g : Graph) (stack : StackValue) (v : ℕ) → IsStack stack → IsArrayShape (shape_at g.nodes stack.shape v).dims
shape-sound g stack v sound =
    passed_on-both (λ (t u : Shape). IsArrayShape t.dims) region_shape region_shape region-sound g.nodes (length g.nodes) v
    (stack_shape stack.shape) (stack_shape stack.shape) (record { dimensions = sound.dimensions; few = sound.few_samples })

-- every maker of a plan has dimensions of an array
abbrev pub PlansAreSound : Type 0
PlansAreSound = (g : Graph) (s : StackValue) → IsStack s → All (λ m. IsArrayShape m.dims) (plan_of g s).makers

pub plans-sound : PlansAreSound
plans-sound g s stack =
    All-map (λ m. IsArrayShape m.dims) (λ v. maker_of v (shape_at g.nodes s.shape v)) (0 ∷ regions g.nodes)
    (always _ (0 ∷ regions g.nodes) (λ v. shape-sound g s v stack))

still_kind : (kind : Kind) (h : Head) → by_kind (λ r x. x) kind h ≡ h
still_kind (Roi r) h = refl
still_kind (Stats r) h = refl
still_kind (Circular r) h = refl
still_kind (File r) h = refl
still_kind Scatter h = refl

still : (n : Option NodeRule) (h : Head) → by_node (λ r x. x) n h ≡ h
still None h = refl
still (Some n) h = still_kind n.kind h

unmoved : (nodes : List NodeRule) (steps v : ℕ) (h : Head) → passed_on (λ r x. x) nodes steps v h ≡ h
unmoved nodes zero v h = refl
unmoved nodes (suc steps) v h = still (rule_at nodes v) (passed_on (λ r x. x) nodes steps (input_of nodes v) h) ∙ unmoved nodes steps (input_of nodes v) h

-- id, times and attributes are those of the stack's array
pub out_of-head : (nodes : List NodeRule) (steps v : ℕ) (a : Array) → head_of (passed_on region nodes steps v a) ≡ head_of a
out_of-head nodes steps v a =
    passed_on-both (λ b (h : Head). head_of b ≡ h) region (λ r h. h) (λ r b h e. e) nodes steps v a (head_of a) refl ∙ unmoved nodes steps v (head_of a)

-- a content has the id, the times and the attributes of the stack's array, and there is one exactly where the stack has that array
abbrev pub ContentsKeepHeads : Type 0
ContentsKeepHeads =
    (nodes : List NodeRule) (arrays : List Array) (name : FrameName)
    → option_map head_of (content nodes arrays name) ≡ option_map head_of (slice_get arrays name.index)

heads_at : (nodes : List NodeRule) (v : ℕ) (o : Option Array) → option_map head_of (option_map (out_of region nodes v) o) ≡ option_map head_of o
heads_at nodes v None = refl
heads_at nodes v (Some a) = ap Some (out_of-head nodes (length nodes) v a)

pub content-head : ContentsKeepHeads
content-head nodes arrays name = heads_at nodes name.maker (slice_get arrays name.index)

-- a trigger fires at what a node passes on where it fires at the stack's array
abbrev pub TriggersFireAtContents : Type 0
TriggersFireAtContents =
    (nodes : List NodeRule) (arrays : List Array) (v k : ℕ) (r : CircularRule)
    → option_map_or (λ a. trigger_fires r a.attrs) (content nodes arrays (frame v k)) false ≡ fires_at r arrays k

fires_alike : (nodes : List NodeRule) (v : ℕ) (r : CircularRule) (o : Option Array)
    → option_map_or (λ a. trigger_fires r a.attrs) (option_map (out_of region nodes v) o) false ≡ option_map_or (λ a. trigger_fires r a.attrs) o false
fires_alike nodes v r None = refl
fires_alike nodes v r (Some a) = ap (λ (h : Head). trigger_fires r h.attrs) (out_of-head nodes (length nodes) v a)

pub content-fires : TriggersFireAtContents
content-fires nodes arrays v k r = fires_alike nodes v r (slice_get arrays k)
