-- What frames and results hold.
use Rattle.std.proofs.Common.{◌≡◌, ℕ, ◌<◌, ◌≤◌, ◌*◌, ◌^◌, Bool, true, false, cond, eqb, ℤ, List, [], ◌∷◌, length, map, refl, sym, ap, ◌∙◌, subst, subst₂}
use Rattle.std.proofs.Common.{arith, Option, Some, None, Result, Ok, Err, inl, inr}
use Rattle.std.specs.Prelude.{is_some, IfSome, IfOk, slice_get, find}
use Rattle.std.specs.Option.{option_map, option_map_or}
use Rattle.std.proofs.lemmas.Bool.{cases_Bool, false≢true}
use Rattle.std.proofs.lemmas.Nat.{mul-le}
use Rattle.std.proofs.lemmas.List.{length-map}
use Rattle.std.proofs.lemmas.Option.{slice_get_cases}
use Rattle.nd_base.specs.Array.{Array, StackValue}
use Rattle.nd_base.specs.GraphRules.{IsGraph, IsStats, IsKind, rule_at, makes_arrays}
use Rattle.nd_base.specs.Samples.{width, samples_of}
use Rattle.nd_base.specs.Shapes.{sample_count}
use Rattle.nd_base.specs.Stacks.{frame_size, IsStack, head_of}
use Rattle.nd_base.specs.declared.array.Dim.{Dim}
use Rattle.nd_base.specs.declared.array.Head.{Head}
use Rattle.nd_base.specs.declared.array.SampleType.{SampleType}
use Rattle.nd_base.specs.declared.array.SampleType.TheVariants.{Int8, UInt8, Int16, UInt16, Int32, UInt32}
use Rattle.nd_base.specs.declared.frame.FrameName.{FrameName}
use Rattle.nd_base.specs.declared.graph.CircularRule.{CircularRule}
use Rattle.nd_base.specs.declared.graph.FileRule.{FileRule}
use Rattle.nd_base.specs.declared.graph.Graph.{Graph}
use Rattle.nd_base.specs.declared.graph.Kind.{Kind}
use Rattle.nd_base.specs.declared.graph.Kind.TheVariants.{Roi, Stats, Circular, File, Scatter}
use Rattle.nd_base.specs.declared.graph.NodeRule.{NodeRule}
use Rattle.nd_base.specs.declared.graph.RoiRule.{RoiRule}
use Rattle.nd_base.specs.declared.graph.StatsRule.{StatsRule}
use Rattle.nd_base.specs.declared.measure.Measure.{Measure}
use Rattle.nd_base.specs.declared.plan.Maker.{Maker}
use Rattle.nd_base.specs.declared.plan.Plan.{Plan}
use Rattle.nd_stats.specs.Measured.{measured, measure_of}
use Rattle.nd_stats.specs.Samples.{placed}
use Rattle.trig_window.specs.Triggers.{trigger_fires}
use Rattle.chain_plain.specs.declared.shape.Shape.{Shape}
use Rattle.chain_plain.specs.Content.{content, IsContent}
use Rattle.chain_plain.specs.ContentBytes.{Input, frame-content, input-of}
use Rattle.chain_plain.specs.ContentLaws.{content-maker, content-head}
use Rattle.chain_plain.specs.Nodes.{maker_at, regions}
use Rattle.chain_plain.specs.PassingLaws.{IsMaker, maker_makes, out_of-driver, input_some}
use Rattle.chain_plain.specs.Plans.{maker_of, makers_of, plan_of, region_shape, stack_shape, shape_at}
use Rattle.chain_plain.proofs.Found.{maker_of_region, found}
use Rattle.chain_plain.proofs.Rules.{stands}
use Rattle.frame_store.specs.Sealed.{Sealed}
use Rattle.flow_journal.specs.Setting.{Setting, Node, makes, node, is_node, is_maker}
use Rattle.flow_journal.specs.RunSetting.{work_of, need_of, node_fires, kind_fires}
use Rattle.flow_journal.specs.Pasts.{frame}
use Rattle.flow_journal.specs.FirstEntries.{fires_at}
use Rattle.board_rules.specs.declared.answers.Done.{Done}
use Rattle.board_rules.specs.InHand.{IsMadeAs, IsWholeOf, OfSome}
use Rattle.flow_journal.specs.ResultNames.{result_name}
use Rattle.board_rules.specs.RunMeasures.{run_setting, run_measure, rule_measure, kind_measure}
use Rattle.board_rules.specs.Working.{IsResult}
use Rattle.run_laws.proofs.Runs.{node-is}
use Rattle.flow_roles.specs.Feeder.{name_of}
use Rattle.flow_roles.specs.Worker.{ComesTo, FitsNode, IsJobDone}
use Rattle.flow_roles.proofs.Named.{node-rule}

-- THE DRIVER'S FRAMES

-- the bytes that a load of the run wants are those of a frame
pub need-frame : (g : Graph) (stack : StackValue) → (run_setting g stack).need 0 ≡ frame_size stack.shape
need-frame g stack =
    let shape : shape_at g.nodes stack.shape 0 ≡ stack_shape stack.shape = out_of-driver region_shape g.nodes (length g.nodes) (stack_shape stack.shape) in
    ap (λ (t : Shape). sample_count t.dims * width t.kind) shape

-- WHAT COMES TO A NODE

pub input-is : (g : Graph) (stack : StackValue) (v : ℕ) (n : NodeRule) (m : Maker) (input : Sealed) (bytes : List ℕ) → IsGraph g → IsStack stack
    → rule_at g.nodes v ≡ Some n → m ≡ maker_of m.node (shape_at g.nodes stack.shape n.input) → ComesTo g v input → IsContent g stack input.name bytes
    → Input g stack n m input.name bytes
input-is g stack v n m input bytes sound stack_ rule maker comes holds =
    let k = input.name.index in
    let name_ : input.name.maker ≡ maker_at g.nodes n.input = comes ∙ ap (λ (w : ℕ). maker_at g.nodes w) (input_some g.nodes v n (sym rule)) in
    input-of g stack n m input.name bytes sound stack_ maker
    (ap (λ (w : ℕ). content g.nodes stack.arrays (frame w k)) name_ ∙ sym (content-maker g stack.arrays n.input k sound)) holds

-- REGIONS

need-found : (ks : List Maker) (m : ℕ) → need_of ks m ≡ option_map_or (λ (k : Maker). k.need) (find (λ (k : Maker). eqb k.node m) ks) 0
need-found [] m = refl
need-found (k ∷ ks) m =
    elim (cases_Bool (eqb k.node m)) [
      | inl here ↦ rw here refl
      | inr away ↦ rw away (need-found ks m)
    ]

-- the bytes that a region node wants are those of its arrays
pub need-region : (g : Graph) (stack : StackValue) (v : ℕ) (n : NodeRule) (r : RoiRule) → IsGraph g → rule_at g.nodes v ≡ Some n → n.kind ≡ Roi r
    → (run_setting g stack).need v ≡ (maker_of v (shape_at g.nodes stack.shape v)).need
need-region g stack v n r sound rule kind =
    let f : ℕ → Maker = λ w. maker_of w (shape_at g.nodes stack.shape w) in
    let itself : maker_at g.nodes v ≡ v = maker_of_region g v n sound (sym rule) (ap makes_arrays kind) in
    let maker : IsMaker g.nodes v = subst (IsMaker g.nodes) itself (maker_makes g.nodes (length g.nodes) v) in
    need-found (map f (0 ∷ regions g.nodes)) v ∙ ap (λ (o : Option Maker). option_map_or (λ (k : Maker). k.need) o 0) (found f g.nodes v (λ w. refl) maker)

pub region-room : (g : Graph) (stack : StackValue) (v size : ℕ) (n : NodeRule) (r : RoiRule) (to : Maker) → IsGraph g
    → rule_at g.nodes v ≡ Some n → n.kind ≡ Roi r
    → to ≡ maker_of to.node (shape_at g.nodes stack.shape v) → (run_setting g stack).need v ≤ size → to.need ≤ size
region-room g stack v size n r to sound rule kind made room =
    let same_ : (run_setting g stack).need v ≡ to.need = need-region g stack v n r sound rule kind ∙ sym (ap (λ (x : Maker). x.need) made) in
    subst (λ (i : ℕ). i ≤ size) same_ room

-- MEASURES

some-same : {X : Type 0} {x y : X} → Some x ≡ Some y → x ≡ y
some-same h = cc

none-some : {X : Type 0} {x : X} → None ≡ Some x → ⊥
none-some h = cc

heads-same : (o : Option Array) (a : Array) (h : Head) → option_map head_of (Some a) ≡ option_map head_of o
    → IfSome o (λ (b : Array). head_of b ≡ h) → head_of a ≡ h
heads-same None a h e i = absurd (none-some (sym e))
heads-same (Some b) a h e i = some-same e ∙ i

pub measure-is : (g : Graph) (stack : StackValue) (v : ℕ) (n : NodeRule) (r : StatsRule) (m : Maker) (name : FrameName) (bytes : List ℕ)
    (h : Head) (x : Measure)
    → rule_at g.nodes v ≡ Some n → n.kind ≡ Stats r → Input g stack n m name bytes → IfSome (slice_get stack.arrays name.index) (λ (b : Array). head_of b ≡ h)
    → x ≡ measure_of r h.id m.kind m.dims 0 bytes → run_measure g stack v name ≡ Some x
unfolding measure_of
measure-is g stack v n r m name bytes h x rule kind i head is =
    let a = i.array in
    let id_ : a.id ≡ h.id =
    ap (λ (y : Head). y.id)
    (heads-same (slice_get stack.arrays name.index) a h (sym (ap (option_map head_of) i.named) ∙ content-head g.nodes stack.arrays name) head) in
    ap (λ (o : Option NodeRule). rule_measure o (content g.nodes stack.arrays name)) rule
    ∙ (ap (λ (k : Kind). kind_measure k (content g.nodes stack.arrays name)) kind
    ∙ (ap (λ (o : Option Array). kind_measure (Stats r) o) i.named
    ∙ ap Some (sym (is ∙ (ap (λ z. measure_of r z m.kind m.dims 0 bytes) (sym id_) ∙ (ap (λ (d : List Dim). measure_of r a.id m.kind d 0 bytes) (sym i.dims)
    ∙ ap (λ (xs : List ℤ). measured r a.id a.dims (placed 0 xs)) i.samples))))))

-- FIRING

pub fires-is : (g : Graph) (stack : StackValue) (v k : ℕ) (n : NodeRule) (r : CircularRule) (h : Head) → rule_at g.nodes v ≡ Some n
    → n.kind ≡ Circular r → k < length stack.arrays
    → IfSome (slice_get stack.arrays k) (λ (b : Array). head_of b ≡ h) → trigger_fires r h.attrs ≡ (run_setting g stack).fires v k
fires-is g stack v k n r h rule kind within head =
    elim (slice_get_cases stack.arrays k).1 [
      | inl at ↦
          let same_ : head_of at.0 ≡ h = subst (λ (o : Option Array). IfSome o (λ (b : Array). head_of b ≡ h)) at.2 head in
          sym (ap (λ (o : Option NodeRule). node_fires o (slice_get stack.arrays k)) rule
          ∙ (ap (λ (o : Option Array). node_fires (Some n) o) at.2
          ∙ (ap (λ (c : Kind). kind_fires c at.0.attrs) kind ∙ ap (λ (y : Head). trigger_fires r y.attrs) same_)))
      | inr past_ ↦ absurd (omega (arith, within, past_.0))
    ]

-- RESULTS, BY KIND

module _ (g : Graph) (stack : StackValue) (v : ℕ) (n : NodeRule) (input : Sealed) (rule : rule_at g.nodes v ≡ Some n) where
  abbrev s : Setting
  s = run_setting g stack

  work-is : (k : Kind) → n.kind ≡ k → (node s v).work ≡ work_of k
  work-is k kind = ap (λ (m : Node). m.work) (node-is g (makers_of g.nodes stack.shape) stack.arrays v n rule) ∙ ap work_of kind

  pub maker-is : (k : Kind) → n.kind ≡ k → is_maker s v ≡ makes (work_of k)
  maker-is k kind = ap makes (work-is k kind)

  fires-as : (k : Kind) → n.kind ≡ k → fires_at s v input.name.index (node s v).work ≡ fires_at s v input.name.index (work_of k)
  fires-as k kind = ap (fires_at s v input.name.index) (work-is k kind)

  measures-as : (k : Kind) → n.kind ≡ k → run_measure g stack v input.name ≡ kind_measure k (content g.nodes stack.arrays input.name)
  measures-as k kind =
      ap (λ (o : Option NodeRule). rule_measure o (content g.nodes stack.arrays input.name)) rule
      ∙ ap (λ (c : Kind). kind_measure c (content g.nodes stack.arrays input.name)) kind

  made-as : (b : Bool) → is_maker s v ≡ b → (f : Option Sealed) → IsMadeAs name_of b (cond b (frame v input.name.index) input.name) f
      → IsMadeAs name_of (is_maker s v) (result_name s v input.name) f
  made-as b is f h = subst (λ (c : Bool). IsMadeAs name_of c (cond c (frame v input.name.index) input.name) f) (sym is) h

  pub result-roi : (r : RoiRule) (f : Sealed) → n.kind ≡ Roi r → f.name ≡ frame v input.name.index
      → IsResult name_of (run_measure g stack) s (record { node = v; input = input; made = Some f; measured = None; fired = false })
  result-roi r f kind name =
      record { made = made-as true (maker-is (Roi r) kind) (Some f) name; measured = sym (measures-as (Roi r) kind); fired = sym (fires-as (Roi r) kind) }

  pub result-stats : (r : StatsRule) (m : Measure) → n.kind ≡ Stats r → run_measure g stack v input.name ≡ Some m
      → IsResult name_of (run_measure g stack) s (record { node = v; input = input; made = None; measured = Some m; fired = false })
  result-stats r m kind is =
      record { made = made-as false (maker-is (Stats r) kind) None tt; measured = sym is; fired = sym (fires-as (Stats r) kind) }

  pub result-circular : (r : CircularRule) (b : Bool) → n.kind ≡ Circular r → b ≡ s.fires v input.name.index
      → IsResult name_of (run_measure g stack) s (record { node = v; input = input; made = None; measured = None; fired = b })
  result-circular r b kind is =
      record {
        made = made-as false (maker-is (Circular r) kind) None tt;
        measured = sym (measures-as (Circular r) kind);
        fired = is ∙ sym (fires-as (Circular r) kind);
      }

  pub result-file : (r : FileRule) → n.kind ≡ File r
      → IsResult name_of (run_measure g stack) s (record { node = v; input = input; made = None; measured = None; fired = false })
  result-file r kind =
      record { made = made-as false (maker-is (File r) kind) None tt; measured = sym (measures-as (File r) kind); fired = sym (fires-as (File r) kind) }

  pub result-scatter : n.kind ≡ Scatter
      → IsResult name_of (run_measure g stack) s (record { node = v; input = input; made = None; measured = None; fired = false })
  result-scatter kind =
      record { made = made-as false (maker-is Scatter kind) None tt; measured = sym (measures-as Scatter kind); fired = sym (fires-as Scatter kind) }

-- WHAT IS ISSUED

pub frame-index : (g : Graph) (stack now : StackValue) (k : ℕ) → now ≡ stack → k < length (run_setting g stack).ids → k < length now.arrays
frame-index g stack now k is there =
    let same_ = length-map stack.arrays (λ (a : Array). a.id) in
    let these : length now.arrays ≡ length stack.arrays = ap (λ (s : StackValue). length s.arrays) is in
    omega (arith, same_, these, there)

pub frame-room : (g : Graph) (stack now : StackValue) (size : ℕ) → now ≡ stack → (run_setting g stack).need 0 ≤ size → frame_size now.shape ≤ size
frame-room g stack now size is room =
    let need_ = need-frame g stack in
    let these : frame_size now.shape ≡ frame_size stack.shape = ap (λ (s : StackValue). frame_size s.shape) is in
    omega (arith, need_, these, room)

-- a frame that stands whole on storage of this size
pub issue-whole : (granted size : ℕ) (f : Sealed) → granted ≡ size → (f.parts.size ≡ size) × (f.parts.here ≡ 2 ^ 32) → IsWholeOf granted (Some f.parts)
issue-whole granted size f is h = (h.1, h.0 ∙ sym is)

-- THE PLAN OF THE RUN

pub plan-sound : (g : Graph) (stack : StackValue) (p : Plan) → p ≡ plan_of g stack → IsGraph g → IsGraph p.graph
plan-sound g stack p is sound = subst IsGraph (sym (ap (λ (q : Plan). q.graph) is)) sound

pub plan-own : (g : Graph) (stack now : StackValue) (p : Plan) → p ≡ plan_of g stack → now ≡ stack → p ≡ plan_of p.graph now
plan-own g stack now p is here_ = subst₂ (λ (h : Graph) (s : StackValue). p ≡ plan_of h s) (sym (ap (λ (q : Plan). q.graph) is)) (sym here_) is

pub maker-own : (g : Graph) (stack now : StackValue) (p : Plan) (m : Maker) (v : ℕ) → p ≡ plan_of g stack → now ≡ stack
    → m ≡ maker_of m.node (shape_at p.graph.nodes now.shape v) → m ≡ maker_of m.node (shape_at g.nodes stack.shape v)
maker-own g stack now p m v is here_ made =
    subst₂ (λ (h : Graph) (s : StackValue). m ≡ maker_of m.node (shape_at h.nodes s.shape v)) (ap (λ (q : Plan). q.graph) is) here_ made

pub stack-sound : (stack now : StackValue) → now ≡ stack → IsStack now → IsStack stack
stack-sound stack now is sound = subst IsStack is sound

-- the rule of a statistics node is sound
pub stats-rule : (g : Graph) (v : ℕ) (n : NodeRule) (r : StatsRule) → IsGraph g → rule_at g.nodes v ≡ Some n → n.kind ≡ Stats r → IsStats r
stats-rule g v n r sound rule kind = subst IsKind kind (stands g v n sound (sym rule)).sound.kind

-- BY THE STACK THAT IS AT HAND

pub index-of-stack : (stack now : StackValue) (k : ℕ) → now ≡ stack → k < length stack.arrays → k < length now.arrays
index-of-stack stack now k is within = subst (λ (s : StackValue). k < length s.arrays) (sym is) within

ok-some : {X E : Type 0} (f : Option X) (a : Result X E) (P : X → Type 0) → IfOk a P → ((x : X) → P x → f ≡ Some x) → IfOk a (λ x. f ≡ Some x)
ok-some f (Ok x) P h all = all x h
ok-some f (Err e) P h all = tt

pub measure-for : {E : Type 0}
    (g : Graph) (stack now : StackValue) (v : ℕ) (n : NodeRule) (r : StatsRule) (m : Maker) (name : FrameName) (bytes : List ℕ) (h : Head) (k : ℕ)
    (z : ℤ) (dims : List Dim) (a : Result Measure E) → z ≡ h.id → dims ≡ m.dims → now ≡ stack → rule_at g.nodes v ≡ Some n → n.kind ≡ Stats r
    → Input g stack n m name bytes → k ≡ name.index
    → IfSome (slice_get now.arrays k) (λ (b : Array). head_of b ≡ h) → IfOk a (λ x. x ≡ measure_of r z m.kind dims 0 bytes)
    → IfOk a (λ x. run_measure g stack v name ≡ Some x)
measure-for {E} g stack now v n r m name bytes h k z dims a id_ dims_ is rule kind i index head made =
    let here_ : IfSome (slice_get stack.arrays name.index) (λ (b : Array). head_of b ≡ h) =
    subst₂ (λ (s : StackValue) (j : ℕ). IfSome (slice_get s.arrays j) (λ (b : Array). head_of b ≡ h)) is index head in
    ok-some {X = Measure} {E = E} (run_measure g stack v name) a (λ x. x ≡ measure_of r z m.kind dims 0 bytes) made
    (λ x e. measure-is g stack v n r m name bytes h x rule kind i here_
    (e ∙ (ap (λ y. measure_of r y m.kind dims 0 bytes) id_ ∙ ap (λ (d : List Dim). measure_of r h.id m.kind d 0 bytes) dims_)))

pub fires-for : (g : Graph) (stack now : StackValue) (v : ℕ) (n : NodeRule) (r : CircularRule) (name : FrameName) (h : Head) (k : ℕ) (b : Bool)
    → now ≡ stack → rule_at g.nodes v ≡ Some n → n.kind ≡ Circular r → k ≡ name.index → k < length stack.arrays
    → IfSome (slice_get now.arrays k) (λ (x : Array). head_of x ≡ h) → b ≡ trigger_fires r h.attrs → b ≡ (run_setting g stack).fires v name.index
fires-for g stack now v n r name h k b is rule kind index within head fired =
    let here_ : IfSome (slice_get stack.arrays k) (λ (x : Array). head_of x ≡ h) =
    subst (λ (s : StackValue). IfSome (slice_get s.arrays k) (λ (x : Array). head_of x ≡ h)) is head in
    fired ∙ (fires-is g stack v k n r h rule kind within here_ ∙ ap (λ (j : ℕ). (run_setting g stack).fires v j) index)

-- the rule that was found is the node's
pub rule-of : (g : Graph) (stack : StackValue) (p : Plan) (nodes : List NodeRule) (v : ℕ) (o : Option NodeRule) → p ≡ plan_of g stack
    → nodes ≡ p.graph.nodes → o ≡ rule_at nodes v
    → rule_at g.nodes v ≡ o
rule-of g stack p nodes v o is same_ here_ = sym (here_ ∙ ap (λ (ns : List NodeRule). rule_at ns v) (same_ ∙ ap (λ (q : Plan). q.graph.nodes) is))

pub node-has-rule : (g : Graph) (stack : StackValue) (p : Plan) (nodes : List NodeRule) (v : ℕ) → p ≡ plan_of g stack → nodes ≡ p.graph.nodes
    → is_node (run_setting g stack) v ≡ true
    → None ≡ rule_at nodes v → ⊥
node-has-rule g stack p nodes v is same_ node_ none_ =
    let n = node-rule g stack v node_ in
    none-some (sym (rule-of g stack p nodes v None is same_ none_) ∙ n.1)

-- a maker's job has storage, with room
pub blank-there : (g : Graph) (stack : StackValue) (v : ℕ) (n : NodeRule) (input : Sealed) (r : RoiRule) (blank : Option (List ℕ))
    → rule_at g.nodes v ≡ Some n → n.kind ≡ Roi r
    → FitsNode g stack v blank → blank ≡ None → ⊥
blank-there g stack v n input r blank rule kind fits none_ =
    false≢true (sym (ap is_some none_) ∙ (fits.maker ∙ maker-is g stack v n input rule (Roi r) kind))

pub blank-room : (g : Graph) (stack : StackValue) (v : ℕ) (blank : Option (List ℕ)) (b : List ℕ) → FitsNode g stack v blank → blank ≡ Some b
    → (run_setting g stack).need v ≤ length b
blank-room g stack v blank b fits is = subst (λ (o : Option (List ℕ)). OfSome (λ (x : List ℕ). (run_setting g stack).need v ≤ length x) o) is fits.room

pub stands-whole : (blank : Option (List ℕ)) (b : List ℕ) (f : Sealed) → blank ≡ Some b → (f.parts.size ≡ length b) × (f.parts.here ≡ 2 ^ 32)
    → IsWholeOf (option_map_or length blank 0) (Some f.parts)
stands-whole blank b f is h = subst (λ (o : Option (List ℕ)). IsWholeOf (option_map_or length o 0) (Some f.parts)) (sym is) (h.1, h.0)

-- FRAMES OF THE STACK AT HAND

pub frame-holds : (g : Graph) (stack now : StackValue) (k : ℕ) (bytes : List ℕ) → now ≡ stack → IsStack now → k < length now.arrays
    → IfSome (slice_get now.arrays k) (λ (a : Array). samples_of now.shape.kind bytes ≡ a.samples) → length bytes ≡ frame_size now.shape
    → IsContent g stack (frame 0 k) bytes
frame-holds g stack now k bytes is sound within samples size =
    subst (λ (s : StackValue). IsContent g s (frame 0 k) bytes) is (frame-content g now k bytes sound within samples size)

width-few : (t : SampleType) → width t ≤ 4
width-few Int8 = omega arith
width-few UInt8 = omega arith
width-few Int16 = omega arith
width-few UInt16 = omega arith
width-few Int32 = omega arith
width-few UInt32 = omega arith

few-bytes : (n w : ℕ) → n ≤ 67108864 → w ≤ 4 → n * w < 2 ^ 32
few-bytes n w h i = let most = mul-le n w 67108864 4 h i in omega (arith, most)

pub frame-few : (now : StackValue) (size : ℕ) → IsStack now → size ≡ frame_size now.shape → size < 2 ^ 32
frame-few now size sound is =
    let few = few-bytes (sample_count now.shape.dims) (width now.shape.kind) sound.few_samples (width-few now.shape.kind) in
    omega (arith, few, is)

pub frame-fits : (now : StackValue) (size room : ℕ) → size ≡ frame_size now.shape → frame_size now.shape ≤ room → size ≤ room
frame-fits now size room is fits = omega (arith, is, fits)

-- a result that makes and measures nothing
pub passed-on : (g : Graph) (stack : StackValue) (v : ℕ) (input : Sealed) (blank : Option (List ℕ)) (b : Bool) (done : Done Sealed)
    → done ≡ record { node = v; input = input; made = None; measured = None; fired = b }
    → IsResult name_of (run_measure g stack) (run_setting g stack) (record { node = v; input = input; made = None; measured = None; fired = b })
    → IsJobDone g stack v input blank done
passed-on g stack v input blank b done is r =
    subst (λ (d : Done Sealed). IsJobDone g stack v input blank d) (sym is) (record { node = refl; given = refl; result = r; whole = tt })
