-- The rules that are made of a plan are those of its run.
use Rattle.std.proofs.Common.{◌≡◌, ◌≤◌, ◌<◌, ◌∙◌, ◌⊎◌, inl, inr, ℕ, ◌+◌, ◌-◌, ◌*◌, zero, suc, true, false, Bool, cond, eqb, List, [], ◌∷◌, ◌++◌, Some}
use Rattle.std.proofs.Common.{length, map, take, drop, filter, get_or, refl, sym, ap, subst, arith, length-append, add-zero}
use Rattle.std.specs.Prelude.{slice_get, sum_by, find, fold, IsTrue}
use Rattle.std.specs.List.{All}
use Rattle.std.specs.Option.{option_map_or}
use Rattle.std.proofs.Math.Nat.{one-le-mul}
use Rattle.std.proofs.lemmas.Bool.{cases_lt, eq-eqb, ne_eqb, false≢true}
use Rattle.std.proofs.lemmas.List.{ext_get_or, get_or-map, get_or_past, length-map, at_drop_more, take_more, append-nil, length-take-le}
use Rattle.std.proofs.lemmas.List.Elements.{All-head, All-tail}
use Rattle.std.proofs.lemmas.Option.{slice_get-get_or, slice_get_within, slice_get_past, get_or_from_slice_get}
use Rattle.nd_base.specs.Array.{Array, StackValue}
use Rattle.nd_base.specs.GraphRules.{IsGraph, IsNode, IsKind, is_source, makes_arrays, may_feed}
use Rattle.nd_base.specs.Samples.{width}
use Rattle.nd_base.specs.ShapeLaws.{has_dimensions-none_empty, sample_count-positive}
use Rattle.nd_base.specs.Shapes.{sample_count}
use Rattle.nd_base.specs.Stacks.{IsStack}
use Rattle.nd_base.specs.declared.array.SampleType.{SampleType}
use Rattle.nd_base.specs.declared.array.SampleType.TheVariants.{Int8, UInt8, Int16, UInt16, Int32, UInt32}
use Rattle.nd_base.specs.declared.graph.Graph.{Graph}
use Rattle.nd_base.specs.declared.graph.Kind.{Kind}
use Rattle.nd_base.specs.declared.graph.Kind.TheVariants.{Roi, Stats, Circular, File, Scatter}
use Rattle.nd_base.specs.declared.graph.NodeRule.{NodeRule}
use Rattle.nd_base.specs.declared.plan.Maker.{Maker}
use Rattle.chain_plain.specs.ContentLaws.{IsArrayShape, plans-sound}
use Rattle.chain_plain.specs.PassingLaws.{IsMaker}
use Rattle.chain_plain.specs.Plans.{maker_of, makers_of, shape_at}
use Rattle.chain_plain.proofs.Found.{found}
use Rattle.flow_journal.specs.Setting.{Setting, Node, no_node, node, makes, is_maker, numbers_from, children}
use Rattle.flow_journal.specs.RunSetting.{need_of as need_among, node_of, work_of}
use Rattle.board_rules.specs.RunMeasures.{run_setting}
use Rattle.course_parts.specs.declared.rules.NodeRules.{NodeRules}
use Rattle.course_parts.specs.declared.rules.NodeWork.{NodeWork}
use Rattle.course_parts.specs.declared.rules.NodeWork.TheVariants as work
use Rattle.course_parts.specs.declared.rules.Rules.{Rules}
use Rattle.course_parts.specs.RunRules.{AreRules, AreNodeRules, IsRule, IsNodeWithin, IsWorkWithin, as_node, as_work, children_of, need_of}

-- MAKERS
-- one maker further
pub need-step : (ms : List Maker) (i m : ℕ) (x : Maker) → i < length ms → x ≡ get_or ms i x
    → need_among (drop i ms) m ≡ cond (eqb x.node m) x.need (need_among (drop (i + 1) ms) m)
need-step ms i m x h is = at_drop_more (λ ks. need_among ks m) ms i x h ∙ ap (λ (k : Maker). need_among (k ∷ drop (i + 1) ms) m) (sym is)

need-found : (ms : List Maker) (m : ℕ) (k : Maker) → find (λ (x : Maker). eqb x.node m) ms ≡ Some k → need_among ms m ≡ k.need
need-found [] m k h = absurd (cc)
need-found (x ∷ ms) m k h = split (eqb x.node m) (need-found ms m k) h where
  split : (b : Bool) → (find (λ (y : Maker). eqb y.node m) ms ≡ Some k → need_among ms m ≡ k.need)
      → cond b (Some x) (find (λ (y : Maker). eqb y.node m) ms) ≡ Some k → cond b x.need (need_among ms m) ≡ k.need
  split true later e = let same : x ≡ k = cc in ap (λ (y : Maker). y.need) same
  split false later e = later e

found-all : (P : Maker → Type 0) (p : Maker → Bool) (ms : List Maker) (k : Maker) → All P ms → find p ms ≡ Some k → P k
found-all P p [] k all h = absurd (cc)
found-all P p (x ∷ ms) k all h = split (p x) (found-all P p ms k (All-tail P x ms all)) h where
  split : (b : Bool) → (find p ms ≡ Some k → P k) → cond b (Some x) (find p ms) ≡ Some k → P k
  split true later e = let same : x ≡ k = cc in subst P same (All-head P x ms all)
  split false later e = later e

wide : (k : SampleType) → 1 ≤ width k
wide Int8 = omega arith
wide UInt8 = omega arith
wide Int16 = omega arith
wide UInt16 = omega arith
wide Int32 = omega arith
wide UInt32 = omega arith

-- a maker's arrays have bytes
needs-some : (g : Graph) (t : StackValue) (v : ℕ) → IsStack t → IsMaker g.nodes v → 0 < need_among (makers_of g.nodes t.shape) v
needs-some g t v stack maker =
    let made : ℕ → Maker = λ w. maker_of w (shape_at g.nodes t.shape w) in
    let there : find (λ (x : Maker). eqb x.node v) (makers_of g.nodes t.shape) ≡ Some (made v) = found made g.nodes v (λ w. refl) maker in
    let sound : IsArrayShape (made v).dims =
    found-all (λ m. IsArrayShape m.dims) (λ (x : Maker). eqb x.node v) (makers_of g.nodes t.shape) (made v) (plans-sound g t stack) there in
    let some : 1 ≤ sample_count (made v).dims = sample_count-positive (made v).dims (has_dimensions-none_empty (made v).dims sound.dimensions) in
    let bytes : 1 ≤ sample_count (made v).dims * width (made v).kind = one-le-mul some (wide (made v).kind) in
    omega (arith, bytes, need-found (makers_of g.nodes t.shape) v (made v) there)

-- CHILDREN
-- the numbers of those nodes whose input is this one, where v is that of the first
pub fed : ℕ → ℕ → List NodeRule → List ℕ
fed m v [] = []
fed m v (n ∷ ns) = cond (eqb n.input m) (v ∷ fed m (v + 1) ns) (fed m (v + 1) ns)

in-front : (b : Bool) (v : ℕ) (us vs ws : List ℕ) → us ≡ vs ++ ws → cond b (v ∷ us) us ≡ cond b (v ∷ vs) vs ++ ws
in-front true v us vs ws e = ap (λ xs. v ∷ xs) e
in-front false v us vs ws e = e

fed-append : (m v : ℕ) (xs ys : List NodeRule) → fed m v (xs ++ ys) ≡ fed m v xs ++ fed m (v + length xs) ys
unfolding fed
fed-append m v [] ys = ap (λ u. fed m u ys) (sym (add-zero v))
fed-append m v (n ∷ xs) ys =
    let e : v + 1 + length xs ≡ v + suc (length xs) = omega arith in
    in-front (eqb n.input m) v (fed m (v + 1) (xs ++ ys)) (fed m (v + 1) xs) (fed m (v + suc (length xs)) ys)
    (fed-append m (v + 1) xs ys ∙ ap (λ u. fed m (v + 1) xs ++ fed m u ys) e)

-- a node more
fed-one : (m v : ℕ) (n : NodeRule) → fed m v (n ∷ []) ≡ cond (eqb n.input m) (v ∷ []) []
unfolding fed
fed-one m v n = refl

fed-more : (m i : ℕ) (ns : List NodeRule) (n : NodeRule) → i < length ns → n ≡ get_or ns i n
    → fed m 1 (take (i + 1) ns) ≡ fed m 1 (take i ns) ++ cond (eqb n.input m) (suc i ∷ []) []
fed-more m i ns n h is =
    ap (fed m 1) (take_more ns i n h)
    ∙ fed-append m 1 (take i ns) (get_or ns i n ∷ [])
    ∙ ap (λ u. fed m 1 (take i ns) ++ fed m u (get_or ns i n ∷ [])) (omega (arith, length-take-le i ns (omega (arith, h))))
    ∙ ap (λ (x : NodeRule). fed m 1 (take i ns) ++ fed m (suc i) (x ∷ [])) (sym is)
    ∙ ap (λ us. fed m 1 (take i ns) ++ us) (fed-one m (suc i) n)

pub fed-yes : (m i : ℕ) (ns : List NodeRule) (n : NodeRule) → i < length ns → n ≡ get_or ns i n → n.input ≡ m
    → fed m 1 (take (i + 1) ns) ≡ fed m 1 (take i ns) ++ (i + 1) ∷ []
fed-yes m i ns n h is same =
    fed-more m i ns n h is ∙ ap (λ b. fed m 1 (take i ns) ++ cond b (suc i ∷ []) []) (eq-eqb n.input m same)
    ∙ ap (λ j. fed m 1 (take i ns) ++ j ∷ []) (omega arith)

pub fed-no : (m i : ℕ) (ns : List NodeRule) (n : NodeRule) → i < length ns → n ≡ get_or ns i n → (n.input ≡ m → ⊥)
    → fed m 1 (take (i + 1) ns) ≡ fed m 1 (take i ns)
fed-no m i ns n h is other =
    fed-more m i ns n h is ∙ ap (λ b. fed m 1 (take i ns) ++ cond b (suc i ∷ []) []) (ne_eqb n.input m other) ∙ append-nil (fed m 1 (take i ns))

pub fed-none : (m : ℕ) (ns : List NodeRule) → fed m 1 (take 0 ns) ≡ []
unfolding fed
fed-none m ns = refl

-- these are the children
fed-from : (s : Setting) (m v : ℕ) (ns : List NodeRule) → ((i : ℕ) → i < length ns → (node s (v + i)).input ≡ (get_or (map node_of ns) i no_node).input)
    → filter (λ c. eqb (node s c).input m) (numbers_from v (map node_of ns)) ≡ fed m v ns
unfolding fed
fed-from s m v [] same = refl
fed-from s m v (n ∷ ns) same =
    let later : List ℕ = filter (λ c. eqb (node s c).input m) (numbers_from (v + 1) (map node_of ns)) in
    let here : (node s v).input ≡ n.input = ap (λ u. (node s u).input) (sym (add-zero v)) ∙ same 0 (omega arith) in
    ap (λ i. cond (eqb i m) (v ∷ later) later) here
    ∙ ap (λ us. cond (eqb n.input m) (v ∷ us) us)
    (fed-from s m (v + 1) ns (λ i h. let e : v + 1 + i ≡ v + suc i = omega arith in ap (λ u. (node s u).input) e ∙ same (suc i) (omega (arith, h))))

pub children-fed : (s : Setting) (m : ℕ) (ns : List NodeRule) → s.nodes ≡ map node_of ns → children s m ≡ fed m 1 ns
children-fed s m ns are =
    ap (λ xs. filter (λ c. eqb (node s c).input m) (numbers_from 1 xs)) are
    ∙ fed-from s m 1 ns (λ i h. let e : 1 + i ≡ suc i = omega arith in ap (λ u. (node s u).input) e ∙ ap (λ xs. (get_or xs i no_node).input) are)

-- NODES
pub node-at : (s : Setting) (v : ℕ) (ns : List NodeRule) (n : NodeRule) → s.nodes ≡ map node_of ns → 1 ≤ v → v ≤ length ns
    → n ≡ get_or ns (v - 1) n → node_of n ≡ node s v
node-at s zero ns n are low high is = absurd (omega (arith, low))
node-at s (suc i) ns n are low high is =
    let e : suc i - 1 ≡ i = omega arith in
    ap node_of (is ∙ ap (λ j. get_or ns j n) e) ∙ sym (get_or-map node_of ns i n no_node (omega (arith, high))) ∙ ap (λ xs. get_or xs i no_node) (sym are)

pub push-each : {X : Type 0} (Q : ℕ → X → Type 0) (xs : List X) (x : X) → ((i : ℕ) (y : X) → slice_get xs i ≡ Some y → Q (suc i) y) → Q (length xs + 1) x
    → (i : ℕ) (y : X) → slice_get (xs ++ x ∷ []) i ≡ Some y → Q (suc i) y
push-each Q [] x each here zero y h = let same : x ≡ y = cc in subst (Q 1) same here
push-each Q [] x each here (suc i) y h = absurd (cc)
push-each Q (z ∷ zs) x each here zero y h = each 0 y h
push-each Q (z ∷ zs) x each here (suc i) y h =
    let e : suc (length zs) + 1 ≡ suc (length zs + 1) = omega arith in
    push-each (λ j. Q (suc j)) zs x (λ j w k. each (suc j) w k) (subst (λ j. Q j x) e here) i y h

-- RULES
-- each of these items is as it is there
rule-at : (s : Setting) (ns : List NodeRules) (i : ℕ) (d : NodeRules) → AreNodeRules s ns → i < length ns → IsRule s (suc i) (get_or ns i d)
rule-at s ns i d are h = are.each i (get_or ns i d) (slice_get-get_or ns i d h)

-- what stands for a rule that isn't there
no_rule : NodeRules
no_rule = record { work = work.Passes; input = 0; queue = 0; threads = 0; sort = 0; sort_time = 0; need = 0; children = [] }

rules-nodes : (s : Setting) (ns : List NodeRules) → AreNodeRules s ns → map as_node ns ≡ s.nodes
rules-nodes s ns are =
    ext_get_or no_node (map as_node ns) s.nodes (length-map ns as_node ∙ are.all)
    (λ i h. let lt : i < length ns = omega (arith, h, length-map ns as_node) in
    get_or-map as_node ns i no_rule no_node lt ∙ (rule-at s ns i no_rule are lt).node)

pub need-at : (r : Rules) (v : ℕ) (n : NodeRules) (ns : List NodeRules) → ns ≡ r.nodes → (v ≡ 0 → ⊥) → v - 1 < length ns
    → n ≡ get_or ns (v - 1) n → n.need ≡ need_of r v
need-at r zero n ns are some h is = absurd (some refl)
need-at r (suc i) n ns are some h is =
    let e : suc i - 1 ≡ i = omega arith in
    ap (λ (x : NodeRules). x.need) (is ∙ ap (λ j. get_or ns j n) e) ∙ sym (get_or-map (λ (x : NodeRules). x.need) ns i n 0 (omega (arith, h)))
    ∙ ap (λ (xs : List NodeRules). get_or (map (λ (x : NodeRules). x.need) xs) i 0) are

pub children-at : (r : Rules) (v : ℕ) (n : NodeRules) → (v ≡ 0 → ⊥) → slice_get r.nodes (v - 1) ≡ Some n → n.children ≡ children_of r v
children-at r zero n some h = absurd (some refl)
children-at r (suc i) n some h =
    let e : suc i - 1 ≡ i = omega arith in
    let there : slice_get r.nodes i ≡ Some n = ap (slice_get r.nodes) (sym e) ∙ h in
    ap (λ (x : NodeRules). x.children) (sym (get_or_from_slice_get r.nodes i n n there))
    ∙ sym (get_or-map (λ (x : NodeRules). x.children) r.nodes i n [] (slice_get_within r.nodes i n there))

-- the rules of so many nodes, the first ones
pub record RulesUpTo (s : Setting) (k : ℕ) (ns : List NodeRules) : Type 0 where
  pub all : length ns ≡ k
  pub each : (i : ℕ) (n : NodeRules) → slice_get ns i ≡ Some n → IsRule s (suc i) n

pub rules-none : (s : Setting) (ns : List NodeRules) → ns ≡ [] → RulesUpTo s 0 ns
rules-none s [] e = record { all = refl; each = λ i n h. absurd (cc) }
rules-none s (x ∷ ns) e = absurd (cc)

pub rules-more : (s : Setting) (k : ℕ) (ns ms : List NodeRules) (n : NodeRules) → RulesUpTo s k ns → ms ≡ ns ++ n ∷ []
    → IsRule s (k + 1) n → RulesUpTo s (k + 1) ms
rules-more s k ns ms n old are new =
    record {
      all = ap length are ∙ length-append ns (n ∷ []) ∙ ap (λ j. j + 1) old.all;
      each =
          λ i y h. push-each (IsRule s) ns n old.each (subst (λ j. IsRule s (j + 1) n) (sym old.all) new) i y (ap (λ xs. slice_get xs i) (sym are) ∙ h);
    }

-- A RUN'S RULES
needs-at : (s : Setting) (r : Rules) (v : ℕ) → r.need ≡ s.need 0 → AreNodeRules s r.nodes → (v ≡ 0) ⊎ (is_maker s v ≡ true) → need_of r v ≡ s.need v
needs-at s r zero driver are maker = driver
needs-at s r (suc i) driver are (inl e) = absurd (omega (arith, e))
needs-at s r (suc i) driver are (inr maker) = at-node (cases_lt i (length r.nodes)) where
  at-node : (i < length r.nodes) ⊎ (length r.nodes ≤ i) → need_of r (suc i) ≡ s.need (suc i)
  at-node (inl lt) = get_or-map (λ (n : NodeRules). n.need) r.nodes i no_rule 0 lt ∙ (rule-at s r.nodes i no_rule are lt).need
  at-node (inr le) = absurd (false≢true (ap (λ (n : Node). makes n.work) (sym (get_or_past s.nodes i no_node (omega (arith, le, are.all)))) ∙ maker))

children-up : (s : Setting) (r : Rules) (v : ℕ) → r.children ≡ children s 0 → AreNodeRules s r.nodes → v ≤ length s.nodes → children_of r v ≡ children s v
children-up s r zero driver are h = driver
children-up s r (suc i) driver are h =
    let lt : i < length r.nodes = omega (arith, h, are.all) in
    get_or-map (λ (n : NodeRules). n.children) r.nodes i no_rule [] lt ∙ (rule-at s r.nodes i no_rule are lt).children

threads-from : (k : ℕ) (ns : List NodeRule) → fold (λ a (n : Node). a + n.threads) k (map node_of ns) ≡ fold (λ a (n : NodeRule). a + n.threads) k ns
threads-from k [] = refl
threads-from k (n ∷ ns) = threads-from (k + n.threads) ns

threads-map : (ns : List NodeRule) → sum_by (λ (n : Node). n.threads) (map node_of ns) ≡ sum_by (λ (n : NodeRule). n.threads) ns
threads-map ns = threads-from 0 ns

work-within : (w : NodeWork) (k : Kind) → as_work w ≡ work_of k → IsKind k → IsWorkWithin w
work-within work.Makes k e is = tt
work-within work.Passes k e is = tt
work-within work.Deals k e is = tt
work-within (work.Watches pre post preset) (Circular c) e is =
    let a : pre ≡ c.pre = cc in
    let b : post ≡ c.post = cc in
    (omega (arith, a, is.pre), omega (arith, b, is.post.0))
work-within (work.Watches pre post preset) (Roi c) e is = absurd (cc)
work-within (work.Watches pre post preset) (Stats c) e is = absurd (cc)
work-within (work.Watches pre post preset) (File c) e is = absurd (cc)
work-within (work.Watches pre post preset) Scatter e is = absurd (cc)
work-within (work.Saves whole count) (File f) e is =
    let a : count ≡ f.count = cc in
    (omega (arith, a, is.count.0), omega (arith, a, is.count.1))
work-within (work.Saves whole count) (Roi c) e is = absurd (cc)
work-within (work.Saves whole count) (Stats c) e is = absurd (cc)
work-within (work.Saves whole count) (Circular c) e is = absurd (cc)
work-within (work.Saves whole count) Scatter e is = absurd (cc)

source-within : (ns : List NodeRule) (v : ℕ) → IsTrue (is_source ns v) → v ≤ length ns
source-within ns zero h = omega arith
source-within ns (suc i) h = at-place (cases_lt i (length ns)) where
  at-place : (i < length ns) ⊎ (length ns ≤ i) → suc i ≤ length ns
  at-place (inl lt) = omega (arith, lt)
  at-place (inr le) = absurd (false≢true (ap (λ o. option_map_or (λ (n : NodeRule). may_feed n.kind) o false) (sym (slice_get_past ns i le)) ∙ h))

-- a rule of the setting is that of the graph's node
as-rule : (g : Graph) (t : StackValue) (ns : List NodeRules) (i : ℕ) (d : NodeRules) (n : NodeRule) → AreNodeRules (run_setting g t) ns → i < length ns
    → as_node (get_or ns i d) ≡ node_of (get_or g.nodes i n)
as-rule g t ns i d n are lt =
    (rule-at (run_setting g t) ns i d are lt).node ∙ get_or-map node_of g.nodes i n no_node (omega (arith, lt, are.all, length-map g.nodes node_of))

within-as : (g : Graph) (x : NodeRules) (n : NodeRule) (k : ℕ) → k ≡ length g.nodes → as_node x ≡ node_of n → IsNode n
    → IsTrue (is_source g.nodes n.input) → IsNodeWithin k x
within-as g x n k many e is fed-by = (
  omega (arith, many, ap (λ (y : Node). y.input) e, source-within g.nodes n.input fed-by),
  omega (arith, ap (λ (y : Node). y.queue) e, is.queue.0),
  omega (arith, ap (λ (y : Node). y.queue) e, is.queue.1),
  omega (arith, ap (λ (y : Node). y.threads) e, is.threads.0),
  omega (arith, ap (λ (y : Node). y.threads) e, is.threads.1),
  omega (arith, ap (λ (y : Node). y.sort) e, is.sort),
  omega (arith, ap (λ (y : Node). y.sort_time) e, is.sort_time),
)

-- what stands for a node of the graph that isn't there
no_node_rule : NodeRule
no_node_rule = record { name = []; kind = Scatter; input = 0; queue = 0; threads = 0; sort = 0; sort_time = 0 }

is_maker-region : (g : Graph) (t : StackValue) (v : ℕ) → (v ≡ 0) ⊎ (is_maker (run_setting g t) v ≡ true) → IsMaker g.nodes v
is_maker-region g t zero maker = inl refl
is_maker-region g t (suc i) (inl e) = inl e
is_maker-region g t (suc i) (inr maker) = at-node (cases_lt i (length g.nodes)) where
  region-kind : (k : Kind) → makes (work_of k) ≡ makes_arrays k
  region-kind (Roi r) = refl
  region-kind (Stats r) = refl
  region-kind (Circular r) = refl
  region-kind (File r) = refl
  region-kind Scatter = refl

  at-node : (i < length g.nodes) ⊎ (length g.nodes ≤ i) → IsMaker g.nodes (suc i)
  at-node (inl lt) =
      let n : NodeRule = get_or g.nodes i no_node_rule in
      inr
      (ap (λ o. option_map_or (λ (m : NodeRule). makes_arrays m.kind) o false) (slice_get-get_or g.nodes i no_node_rule lt) ∙ sym (region-kind n.kind)
      ∙ ap (λ (m : Node). makes m.work) (sym (get_or-map node_of g.nodes i no_node_rule no_node lt)) ∙ maker)
  at-node (inr le) =
      absurd (false≢true (ap (λ (n : Node). makes n.work) (sym (get_or_past (map node_of g.nodes) i no_node (omega (arith, le, length-map g.nodes node_of))))
      ∙ maker))

pub are_rules : (g : Graph) (t : StackValue) (r : Rules) → IsGraph g → IsStack t → r.wait ≡ g.wait → r.limit ≡ g.limit
    → r.ids ≡ map (λ (a : Array). a.id) t.arrays
    → r.need ≡ need_among (makers_of g.nodes t.shape) 0 → r.children ≡ children (run_setting g t) 0
    → AreNodeRules (run_setting g t) r.nodes → AreRules r (run_setting g t)
are_rules g t r graph stack wait limit ids need kids are =
    let many : length r.nodes ≡ length g.nodes = are.all ∙ length-map g.nodes node_of in
    record {
      wait = wait;
      limit = limit;
      pooled = refl;
      ids = ids;
      nodes = rules-nodes (run_setting g t) r.nodes are;
      needs = λ v maker. needs-at (run_setting g t) r v need are maker;
      some = λ v maker. needs-some g t v stack (is_maker-region g t v maker);
      children = λ v h. children-up (run_setting g t) r v kids are h;
      few_frames = omega (arith, ap length ids, length-map t.arrays (λ (a : Array). a.id), stack.few_frames);
      few_nodes = omega (arith, many, graph.few);
      few_threads = omega (arith, threads-map g.nodes, graph.threads);
      within =
          λ i d lt.
          within-as g (get_or r.nodes i d) (get_or g.nodes i no_node_rule) (length r.nodes) many (as-rule g t r.nodes i d no_node_rule are lt)
          (graph.nodes i no_node_rule (omega (arith, lt, many)))
          (graph.inputs i no_node_rule (omega (arith, lt, many)));
      works =
          λ i d lt.
          work-within (get_or r.nodes i d).work (get_or g.nodes i no_node_rule).kind (ap (λ (y : Node). y.work) (as-rule g t r.nodes i d no_node_rule are lt))
          (graph.nodes i no_node_rule (omega (arith, lt, many))).kind;
    }
