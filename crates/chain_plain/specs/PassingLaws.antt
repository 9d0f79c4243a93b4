-- Laws of what goes out of nodes: a node acts on what goes out of its input.
use Rattle.std.specs.Prelude.{◌≡◌, ◌≢◌, ℕ, zero, suc, ◌≤◌, Bool, true, false, List, length, Option, Some, None, if◌then◌else◌, IsTrue, refl}
use Rattle.std.specs.Option.{option_map_or}
use Rattle.std.proofs.Common.{◌⊎◌, inl, inr, ap, sym, arith, ◌∙◌}
use Rattle.std.proofs.lemmas.Option.{slice_get_within}
use Rattle.nd_base.specs.declared.graph.Graph.{Graph}
use Rattle.nd_base.specs.declared.graph.Kind.{Kind}
use Rattle.nd_base.specs.declared.graph.Kind.TheVariants.{Roi, Stats, Circular, File, Scatter}
use Rattle.nd_base.specs.declared.graph.NodeRule.{NodeRule}
use Rattle.nd_base.specs.declared.graph.RoiRule.{RoiRule}
use Rattle.nd_base.specs.GraphRules.{IsGraph, makes_arrays, input_of, source_of, rule_at}
use Rattle.chain_plain.specs.Nodes.{is_region, walked, maker_after, maker_within, maker_at}
use Rattle.chain_plain.specs.Passing.{by_kind, by_node, passed_on, out_of}

-- a node that has a rule is one of the graph's
pub rule_within : (nodes : List NodeRule) (v : ℕ) (n : NodeRule) → Some n ≡ rule_at nodes v → v ≤ length nodes
rule_within nodes zero n h = omega arith
rule_within nodes (suc k) n h = let inside = slice_get_within nodes k n (sym h) in omega (arith, inside)

-- and one that has none is fed by the driver
pub input_none : (nodes : List NodeRule) (v : ℕ) → None ≡ rule_at nodes v → input_of nodes v ≡ 0
input_none nodes zero h = refl
input_none nodes (suc k) h = ap (λ o. option_map_or (λ (r : NodeRule). r.input) o 0) (sym h)

pub input_some : (nodes : List NodeRule) (v : ℕ) (n : NodeRule) → Some n ≡ rule_at nodes v → input_of nodes v ≡ n.input
input_some nodes zero n h = let e : Some n ≡ None = h in absurd (cc)
input_some nodes (suc k) n h = ap (λ o. option_map_or (λ (r : NodeRule). r.input) o 0) (sym h)

-- Laws of a walk whose step leaves as it is what comes out of the driver.
module _ {X : Type 0} (step : ℕ → X → X) (nodes : List NodeRule) (driver : (x : X) → step 0 x ≡ x) where
  -- where so many steps lead to the driver, one more changes nothing
  pub walked-more : (steps v : ℕ) (x : X) → source_of nodes steps v ≡ 0 → walked step nodes (suc steps) v x ≡ walked step nodes steps v x
  walked-more zero zero x h = driver x
  walked-more zero (suc k) x h = let e : suc k ≡ 0 = h in absurd (omega (arith, e))
  walked-more (suc steps) v x h = ap (step v) (walked-more steps (input_of nodes v) x h)

  pub walked-driver : (steps : ℕ) (x : X) → walked step nodes steps 0 x ≡ x
  walked-driver zero x = refl
  walked-driver (suc steps) x = driver (walked step nodes steps 0 x) ∙ walked-driver steps x

  -- a number that has no rule is as the driver
  pub walked-none : (steps v : ℕ) (x : X) → None ≡ rule_at nodes v → ((y : X) → step v y ≡ y) → walked step nodes steps v x ≡ x
  walked-none zero v x none still = refl
  walked-none (suc steps) v x none still =
      still (walked step nodes steps (input_of nodes v) x)
      ∙ ap (λ w. walked step nodes steps w x) (input_none nodes v none)
      ∙ walked-driver steps x

module _ {X : Type 0} (cut : RoiRule → X → X) (nodes : List NodeRule) where
  pub passed_on-step : (steps v : ℕ) (x : X) → source_of nodes steps v ≡ 0
      → passed_on cut nodes steps v x ≡ by_node cut (rule_at nodes v) (passed_on cut nodes steps (input_of nodes v) x)
  passed_on-step steps v x h = sym (walked-more (λ w y. by_node cut (rule_at nodes w) y) nodes (λ y. refl) steps v x h)

  -- nothing but the driver's own goes out of the driver
  pub out_of-driver : (steps : ℕ) (x : X) → passed_on cut nodes steps 0 x ≡ x
  out_of-driver steps x = walked-driver (λ w y. by_node cut (rule_at nodes w) y) nodes (λ y. refl) steps x

  -- and out of a number that has no rule
  pub out_of-none : (steps v : ℕ) (x : X) → None ≡ rule_at nodes v → passed_on cut nodes steps v x ≡ x
  out_of-none steps v x h =
      walked-none (λ w y. by_node cut (rule_at nodes w) y) nodes (λ y. refl) steps v x h (λ y. ap (λ n. by_node cut n y) (sym h))

step_by : {X : Type 0} (cut : RoiRule → X → X) (g : Graph) (v : ℕ) (x : X) → IsGraph g → (o : Option NodeRule) → o ≡ rule_at g.nodes v
    → out_of cut g.nodes v x ≡ by_node cut o (out_of cut g.nodes (input_of g.nodes v) x)
step_by cut g v x sound None h =
    out_of-none cut g.nodes (length g.nodes) v x h
    ∙ sym (ap (λ w. out_of cut g.nodes w x) (input_none g.nodes v h) ∙ out_of-driver cut g.nodes (length g.nodes) x)
step_by cut g v x sound (Some n) h =
    passed_on-step cut g.nodes (length g.nodes) v x (sound.acyclic v (rule_within g.nodes v n h))
    ∙ ap (λ o. by_node cut o (out_of cut g.nodes (input_of g.nodes v) x)) (sym h)

-- in a graph a node acts on what goes out of its input
pub out_of-step : {X : Type 0} (cut : RoiRule → X → X) (g : Graph) (v : ℕ) (x : X) → IsGraph g
    → out_of cut g.nodes v x ≡ by_node cut (rule_at g.nodes v) (out_of cut g.nodes (input_of g.nodes v) x)
out_of-step cut g v x sound = step_by cut g v x sound (rule_at g.nodes v) refl

-- what goes out of a node that has a rule
out_of-rule : {X : Type 0} (cut : RoiRule → X → X) (g : Graph) (v : ℕ) (r : NodeRule) (x : X) → IsGraph g → Some r ≡ rule_at g.nodes v
    → out_of cut g.nodes v x ≡ by_node cut (Some r) (out_of cut g.nodes r.input x)
out_of-rule cut g v r x sound is =
    out_of-step cut g v x sound
    ∙ ap (λ w. by_node cut (rule_at g.nodes v) (out_of cut g.nodes w x)) (input_some g.nodes v r is)
    ∙ ap (λ n. by_node cut n (out_of cut g.nodes r.input x)) (sym is)

by_kind-other : {X : Type 0} (cut : RoiRule → X → X) (k : Kind) (x : X) → ((r : RoiRule) → k ≢ Roi r) → by_kind cut k x ≡ x
by_kind-other cut (Roi r) x h = absurd (h r refl)
by_kind-other cut (Stats r) x h = refl
by_kind-other cut (Circular r) x h = refl
by_kind-other cut (File r) x h = refl
by_kind-other cut Scatter x h = refl

-- what goes out of a region node
pub out_of-roi : {X : Type 0} (cut : RoiRule → X → X) (g : Graph) (v : ℕ) (n : NodeRule) (r : RoiRule) (x : X) → IsGraph g → Some n ≡ rule_at g.nodes v
    → n.kind ≡ Roi r → out_of cut g.nodes v x ≡ cut r (out_of cut g.nodes n.input x)
out_of-roi cut g v n r x sound is kind =
    out_of-rule cut g v n x sound is ∙ ap (λ k. by_kind cut k (out_of cut g.nodes n.input x)) kind

-- and of one of another kind
pub out_of-other : {X : Type 0} (cut : RoiRule → X → X) (g : Graph) (v : ℕ) (n : NodeRule) (x : X) → IsGraph g → Some n ≡ rule_at g.nodes v
    → ((r : RoiRule) → n.kind ≢ Roi r) → out_of cut g.nodes v x ≡ out_of cut g.nodes n.input x
out_of-other cut g v n x sound is other =
    out_of-rule cut g v n x sound is ∙ by_kind-other cut n.kind (out_of cut g.nodes n.input x) other

-- a node that is no region node passes on what comes to it
kind_still : {X : Type 0} (cut : RoiRule → X → X) (k : Kind) (x : X) → makes_arrays k ≡ false → by_kind cut k x ≡ x
kind_still cut (Roi r) x h = absurd (cc)
kind_still cut (Stats r) x h = refl
kind_still cut (Circular r) x h = refl
kind_still cut (File r) x h = refl
kind_still cut Scatter x h = refl

node_still : {X : Type 0} (cut : RoiRule → X → X) (o : Option NodeRule) (x : X) → option_map_or (λ n. makes_arrays n.kind) o false ≡ false → by_node cut o x ≡ x
node_still cut None x h = refl
node_still cut (Some n) x h = kind_still cut n.kind x h

out_of-maker_if : {X : Type 0} (cut : RoiRule → X → X) (g : Graph) (v w : ℕ) (x : X) (b : Bool) → IsGraph g → is_region g.nodes v ≡ b
    → out_of cut g.nodes (input_of g.nodes v) x ≡ out_of cut g.nodes w x → out_of cut g.nodes v x ≡ out_of cut g.nodes (if b then v else w) x
out_of-maker_if cut g v w x true sound is above = refl
out_of-maker_if cut g v w x false sound is above = out_of-step cut g v x sound ∙ node_still cut (rule_at g.nodes v) _ is ∙ above

out_of-maker_within : {X : Type 0} (cut : RoiRule → X → X) (g : Graph) (steps v : ℕ) (x : X) → IsGraph g → source_of g.nodes steps v ≡ 0
    → out_of cut g.nodes v x ≡ out_of cut g.nodes (maker_within g.nodes steps v) x
out_of-maker_within cut g zero v x sound h = ap (λ w. out_of cut g.nodes w x) h
out_of-maker_within cut g (suc steps) v x sound h =
    out_of-maker_if cut g v (maker_within g.nodes steps (input_of g.nodes v)) x (is_region g.nodes v) sound refl
    (out_of-maker_within cut g steps (input_of g.nodes v) x sound h)

pub is_region-none : (nodes : List NodeRule) (v : ℕ) → None ≡ rule_at nodes v → is_region nodes v ≡ false
is_region-none nodes v h = ap (λ o. option_map_or (λ (n : NodeRule). makes_arrays n.kind) o false) (sym h)

-- the maker of a number that has no rule is the driver
pub maker_within-none : (nodes : List NodeRule) (steps v : ℕ) → None ≡ rule_at nodes v → maker_within nodes steps v ≡ 0
maker_within-none nodes steps v h =
    walked-none (maker_after nodes) nodes (λ m. refl) steps v 0 h (λ m. ap (λ b. if b then v else m) (is_region-none nodes v h))

maker_by : {X : Type 0} (cut : RoiRule → X → X) (g : Graph) (v : ℕ) (x : X) → IsGraph g → (o : Option NodeRule) → o ≡ rule_at g.nodes v
    → out_of cut g.nodes v x ≡ out_of cut g.nodes (maker_at g.nodes v) x
maker_by cut g v x sound None h =
    out_of-none cut g.nodes (length g.nodes) v x h
    ∙ sym (ap (λ w. out_of cut g.nodes w x) (maker_within-none g.nodes (length g.nodes) v h) ∙ out_of-driver cut g.nodes (length g.nodes) x)
maker_by cut g v x sound (Some n) h = out_of-maker_within cut g (length g.nodes) v x sound (sound.acyclic v (rule_within g.nodes v n h))

-- what goes out of a node is what goes out of its maker
pub out_of-maker : {X : Type 0} (cut : RoiRule → X → X) (g : Graph) (v : ℕ) (x : X) → IsGraph g
    → out_of cut g.nodes v x ≡ out_of cut g.nodes (maker_at g.nodes v) x
out_of-maker cut g v x sound = maker_by cut g v x sound (rule_at g.nodes v) refl

-- the driver, or a region node
abbrev pub IsMaker : List NodeRule → ℕ → Type 0
IsMaker nodes m = (m ≡ 0) ⊎ IsTrue (is_region nodes m)

maker_if : (nodes : List NodeRule) (v w : ℕ) (b : Bool) → is_region nodes v ≡ b → IsMaker nodes w → IsMaker nodes (if b then v else w)
maker_if nodes v w true is above = inr is
maker_if nodes v w false is above = above

pub maker_makes : (nodes : List NodeRule) (steps v : ℕ) → IsMaker nodes (maker_within nodes steps v)
maker_makes nodes zero v = inl refl
maker_makes nodes (suc steps) v = maker_if nodes v _ (is_region nodes v) refl (maker_makes nodes steps (input_of nodes v))

-- a region node is its own maker, and another node has the maker of its input
pub maker_at-step : (g : Graph) (v : ℕ) → IsGraph g → v ≤ length g.nodes
    → maker_at g.nodes v ≡ (if is_region g.nodes v then v else maker_at g.nodes (input_of g.nodes v))
maker_at-step g v sound within = sym (walked-more (maker_after g.nodes) g.nodes (λ m. refl) (length g.nodes) v 0 (sound.acyclic v within))
