-- The nodes of a graph: a region's input isn't made by the region itself.
use Rattle.std.specs.Prelude.{◌≡◌, ◌≢◌, ℕ, zero, suc, ◌≤◌, Bool, true, false, List, length, Option, Some, None, Result, Ok, Err, OnOk, if◌then◌else◌, refl}
use Rattle.std.specs.Option.{option_map_or}
use Rattle.std.proofs.Common.{◌⊎◌, inl, inr, ap, sym, subst, arith, ◌∙◌}
use Rattle.std.proofs.lemmas.Option.{slice_get_cases}
use Rattle.nd_base.specs.GraphRules.{IsGraph, input_of, makes_arrays, rule_at}
use Rattle.nd_base.specs.declared.graph.Graph.{Graph}
use Rattle.nd_base.specs.declared.graph.Kind.{Kind}
use Rattle.nd_base.specs.declared.graph.Kind.TheVariants.{Roi, Stats, Circular, File, Scatter}
use Rattle.nd_base.specs.declared.graph.NodeRule.{NodeRule}
use Rattle.nd_base.specs.declared.graph.RoiRule.{RoiRule}
use Rattle.chain_plain.specs.Nodes.{is_region, maker_at, maker_within}
use Rattle.chain_plain.specs.PassingLaws.{maker_within-none}
use Rattle.chain_plain.proofs.Depths.{depth, depth-input}
use Rattle.chain_plain.proofs.Found.{maker_of_region, maker_of_other}
use Rattle.chain_plain.proofs.Rules.{stands}
use Rattle.plain_saver.specs.declared.node_rooms.Room.{Room}
use Rattle.plain_saver.specs.Rooms.{HasRegion, HasFrame}

-- the driver is at no distance
depth-driver : (nodes : List NodeRule) (steps : ℕ) → depth nodes steps 0 ≡ 0
depth-driver nodes zero = refl
depth-driver nodes (suc steps) = refl

-- no node is nearer to the driver than its input
input-near : (g : Graph) (v : ℕ) → IsGraph g → depth g.nodes (length g.nodes) (input_of g.nodes v) ≤ depth g.nodes (length g.nodes) v
input-near g zero sound = let same : depth g.nodes (length g.nodes) (input_of g.nodes 0) ≡ depth g.nodes (length g.nodes) 0 = refl in omega (arith, same)
input-near g (suc k) sound =
    elim (slice_get_cases g.nodes k).1 [
      | inl at ↦ let less = depth-input g.nodes (length g.nodes) k (sound.acyclic (suc k) (omega (arith, at.1))) in omega (arith, less)
      | inr past_ ↦
          let none : input_of g.nodes (suc k) ≡ 0 = ap (λ (o : Option NodeRule). option_map_or (λ (n : NodeRule). n.input) o 0) past_.1 in
          let zero_ = ap (depth g.nodes (length g.nodes)) none ∙ depth-driver g.nodes (length g.nodes) in
          omega (arith, zero_)
    ]

by-region : (nodes : List NodeRule) (d : ℕ → ℕ) (v w : ℕ) (b : Bool) → d w ≤ d v → d (if b then v else w) ≤ d v
by-region nodes d v w true h = omega arith
by-region nodes d v w false h = h

-- nor than its maker
maker-near : (g : Graph) (steps v : ℕ) → IsGraph g
    → depth g.nodes (length g.nodes) (maker_within g.nodes steps v) ≤ depth g.nodes (length g.nodes) v
maker-near g zero v sound = let none = depth-driver g.nodes (length g.nodes) in omega (arith, none)
maker-near g (suc steps) v sound =
    let above = maker-near g steps (input_of g.nodes v) sound in
    let input = input-near g v sound in
    by-region g.nodes (depth g.nodes (length g.nodes)) v (maker_within g.nodes steps (input_of g.nodes v)) (is_region g.nodes v) (omega (arith, above, input))

-- what comes to a node is made by another
pub maker-apart : (g : Graph) (v : ℕ) (n : NodeRule) → IsGraph g → Some n ≡ rule_at g.nodes v → maker_at g.nodes n.input ≢ v
maker-apart g v n sound is same =
    let nearer = (stands g v n sound is).nearer in
    let near = maker-near g (length g.nodes) n.input sound in
    let equal : depth g.nodes (length g.nodes) (maker_at g.nodes n.input) ≡ depth g.nodes (length g.nodes) v = ap (depth g.nodes (length g.nodes)) same in
    absurd (omega (arith, nearer, near, equal))

-- a node that has a rule has a place
pub node-between : (g : Graph) (v : ℕ) (n : NodeRule) → IsGraph g → Some n ≡ rule_at g.nodes v → (1 ≤ v) × (v ≤ length g.nodes)
node-between g zero n sound is = let clash : Some n ≡ None = is in absurd (cc)
node-between g (suc k) n sound is = (omega arith, (stands g (suc k) n sound is).within)

-- a region node is its own maker
pub region-makes : (g : Graph) (v : ℕ) (n : NodeRule) (r : RoiRule) → IsGraph g → Some n ≡ rule_at g.nodes v → n.kind ≡ Roi r → maker_at g.nodes v ≡ v
region-makes g v n r sound is kind = maker_of_region g v n sound is (ap makes_arrays kind)

-- the stack has what goes out of a number that has no rule
pub frame-none : (g : Graph) (rooms : List (List Room)) (v k : ℕ) → None ≡ rule_at g.nodes v → HasFrame g rooms v k
frame-none g rooms v k none = inl (maker_within-none g.nodes (length g.nodes) v none)

-- and what goes out of another node is what goes out of its input
pub frame-passed : (g : Graph) (rooms : List (List Room)) (v k : ℕ) (n : NodeRule) → IsGraph g → Some n ≡ rule_at g.nodes v → makes_arrays n.kind ≡ false
    → HasFrame g rooms n.input k → HasFrame g rooms v k
frame-passed g rooms v k n sound is other here =
    subst (λ (m : ℕ). (m ≡ 0) ⊎ HasRegion rooms m k) (sym (maker_of_other g v n sound is other)) here

-- a kind that isn't a region's makes no arrays
pub no-region : (k : Kind) → ((r : RoiRule) → k ≢ Roi r) → makes_arrays k ≡ false
no-region (Roi r) h = absurd (h r refl)
no-region (Stats r) h = refl
no-region (Circular r) h = refl
no-region (File r) h = refl
no-region Scatter h = refl

-- what holds where an answer is Ok, by what follows from it
pub on-ok : {X E P Q : Type 0} (a : Result X E) → (P → Q) → OnOk a P → OnOk a Q
on-ok (Ok x) f h = f h
on-ok (Err e) f h = tt
