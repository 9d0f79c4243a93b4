-- What goes out of a node of a frame that the stack has.
use Rattle.std.specs.Prelude.{◌≡◌, ◌≢◌, ℕ, List, length, Option, Some, None, Result, Ok, Err, IfOk, refl}
use Rattle.std.specs.Option.{option_map}
use Rattle.std.proofs.Common.{ap, sym, ◌∙◌}
use Rattle.nd_base.specs.Array.{Array}
use Rattle.nd_base.specs.GraphRules.{IsGraph, rule_at}
use Rattle.nd_base.specs.declared.graph.Graph.{Graph}
use Rattle.nd_base.specs.declared.graph.Kind.TheVariants.{Roi}
use Rattle.nd_base.specs.declared.graph.NodeRule.{NodeRule}
use Rattle.nd_base.specs.declared.graph.RoiRule.{RoiRule}
use Rattle.nd_roi.specs.Region.{region}
use Rattle.chain_plain.specs.Passing.{out_of}
use Rattle.chain_plain.specs.PassingLaws.{out_of-none, out_of-roi, out_of-other}

-- without a rule it is the stack's array
pub array_of_none : (nodes : List NodeRule) (v : ℕ) (o : Option Array) → None ≡ rule_at nodes v → option_map (out_of region nodes v) o ≡ o
array_of_none nodes v None h = refl
array_of_none nodes v (Some a) h = ap Some (out_of-none region nodes (length nodes) v a h)

-- at a region node it is the region of what goes out of the input
pub array_of_roi : (g : Graph) (v : ℕ) (n : NodeRule) (r : RoiRule) (o : Option Array) (input : Array) → IsGraph g → Some n ≡ rule_at g.nodes v → n.kind ≡ Roi r
    → option_map (out_of region g.nodes n.input) o ≡ Some input → option_map (out_of region g.nodes v) o ≡ Some (region r input)
array_of_roi g v n r None input sound is kind h = let e : None ≡ Some input = h in absurd (cc)
array_of_roi g v n r (Some a) input sound is kind h =
    let e : Some (out_of region g.nodes n.input a) ≡ Some input = h in
    let same : out_of region g.nodes n.input a ≡ input = cc in
    ap Some (out_of-roi region g v n r a sound is kind ∙ ap (region r) same)

-- and at another node what goes out of the input
pub array_of_other : (g : Graph) (v : ℕ) (n : NodeRule) (o : Option Array) (input : Array) → IsGraph g → Some n ≡ rule_at g.nodes v
    → ((r : RoiRule) → n.kind ≢ Roi r) → option_map (out_of region g.nodes n.input) o ≡ Some input → option_map (out_of region g.nodes v) o ≡ Some input
array_of_other g v n None input sound is other h = let e : None ≡ Some input = h in absurd (cc)
array_of_other g v n (Some a) input sound is other h =
    let e : Some (out_of region g.nodes n.input a) ≡ Some input = h in
    let same : out_of region g.nodes n.input a ≡ input = cc in
    ap Some (out_of-other region g v n a sound is other ∙ same)

-- an answer that is an array is this one
pub answers_some : {E : Type 0} (answer : Result Array E) (b : Array) (o : Option Array) → o ≡ Some b → IfOk answer (λ a. a ≡ b) → IfOk answer (λ a. o ≡ Some a)
answers_some (Ok a) b o is h = is ∙ ap Some (sym h)
answers_some (Err e) b o is h = h
