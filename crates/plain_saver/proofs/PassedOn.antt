-- A node's input.
use Rattle.std.specs.Prelude.{◌≡◌, ℕ, zero, suc, ◌≤◌, false, List, length, Option, Some, None, IsTrue, slice_get, refl}
use Rattle.std.specs.Option.{option_map_or}
use Rattle.std.proofs.Common.{sym, subst, arith, get_or}
use Rattle.std.proofs.lemmas.Option.{slice_get_within, get_or_from_slice_get}
use Rattle.nd_base.specs.declared.graph.Graph.{Graph}
use Rattle.nd_base.specs.declared.graph.NodeRule.{NodeRule}
use Rattle.nd_base.specs.GraphRules.{IsGraph, is_source, may_feed, rule_at}

feeds_within : (nodes : List NodeRule) (k : ℕ) (o : Option NodeRule) → o ≡ slice_get nodes k
    → IsTrue (option_map_or (λ n. may_feed n.kind) o false) → suc k ≤ length nodes
feeds_within nodes k None same feeds = absurd (cc)
feeds_within nodes k (Some n) same feeds = let inside = slice_get_within nodes k n (sym same) in omega (arith, inside)

source_within : (nodes : List NodeRule) (v : ℕ) → IsTrue (is_source nodes v) → v ≤ length nodes
source_within nodes zero feeds = omega arith
source_within nodes (suc k) feeds = feeds_within nodes k (slice_get nodes k) refl feeds

-- it is the driver or one of the nodes
pub input_within : (g : Graph) (v : ℕ) (n : NodeRule) → IsGraph g → Some n ≡ rule_at g.nodes v → n.input ≤ length g.nodes
input_within g zero n sound is = let e : Some n ≡ None = is in absurd (cc)
input_within g (suc k) n sound is =
    let inside = slice_get_within g.nodes k n (sym is) in
    let same : get_or g.nodes k n ≡ n = get_or_from_slice_get g.nodes k n n (sym is) in
    source_within g.nodes n.input (subst (λ (m : NodeRule). IsTrue (is_source g.nodes m.input)) same (sound.inputs k n inside))
