-- What a graph says of a node that has a rule.
use Rattle.std.specs.Prelude.{◌≡◌, ◌≢◌, ℕ, zero, suc, ◌<◌, ◌≤◌, List, length, Some, None, IsTrue, slice_get}
use Rattle.std.specs.Option.{option_map_or}
use Rattle.std.proofs.Common.{◌⊎◌, inl, inr, ap, sym, arith, subst, get_or}
use Rattle.std.proofs.lemmas.Option.{slice_get_within, get_or_from_slice_get}
use Rattle.nd_base.specs.declared.graph.Graph.{Graph}
use Rattle.nd_base.specs.declared.graph.NodeRule.{NodeRule}
use Rattle.nd_base.specs.declared.graph.RoiRule.{RoiRule}
use Rattle.nd_base.specs.declared.graph.StatsRule.{StatsRule}
use Rattle.nd_base.specs.declared.graph.CircularRule.{CircularRule}
use Rattle.nd_base.specs.declared.graph.FileRule.{FileRule}
use Rattle.nd_base.specs.declared.array.Dim.{Dim}
use Rattle.nd_base.specs.declared.graph.Kind.{Kind}
use Rattle.nd_base.specs.declared.graph.Kind.TheVariants.{Roi, Stats, Circular, File, Scatter}
use Rattle.nd_base.specs.Shapes.{has_dimensions, sample_count, most_samples}
use Rattle.nd_roi.specs.Cut.{region_dims}
use Rattle.nd_roi.specs.CutLaws.{region_dims-count, region_dims-has_dimensions}
use Rattle.nd_base.specs.GraphRules.{IsGraph, IsNode, IsKind, IsRoi, input_of, rule_at}
use Rattle.chain_plain.proofs.Depths.{depth, depth-input}

-- a node that has a rule: the rule is sound, and its input is nearer to the driver
pub record Stands (g : Graph) (v : ℕ) (r : NodeRule) : Type 0 where
  pub within : v ≤ length g.nodes
  pub sound : IsNode r
  pub input : input_of g.nodes v ≡ r.input
  pub nearer : depth g.nodes (length g.nodes) r.input < depth g.nodes (length g.nodes) v

pub stands : (g : Graph) (v : ℕ) (r : NodeRule) → IsGraph g → Some r ≡ rule_at g.nodes v → Stands g v r
stands g zero r sound is = let e : Some r ≡ None = is in absurd (cc)
stands g (suc k) r sound is =
    let here : slice_get g.nodes k ≡ Some r = sym is in
    let inside = slice_get_within g.nodes k r here in
    let same : get_or g.nodes k r ≡ r = get_or_from_slice_get g.nodes k r r here in
    let within : suc k ≤ length g.nodes = omega (arith, inside) in
    let input : input_of g.nodes (suc k) ≡ r.input = ap (λ n. option_map_or (λ (r : NodeRule). r.input) n 0) here in
    record {
      within = within;
      sound = subst IsNode same (sound.nodes k r inside);
      input = input;
      nearer = rw (← input) (depth-input g.nodes (length g.nodes) k (sound.acyclic (suc k) within));
    }

-- the kinds that pass on what comes to them
abbrev pub PassesOn : Kind → Type 0
PassesOn k = ((r : StatsRule) × (k ≡ Stats r)) ⊎ (((r : CircularRule) × (k ≡ Circular r)) ⊎ (((r : FileRule) × (k ≡ File r)) ⊎ (k ≡ Scatter)))

pub no_roi : (k : Kind) → PassesOn k → (r : RoiRule) → k ≢ Roi r
no_roi k (inl a) r e = let other : k ≡ Stats a.0 = a.1 in absurd (cc)
no_roi k (inr (inl a)) r e = let other : k ≡ Circular a.0 = a.1 in absurd (cc)
no_roi k (inr (inr (inl a))) r e = let other : k ≡ File a.0 = a.1 in absurd (cc)
no_roi k (inr (inr (inr a))) r e = let other : k ≡ Scatter = a in absurd (cc)

pub roi_sound : (k : Kind) (r : RoiRule) → IsKind k → k ≡ Roi r → IsRoi r
roi_sound k r sound is = subst IsKind is sound

-- the rule of a region node is sound
pub roi-rule : (g : Graph) (v : ℕ) (n : NodeRule) (r : RoiRule) → IsGraph g → rule_at g.nodes v ≡ Some n → n.kind ≡ Roi r → IsRoi r
roi-rule g v n r sound rule kind = roi_sound n.kind r (stands g v n sound (sym rule)).sound.kind kind

-- a region has no more samples than an array may have
pub region_few : (rule : RoiRule) (dims : List Dim) → IsTrue (has_dimensions dims) → sample_count dims ≤ most_samples
    → sample_count (region_dims rule dims) ≤ most_samples
region_few rule dims sound few = let less = region_dims-count rule dims sound in omega (arith, less, few)

-- and the dimensions of an array
pub region_dimensions : (rule : RoiRule) (dims : List Dim) → IsTrue (has_dimensions dims) → IsTrue (has_dimensions (region_dims rule dims))
region_dimensions rule dims sound = region_dims-has_dimensions rule dims sound
