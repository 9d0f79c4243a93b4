-- What is kept back at the nodes, one node after the other.
use Rattle.std.proofs.Common.{◌≡◌, inl, inr, ℕ, ◌+◌, ◌-◌, ◌≤◌, List, [], Some, length, refl, ap, sym, ◌∙◌, arith}
use Rattle.std.specs.Prelude.{All, slice_get}
use Rattle.std.proofs.lemmas.Bool.{cases_lt}
use Rattle.std.proofs.lemmas.List.{get_or_past}
use Rattle.std.proofs.lemmas.Option.{same_Some, slice_get_within}
use Rattle.nd_base.specs.GraphRules.{rule_at}
use Rattle.nd_base.specs.declared.graph.Graph.{Graph}
use Rattle.nd_base.specs.declared.graph.Kind.{Kind}
use Rattle.nd_base.specs.declared.graph.Kind.TheVariants.{Roi, Stats, Circular, File, Scatter}
use Rattle.nd_base.specs.declared.graph.NodeRule.{NodeRule}
use Rattle.nd_base.specs.declared.graph.StatsRule.{StatsRule}
use Rattle.graph_files.specs.NodeFileLaws.{cases_eq}
use Rattle.plain_saver.specs.Texts.{text_at, with_text, emptied, emptied_kind, AreEmptyTo}
use Rattle.plain_saver.proofs.AtNodes.{node-same, node-other}
use Rattle.plain_saver.proofs.Pushed.{node-place, rule-next}

-- nothing is kept back where each text is empty
pub text_at-none : (ts : List (List ℕ)) → All (λ text. text ≡ []) ts → (v : ℕ) → text_at ts v ≡ []
text_at-none ts empty v = elim (cases_lt (v - 1) (length ts)) [ inl within ↦ empty (v - 1) [] within | inr past ↦ get_or_past ts (v - 1) [] past ]

pub empty-begin : (g : Graph) (ts : List (List ℕ)) → AreEmptyTo g ts 0
empty-begin g ts = λ v n r low rule kind. absurd (let at = node-place g v n rule in omega (arith, low, at.0))

module _ (g : Graph) (ts : List (List ℕ)) (size : length ts ≡ length g.nodes) (at : ℕ) (n : NodeRule) (is : slice_get g.nodes at ≡ Some n)
    (h : AreEmptyTo g ts at) where
  node-rule : rule_at g.nodes (at + 1) ≡ Some n
  node-rule = rule-next g.nodes at n is

  has-text : at + 1 ≤ length ts
  has-text = let within = slice_get_within g.nodes at n is in omega (arith, within, size)

  empty-stats : AreEmptyTo g (with_text ts (at + 1) []) (at + 1)
  empty-stats = λ v m q low rule kind. elim (cases_eq v (at + 1)) [
    | inl here ↦ ap (text_at (with_text ts (at + 1) [])) here ∙ node-same ts (at + 1) [] [] (omega arith) has-text
    | inr ne ↦ node-other ts (at + 1) [] [] (omega arith) v (node-place g v m rule).0 ne ∙ h v m q (omega (arith, low, ne)) rule kind
  ]

  empty-other : ((r : StatsRule) → n.kind ≡ Stats r → ⊥) → AreEmptyTo g ts (at + 1)
  empty-other other = λ v m q low rule kind. elim (cases_eq v (at + 1)) [
    | inl here ↦
        let both : Some m ≡ Some n = sym rule ∙ ap (rule_at g.nodes) here ∙ node-rule in
        absurd (other q (ap (λ (z : NodeRule). z.kind) (sym (same_Some m n both)) ∙ kind))
    | inr ne ↦ h v m q (omega (arith, low, ne)) rule kind
  ]

  empty-by : (kind : Kind) → n.kind ≡ kind → AreEmptyTo g (emptied_kind kind ts (at + 1)) (at + 1)
  empty-by (Stats r) same = empty-stats
  empty-by (Roi r) same = empty-other (λ q e. (let f : Roi r ≡ Stats q = sym same ∙ e in cc))
  empty-by (Circular r) same = empty-other (λ q e. (let f : Circular r ≡ Stats q = sym same ∙ e in cc))
  empty-by (File r) same = empty-other (λ q e. (let f : File r ≡ Stats q = sym same ∙ e in cc))
  empty-by Scatter same = empty-other (λ q e. (let f : Scatter ≡ Stats q = sym same ∙ e in cc))

  -- the next node keeps nothing back
  pub empty-next : AreEmptyTo g (emptied n ts (at + 1)) (at + 1)
  empty-next = empty-by n.kind refl
