-- What is known of the nodes, one node after the other.
use Rattle.std.proofs.Common.{◌≡◌, inl, inr, ℕ, zero, suc, ◌+◌, ◌<◌, ◌≤◌, List, [], ◌∷◌, ◌++◌, length, get_or, refl, ap, subst, ◌∙◌, arith}
use Rattle.std.proofs.lemmas.Bool.{cases_lt}
use Rattle.std.proofs.lemmas.List.{get_or_append_left, get_or_past, get_or_push, length-append}
use Rattle.std.specs.Prelude.{Some, slice_get}
use Rattle.std.proofs.lemmas.Option.{slice_get_read, slice_get_within}
use Rattle.nd_base.specs.GraphRules.{rule_at}
use Rattle.nd_base.specs.declared.graph.Graph.{Graph}
use Rattle.nd_base.specs.declared.graph.NodeRule.{NodeRule}
use Rattle.plain_saver.specs.declared.passes.Pass.{Pass}
use Rattle.plain_saver.specs.Passes.{no_pass, pass_at}

pub pass_at-none : (v : ℕ) → pass_at [] v ≡ no_pass
pass_at-none zero = refl
pass_at-none (suc k) = get_or_past [] k no_pass (omega arith)

-- those that were there stay
pub pass_at-push : (ps : List Pass) (p : Pass) (v : ℕ) → v ≤ length ps → pass_at (ps ++ p ∷ []) v ≡ pass_at ps v
pass_at-push ps p zero few = refl
pass_at-push ps p (suc k) few = get_or_append_left ps (p ∷ []) no_pass k (omega (arith, few))

-- and the new one is the last
pub pass_at-last : (ps : List Pass) (p : Pass) (v : ℕ) → v ≡ length ps + 1 → pass_at (ps ++ p ∷ []) v ≡ p
pass_at-last ps p zero is = absurd (omega (arith, is))
pass_at-last ps p (suc k) is = get_or_push ps p no_pass k (omega (arith, is))

pass_at-past : (ps : List Pass) (v : ℕ) → length ps < v → pass_at ps v ≡ no_pass
pass_at-past ps zero far = absurd (omega (arith, far))
pass_at-past ps (suc k) far = get_or_past ps k no_pass (omega (arith, far))

-- nothing has gone where nothing had
pub none-more : (ps : List Pass) (p : Pass) → p.gone ≡ 0 → ((v : ℕ) → (pass_at ps v).gone ≡ 0) → (v : ℕ) → (pass_at (ps ++ p ∷ []) v).gone ≡ 0
none-more ps p none all v =
    elim (cases_lt v (length ps + 1)) [
      | inl low ↦ ap (λ (q : Pass). q.gone) (pass_at-push ps p v (omega (arith, low))) ∙ all v
      | inr high ↦ elim (cases_lt (length ps + 1) v) [
        | inl far ↦ ap (λ (q : Pass). q.gone) (pass_at-past (ps ++ p ∷ []) v (let n = length-append ps (p ∷ []) in omega (arith, far, n)))
        | inr near ↦ ap (λ (q : Pass). q.gone) (pass_at-last ps p v (omega (arith, high, near))) ∙ none
      ]
    ]

-- the rule at a place of the graph
pub rule-here : (nodes rules : List NodeRule) (at : ℕ) (n : NodeRule) → rules ≡ nodes → at < length rules → n ≡ get_or rules at n → slice_get nodes at ≡ Some n
rule-here nodes rules at n same within is =
    slice_get_read nodes (length nodes) at n refl (subst (λ (ns : List NodeRule). at < length ns) same within) (is
    ∙ ap (λ (ns : List NodeRule). get_or ns at n) same)

-- its node is the next one
pub rule-next : (nodes : List NodeRule) (at : ℕ) (n : NodeRule) → slice_get nodes at ≡ Some n → rule_at nodes (at + 1) ≡ Some n
rule-next nodes at n is = ap (rule_at nodes) (let e : at + 1 ≡ suc at = omega arith in e) ∙ is

-- a node that has a rule is one of the graph's
pub node-place : (g : Graph) (v : ℕ) (n : NodeRule) → rule_at g.nodes v ≡ Some n → (1 ≤ v) × (v ≤ length g.nodes)
node-place g zero n is = absurd (cc)
node-place g (suc k) n is = (omega arith, let inside = slice_get_within g.nodes k n is in omega (arith, inside))
