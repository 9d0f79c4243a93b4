-- How one position more is dealt out, and that each child has its place among the children of its input.
use Rattle.std.specs.Prelude.{◌≡◌, ℕ, zero, suc, ◌+◌, ◌-◌, ◌==◌, ◌<◌, ◌≤◌, Bool, true, false, List, [], ◌∷◌, ◌++◌, length, take, Option, None, Some, IsSomeAnd, slice_get, sum_by}
use Rattle.std.specs.Prelude.{if◌then◌else◌, refl}
use Rattle.std.proofs.Common.{ap, sym, subst, ◌∙◌, append_assoc, arith, cond, get_or}
use Rattle.std.proofs.lemmas.List.{append-nil, length-take-le, take_more}
use Rattle.std.proofs.lemmas.Bool.{eq-eqb}
use Rattle.std.proofs.lemmas.List.Sums.{length-filter, get_or-le-sum_by}
use Rattle.std.proofs.lemmas.Option.{slice_get_within, get_or_from_slice_get}
use Rattle.nd_base.specs.declared.graph.Kind.{Kind}
use Rattle.nd_base.specs.declared.graph.NodeRule.{NodeRule}
use Rattle.nd_base.specs.GraphRules.{rule_at}
use Rattle.trig_window.specs.Windows.{at_positions}
use Rattle.chain_plain.specs.PlainRun.{fed_by, kind_share, rule_share, share_of}

at_positions-more : (test : ℕ → Bool) (at : ℕ) (ks : List ℕ) (k : ℕ)
    → at_positions test at (ks ++ k ∷ []) ≡ at_positions test at ks ++ (if test (at + length ks) then k ∷ [] else [])
at_positions-more test at [] k =
    let e : at + 0 ≡ at = omega arith in
    append-nil (if test at then k ∷ [] else []) ∙ ap (λ n. if test n then k ∷ [] else []) (sym e)
at_positions-more test at (p ∷ ks) k =
    let e : at + 1 + length ks ≡ at + suc (length ks) = omega arith in
    ap (λ zs. (if test at then p ∷ [] else []) ++ zs)
    (at_positions-more test (at + 1) ks k ∙ ap (λ n. at_positions test (at + 1) ks ++ (if test n then k ∷ [] else [])) e)
    ∙ sym (append_assoc (if test at then p ∷ [] else []) (at_positions test (at + 1) ks) (if test (at + suc (length ks)) then k ∷ [] else []))

module _ (test : ℕ → Bool) (ks : List ℕ) (i d : ℕ) (within : i < length ks) where
  at_positions-next : at_positions test 0 (take (i + 1) ks) ≡ at_positions test 0 (take i ks) ++ (if test i then get_or ks i d ∷ [] else [])
  at_positions-next =
      let front : 0 + length (take i ks) ≡ i = omega (arith, length-take-le i ks (omega (arith, within))) in
      ap (at_positions test 0) (take_more ks i d within) ∙ at_positions-more test 0 (take i ks) (get_or ks i d)
      ∙ ap (λ n. at_positions test 0 (take i ks) ++ (if test n then get_or ks i d ∷ [] else [])) front

  -- the next position is dealt out here
  pub at_positions-yes : test i ≡ true → at_positions test 0 (take (i + 1) ks) ≡ at_positions test 0 (take i ks) ++ get_or ks i d ∷ []
  at_positions-yes here = at_positions-next ∙ ap (λ b. at_positions test 0 (take i ks) ++ (if b then get_or ks i d ∷ [] else [])) here

  -- or elsewhere
  pub at_positions-no : test i ≡ false → at_positions test 0 (take (i + 1) ks) ≡ at_positions test 0 (take i ks)
  at_positions-no away =
      at_positions-next ∙ ap (λ b. at_positions test 0 (take i ks) ++ (if b then get_or ks i d ∷ [] else [])) away
      ∙ append-nil (at_positions test 0 (take i ks))

-- a node is one of the children of its input
pub child-counted : (nodes : List NodeRule) (k : ℕ) (n : NodeRule) → slice_get nodes k ≡ Some n → 1 ≤ fed_by nodes n.input
child-counted nodes k n is =
    let feeds : NodeRule → Bool = λ m. m.input == n.input in
    let counted : NodeRule → ℕ = λ m. cond (feeds m) 1 0 in
    let here : counted (get_or nodes k n) ≡ counted n = ap counted (get_or_from_slice_get nodes k n n is) in
    let one : counted n ≡ 1 = ap (λ b. cond b 1 0) (eq-eqb n.input n.input refl) in
    let some : counted (get_or nodes k n) ≤ sum_by counted nodes = get_or-le-sum_by counted nodes k n (slice_get_within nodes k n is) in
    omega (arith, here, one, some, length-filter feeds nodes)

-- where it stands among the nodes, and that its input has a child
pub record IsChild (nodes : List NodeRule) (u v : ℕ) : Type 0 where
  pub first : 1 ≤ v
  pub within : v ≤ length nodes
  pub some : 1 ≤ fed_by nodes u

pub child-place : (nodes : List NodeRule) (u v : ℕ) → IsSomeAnd (rule_at nodes v) (λ n. n.input ≡ u) → IsChild nodes u v
child-place nodes u zero h = absurd h
child-place nodes u (suc k) h = by (slice_get nodes k) refl h
  where
    by : (o : Option NodeRule) → o ≡ slice_get nodes k → IsSomeAnd o (λ n. n.input ≡ u) → IsChild nodes u (suc k)
    by None is h = absurd h
    by (Some n) is h =
        let inside = slice_get_within nodes k n (sym is) in
        record {
          first = omega arith;
          within = omega (arith, inside);
          some = subst (λ w. 1 ≤ fed_by nodes w) h (child-counted nodes k n (sym is));
        }

-- what a node passes on to its child, by its rule
pub share-rule : (nodes : List NodeRule) (u v : ℕ) (ks : List ℕ) (rule : Option NodeRule) → rule ≡ rule_at nodes u
    → rule_share rule (fed_by (take (v - 1) nodes) u) (fed_by nodes u) ks ≡ share_of nodes u v ks
share-rule nodes u v ks rule is = ap (λ o. rule_share o (fed_by (take (v - 1) nodes) u) (fed_by nodes u) ks) is

pub share-kind : (nodes : List NodeRule) (u v : ℕ) (ks : List ℕ) (n : NodeRule) (kind : Kind) → Some n ≡ rule_at nodes u → n.kind ≡ kind
    → kind_share kind (fed_by (take (v - 1) nodes) u) (fed_by nodes u) ks ≡ share_of nodes u v ks
share-kind nodes u v ks n kind is same =
    ap (λ k. kind_share k (fed_by (take (v - 1) nodes) u) (fed_by nodes u) ks) (sym same) ∙ share-rule nodes u v ks (Some n) is
