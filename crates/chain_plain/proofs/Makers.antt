-- The makers and the ids so far.
use Rattle.std.specs.Prelude.{◌≡◌, ℕ, zero, suc, ◌+◌, ◌<◌, Bool, true, false, List, [], ◌∷◌, ◌++◌, length, map, take, filter, Some, IfSome, slice_get}
use Rattle.std.specs.Prelude.{if◌then◌else◌}
use Rattle.std.specs.List.{range_with_len}
use Rattle.std.specs.Option.{option_map_or}
use Rattle.std.proofs.Common.{ap, sym, ◌∙◌, arith, get_or}
use Rattle.std.proofs.lemmas.List.{map-append, append-nil}
use Rattle.std.proofs.lemmas.List.Elements.{filter-append}
use Rattle.std.proofs.lemmas.Option.{slice_get-get_or}
use Rattle.nd_base.specs.GraphRules.{makes_arrays}
use Rattle.nd_base.specs.Array.{Array}
use Rattle.nd_base.specs.declared.array.Head.{Head}
use Rattle.nd_base.specs.declared.graph.NodeRule.{NodeRule}
use Rattle.nd_base.specs.Stacks.{head_of}
use Rattle.nd_base.specs.PlaceLaws.{range-split}
use Rattle.chain_plain.specs.Nodes.{is_region}

-- one id more
pub ids_more : (arrays : List Array) (k : ℕ) (h : Head) → k < length arrays → IfSome (slice_get arrays k) (λ a. head_of a ≡ h)
    → map (λ (a : Array). a.id) (take k arrays) ++ h.id ∷ [] ≡ map (λ (a : Array). a.id) (take (suc k) arrays)
ids_more [] k h within some = absurd (omega arith)
ids_more (a ∷ arrays) zero h within some = ap (λ (g : Head). g.id ∷ []) (sym some)
ids_more (a ∷ arrays) (suc k) h within some = ap (λ ids. a.id ∷ ids) (ids_more arrays k h (omega (arith, within)) some)

filter_one : (p : ℕ → Bool) (k : ℕ) → filter p (range_with_len 1 (k + 1)) ≡ filter p (range_with_len 1 k) ++ filter p ((1 + k) ∷ [])
filter_one p k = ap (filter p) (range-split 1 k 1) ∙ filter-append p (range_with_len 1 k) (range_with_len (1 + k) 1)

one_kept : (p : ℕ → Bool) (v : ℕ) → p v ≡ true → filter p (v ∷ []) ≡ v ∷ []
one_kept p v h = ap (λ b. if b then v ∷ [] else []) h

one_skipped : (p : ℕ → Bool) (v : ℕ) → p v ≡ false → filter p (v ∷ []) ≡ []
one_skipped p v h = ap (λ b. if b then v ∷ [] else []) h

module _ {X : Type 0} (f : ℕ → X) (p : ℕ → Bool) (k : ℕ) where
  -- a region node is one maker more
  pub maker_more : p (1 + k) ≡ true → map f (0 ∷ filter p (range_with_len 1 (k + 1))) ≡ map f (0 ∷ filter p (range_with_len 1 k)) ++ f (1 + k) ∷ []
  maker_more h =
      ap (λ vs. map f (0 ∷ vs)) (filter_one p k ∙ ap (λ vs. filter p (range_with_len 1 k) ++ vs) (one_kept p (1 + k) h))
      ∙ map-append f (0 ∷ filter p (range_with_len 1 k)) ((1 + k) ∷ [])

  -- and another node none
  pub maker_none : p (1 + k) ≡ false → map f (0 ∷ filter p (range_with_len 1 (k + 1))) ≡ map f (0 ∷ filter p (range_with_len 1 k))
  maker_none h =
      ap (λ vs. map f (0 ∷ vs)) (filter_one p k ∙ ap (λ vs. filter p (range_with_len 1 k) ++ vs) (one_skipped p (1 + k) h)
      ∙ append-nil (filter p (range_with_len 1 k)))

-- the node at a place
pub is_region-at : (nodes : List NodeRule) (k : ℕ) (n : NodeRule) → k < length nodes → get_or nodes k n ≡ n → is_region nodes (1 + k) ≡ makes_arrays n.kind
is_region-at nodes k n within is =
    let e : 1 + k ≡ suc k = omega arith in
    ap (is_region nodes) e ∙ ap (λ o. option_map_or (λ (r : NodeRule). makes_arrays r.kind) o false) (slice_get-get_or nodes k n within ∙ ap Some is)
