-- What nodes give one after the other.
use Rattle.std.proofs.Common.{◌≡◌, ℕ, zero, suc, ◌+◌, ◌<◌, ◌≤◌, List, [], ◌∷◌, ◌++◌, Some, length, get_or, ap, sym, ◌∙◌, arith}
use Rattle.std.specs.Prelude.{All}
use Rattle.std.specs.List.{flat_map, range_with_len}
use Rattle.std.specs.Option.{option_map_or}
use Rattle.std.proofs.lemmas.List.{append-nil}
use Rattle.std.proofs.lemmas.List.Concat.{flat_map-append}
use Rattle.std.proofs.lemmas.List.Elements.{All-nil, All-append}
use Rattle.std.proofs.lemmas.Option.{slice_get-get_or}
use Rattle.nd_base.specs.Array.{StackValue}
use Rattle.nd_base.specs.declared.graph.Graph.{Graph}
use Rattle.nd_base.specs.declared.graph.NodeRule.{NodeRule}
use Rattle.nd_base.specs.GraphRules.{rule_at}
use Rattle.chain_plain.specs.PlainRun.{passed}
use Rattle.tool_commands.specs.PlainText.{out_line, node_line}

range_more : (a n : ℕ) → range_with_len a (suc n) ≡ range_with_len a n ++ (a + n) ∷ []
range_more a zero = let e : a ≡ a + 0 = omega arith in ap (λ k. k ∷ []) e
range_more a (suc n) =
    let e : a + 1 + n ≡ a + suc n = omega arith in
    ap (λ ks. a ∷ ks) (range_more (a + 1) n ∙ ap (λ k. range_with_len (a + 1) n ++ k ∷ []) e)

module _ {X : Type 0} (f : ℕ → List X) where
  -- what the first nodes give, and one more
  pub each_more : (place : ℕ) → flat_map f (range_with_len 1 (place + 1)) ≡ flat_map f (range_with_len 1 place) ++ f (place + 1)
  each_more place =
      let e : 1 + place ≡ place + 1 = omega arith in
      let next : place + 1 ≡ suc place = omega arith in
      ap (λ n. flat_map f (range_with_len 1 n)) next ∙ ap (flat_map f) (range_more 1 place) ∙ flat_map-append f (range_with_len 1 place) ((1 + place) ∷ [])
      ∙ ap (λ xs. flat_map f (range_with_len 1 place) ++ xs) (append-nil (f (1 + place)) ∙ ap f e)

  -- what holds of what each node gives holds of all of it
  pub All-each : (P : X → Type 0) (a n : ℕ) → ((v : ℕ) → a ≤ v → All P (f v)) → All P (flat_map f (range_with_len a n))
  All-each P a zero each = All-nil P
  All-each P a (suc n) each =
      All-append P (f a) (flat_map f (range_with_len (a + 1) n)) (each a (omega arith)) (All-each P (a + 1) n (λ v low. each v (omega (arith, low))))

-- the rule of the node at a place
rule_after : (nodes : List NodeRule) (place : ℕ) (n : NodeRule) → place < length nodes → n ≡ get_or nodes place n → rule_at nodes (place + 1) ≡ Some n
rule_after nodes place n within is =
    let e : place + 1 ≡ suc place = omega arith in
    ap (rule_at nodes) e ∙ slice_get-get_or nodes place n within ∙ ap Some (sym is)

-- and its line
pub node_line-at : (g : Graph) (s : StackValue) (place : ℕ) (n : NodeRule) → place < length g.nodes → n ≡ get_or g.nodes place n
    → node_line g s (place + 1) ≡ out_line n.name (length (passed g s (place + 1)))
node_line-at g s place n within is =
    ap (λ o. option_map_or (λ (m : NodeRule). out_line m.name (length (passed g s (place + 1)))) o []) (rule_after g.nodes place n within is)
