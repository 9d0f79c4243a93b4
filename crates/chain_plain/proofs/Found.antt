-- The maker of what a node passes on, and where it stands among the makers.
use Rattle.std.specs.Prelude.{◌≡◌, ℕ, zero, suc, ◌+◌, ◌==◌, ◌<◌, ◌≤◌, Bool, true, false, List, ◌∷◌, length, map, filter, find, cond, Option, Some, None}
use Rattle.std.specs.Prelude.{if◌then◌else◌, refl}
use Rattle.std.specs.List.{range_with_len}
use Rattle.std.specs.Option.{option_map_or}
use Rattle.std.proofs.Common.{ap, sym, subst, ◌∙◌, arith, inl, inr}
use Rattle.std.proofs.Math.Dec.{eqb-zero-suc}
use Rattle.std.proofs.lemmas.Bool.{cases_Bool, eqb-true, eqb-false, eq-eqb, false≢true}
use Rattle.nd_base.specs.GraphRules.{IsGraph, makes_arrays, input_of, rule_at}
use Rattle.nd_base.specs.declared.graph.Graph.{Graph}
use Rattle.nd_base.specs.declared.graph.NodeRule.{NodeRule}
use Rattle.nd_base.specs.declared.plan.Maker.{Maker}
use Rattle.nd_base.specs.declared.plan.Plan.{Plan}
use Rattle.nd_base.specs.Array.{StackValue}
use Rattle.chain_plain.specs.Nodes.{is_region, maker_at, regions}
use Rattle.chain_plain.specs.PassingLaws.{IsMaker, input_some, is_region-none, maker_at-step, maker_makes, out_of-maker, rule_within}
use Rattle.chain_plain.specs.Plans.{maker_of, plan_of, region_shape, stack_shape, shape_at}

region_rule : (nodes : List NodeRule) (v : ℕ) (n : NodeRule) → Some n ≡ rule_at nodes v → is_region nodes v ≡ makes_arrays n.kind
region_rule nodes v n is = ap (λ o. option_map_or (λ (r : NodeRule). makes_arrays r.kind) o false) (sym is)

-- the maker of what a node passes on, by its rule
pub maker_of_region : (g : Graph) (v : ℕ) (n : NodeRule) → IsGraph g → Some n ≡ rule_at g.nodes v → makes_arrays n.kind ≡ true → maker_at g.nodes v ≡ v
maker_of_region g v n sound is makes =
    maker_at-step g v sound (rule_within g.nodes v n is)
    ∙ ap (λ b. if b then v else maker_at g.nodes (input_of g.nodes v)) (region_rule g.nodes v n is ∙ makes)

pub maker_of_other : (g : Graph) (v : ℕ) (n : NodeRule) → IsGraph g → Some n ≡ rule_at g.nodes v → makes_arrays n.kind ≡ false
    → maker_at g.nodes v ≡ maker_at g.nodes n.input
maker_of_other g v n sound is other =
    maker_at-step g v sound (rule_within g.nodes v n is)
    ∙ ap (λ b. if b then v else maker_at g.nodes (input_of g.nodes v)) (region_rule g.nodes v n is ∙ other)
    ∙ ap (maker_at g.nodes) (input_some g.nodes v n is)

-- a maker is found under its number
module _ (f : ℕ → Maker) (named : (v : ℕ) → (f v).node ≡ v) (p : ℕ → Bool) (w : ℕ) where
  found_later : (a : ℕ) (b : Bool) (rest : List ℕ) → (a == w) ≡ false → find (λ (m : Maker). m.node == w) (map f rest) ≡ Some (f w)
      → find (λ (m : Maker). m.node == w) (map f (if b then a ∷ rest else rest)) ≡ Some (f w)
  found_later a true rest differs h = ap (λ t. cond t (Some (f a)) (find (λ (m : Maker). m.node == w) (map f rest))) (ap (λ n. n == w) (named a) ∙ differs) ∙ h
  found_later a false rest differs h = h

  found_here : (a : ℕ) (b : Bool) (rest : List ℕ) → a ≡ w → b ≡ true → find (λ (m : Maker). m.node == w) (map f (if b then a ∷ rest else rest)) ≡ Some (f w)
  found_here a true rest same h =
      ap (λ t. cond t (Some (f a)) (find (λ (m : Maker). m.node == w) (map f rest))) (ap (λ n. n == w) (named a) ∙ eq-eqb a w same) ∙ ap (λ v. Some (f v)) same
  found_here a false rest same h = absurd (cc)

  found_among : (n a : ℕ) → a ≤ w → w < a + n → p w ≡ true → find (λ (m : Maker). m.node == w) (map f (filter p (range_with_len a n))) ≡ Some (f w)
  found_among zero a low high is = absurd (omega (arith, low, high))
  found_among (suc n) a low high is = elim (cases_Bool (a == w)) [
    | inl same ↦ let e = eqb-true a w same in found_here a (p a) (filter p (range_with_len (a + 1) n)) e (ap p e ∙ is)
    | inr differs ↦
        let apart = eqb-false a w differs in
        found_later a (p a) (filter p (range_with_len (a + 1) n)) differs (found_among n (a + 1) (omega (arith, low, apart)) (omega (arith, high)) is)
  ]

  found_first : (rest : List ℕ) → 0 ≡ w → find (λ (m : Maker). m.node == w) (map f (0 ∷ rest)) ≡ Some (f w)
  found_first rest same = found_here 0 true rest same refl

region_within : (nodes : List NodeRule) (v : ℕ) (o : Option NodeRule) → o ≡ rule_at nodes v → is_region nodes v ≡ true → v ≤ length nodes
region_within nodes v None h is = absurd (false≢true (sym (is_region-none nodes v h) ∙ is))
region_within nodes v (Some n) h is = rule_within nodes v n h

pub found : (f : ℕ → Maker) (nodes : List NodeRule) (w : ℕ) → ((v : ℕ) → (f v).node ≡ v) → IsMaker nodes w
    → find (λ (m : Maker). m.node == w) (map f (0 ∷ regions nodes)) ≡ Some (f w)
found f nodes w named (inl e) = found_first f named (is_region nodes) w (regions nodes) (sym e)
found f nodes zero named (inr is) = found_first f named (is_region nodes) 0 (regions nodes) refl
found f nodes (suc k) named (inr is) =
    let within = region_within nodes (suc k) (rule_at nodes (suc k)) refl is in
    found_later f named (is_region nodes) (suc k) 0 true (regions nodes) (eqb-zero-suc k)
    (found_among f named (is_region nodes) (suc k) (length nodes) 1 (omega arith) (omega (arith, within)) is)

found_in : (g : Graph) (s : StackValue) (p : Plan) (makers : List Maker) (v w : ℕ) → makers ≡ p.makers → p ≡ plan_of g s → w ≡ maker_at g.nodes v
    → find (λ (m : Maker). m.node == w) makers ≡ Some (maker_of w (shape_at g.nodes s.shape w))
found_in g s p makers v w are planned is =
    ap (find (λ (m : Maker). m.node == w)) (are ∙ ap (λ (q : Plan). q.makers) planned)
    ∙ found (λ u. maker_of u (shape_at g.nodes s.shape u)) g.nodes w (λ u. refl) (subst (IsMaker g.nodes) (sym is) (maker_makes g.nodes (length g.nodes) v))

-- there is one
pub found_some : (g : Graph) (s : StackValue) (p : Plan) (makers : List Maker) (v w : ℕ) → makers ≡ p.makers → p ≡ plan_of g s → w ≡ maker_at g.nodes v
    → None ≡ find (λ (m : Maker). m.node == w) makers → ⊥
found_some g s p makers v w are planned is none =
    let clash : None ≡ Some (maker_of w (shape_at g.nodes s.shape w)) = none ∙ found_in g s p makers v w are planned is in
    absurd (cc)

-- and it has the shape of what the node passes on
pub found_maker : (g : Graph) (s : StackValue) (p : Plan) (makers : List Maker) (v w : ℕ) (m : Maker) → IsGraph g → makers ≡ p.makers → p ≡ plan_of g s
    → w ≡ maker_at g.nodes v → Some m ≡ find (λ (k : Maker). k.node == w) makers → m ≡ maker_of w (shape_at g.nodes s.shape v)
found_maker g s p makers v w m sound are planned is some =
    let both : Some m ≡ Some (maker_of w (shape_at g.nodes s.shape w)) = some ∙ found_in g s p makers v w are planned is in
    let same : m ≡ maker_of w (shape_at g.nodes s.shape w) = cc in
    same ∙ ap (maker_of w) (ap (shape_at g.nodes s.shape) is ∙ sym (out_of-maker region_shape g v (stack_shape s.shape) sound))
