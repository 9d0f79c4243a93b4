-- The makers of a plan by their numbers, and what a node's maker makes.
use Rattle.std.proofs.Common.{◌≡◌, ◌+◌, ◌-◌, ◌*◌, ◌^◌, ◌<◌, ◌≤◌, ◌==◌, ℕ, zero, suc, List, [], ◌∷◌, Bool, true, false, Option, Some, None, length, map}
use Rattle.std.proofs.Common.{cond, inl, inr, refl, ap, sym, ◌∙◌, subst, arith}
use Rattle.std.specs.Prelude.{find, filter, nat_lt}
use Rattle.std.specs.List.{AllByRecursion, list_any, range_with_len, slice_get}
use Rattle.std.specs.Option.{option_map, option_map_or}
use Rattle.std.proofs.lemmas.Bool.{cases_Bool}
use Rattle.std.proofs.lemmas.Bool.Decides.{nat_tests}
use Rattle.std.proofs.lemmas.List.Elements.{recursion_from_All}
use Rattle.std.proofs.Math.Nat.{mul-le-mul, mul-le-mul_left}
use Rattle.nd_base.specs.Array.{StackValue}
use Rattle.nd_base.specs.Stacks.{IsStack}
use Rattle.nd_base.specs.declared.array.Dim.{Dim}
use Rattle.nd_base.specs.declared.array.SampleType.{SampleType}
use Rattle.cdf_write.specs.Writable.{IsWritable}
use Rattle.cdf_write.specs.WritableLaws.{shape_for-IsWritable}
use Rattle.nd_base.specs.GraphRules.{makes_arrays, IsGraph, rule_at}
use Rattle.nd_base.specs.declared.graph.Graph.{Graph}
use Rattle.nd_base.specs.declared.graph.NodeRule.{NodeRule}
use Rattle.chain_plain.specs.Nodes.{is_region, regions, maker_at}
use Rattle.chain_plain.specs.PassingLaws.{rule_within, out_of-maker, IsMaker}
use Rattle.chain_plain.specs.ContentLaws.{IsArrayShape, plans-sound, maker_at-makes}
use Rattle.graph_conf.specs.Loads.{kept_by, kept_from, file_bytes, file_bytes_at, most_bytes, most_bytes_at, first_too_long}
use Rattle.graph_conf.specs.declared.load.LimitFault.TheVariants.{FileTooLarge}
use Rattle.chain_plain.specs.Plans.{region_shape, stack_shape, shape_at, maker_of, plan_of}

found_map : {X Y : Type 0} (f : X → Y) (here : Bool) (x : X) (later : Option Y) (rest : Option X) → later ≡ option_map f rest
    → cond here (Some (f x)) later ≡ option_map f (cond here (Some x) rest)
found_map f true x later rest same = refl
found_map f false x later rest same = same

find_map : {X Y : Type 0} (test : Y → Bool) (f : X → Y) (xs : List X) → find test (map f xs) ≡ option_map f (find (λ x. test (f x)) xs)
find_map test f [] = refl
find_map test f (x ∷ xs) = found_map f (test (f x)) x _ _ (find_map test f xs)

in_range : (k a n : ℕ) → a ≤ k → k < a + n → list_any (λ v. v == k) (range_with_len a n) ≡ true
in_range k a zero from below = absurd (omega arith)
in_range k a (suc n) from below =
    elim (cases_Bool (a == k)) [
      | inl same ↦ rw same
      | inr other ↦ let e : a + 1 ≤ k = grind (arith, nat_tests) in rw (other, in_range k (a + 1) n e (omega arith))
    ]

-- a number that passes is found among those that do
found_number : (p : ℕ → Bool) (k : ℕ) (xs : List ℕ) → p k ≡ true → list_any (λ v. v == k) xs ≡ true → find (λ v. v == k) (filter p xs) ≡ Some k
found_number p k [] passes among = absurd (cc)
found_number p k (x ∷ xs) passes among =
    elim (cases_Bool (x == k)) [
      | inl same ↦
          let e : x ≡ k = grind (arith, nat_tests) in
          let px : p x ≡ true = ap p e ∙ passes in
          rw (px, same) (ap Some e)
      | inr other ↦
          let later : list_any (λ v. v == k) xs ≡ true = rw other at among in
          elim (cases_Bool (p x)) [
            | inl kept ↦ rw (kept, other) (found_number p k xs passes later)
            | inr gone ↦ rw gone (found_number p k xs passes later)
          ]
    ]

region_known : (nodes : List NodeRule) (k : ℕ) (o : Option NodeRule) → o ≡ rule_at nodes k
    → option_map_or (λ n. makes_arrays n.kind) o false ≡ true → k ≤ length nodes
region_known nodes k None same h = absurd (cc)
region_known nodes k (Some n) same h = rule_within nodes k n same

region_above : (nodes : List NodeRule) (k : ℕ) → is_region nodes k ≡ true → 1 ≤ k
region_above nodes zero h = absurd (cc)
region_above nodes (suc k) h = omega arith

maker_listed : (nodes : List NodeRule) (k : ℕ) → IsMaker nodes k → find (λ v. v == k) (0 ∷ regions nodes) ≡ Some k
maker_listed nodes zero is = refl
maker_listed nodes (suc k) (inl driver) = absurd (omega (arith, driver))
maker_listed nodes (suc k) (inr region) =
    let other : (0 == suc k) ≡ false = grind (arith, nat_tests) in
    ap (λ b. cond b (Some 0) (find (λ v. v == suc k) (regions nodes))) other
    ∙ found_number (is_region nodes) (suc k) (range_with_len 1 (length nodes)) region
    (in_range (suc k) 1 (length nodes) (region_above nodes (suc k) region) (omega (arith, region_known nodes (suc k) (rule_at nodes (suc k)) refl region)))

-- a node's maker stands in the plan
planned_maker : (g : Graph) (s : StackValue) (v : ℕ) →
    find (λ m. m.node == maker_at g.nodes v) (plan_of g s).makers ≡ Some (maker_of (maker_at g.nodes v) (shape_at g.nodes s.shape (maker_at g.nodes v)))
planned_maker g s v =
    find_map (λ m. m.node == maker_at g.nodes v) (λ w. maker_of w (shape_at g.nodes s.shape w)) (0 ∷ regions g.nodes)
    ∙ ap (option_map (λ w. maker_of w (shape_at g.nodes s.shape w))) (maker_listed g.nodes (maker_at g.nodes v) (maker_at-makes g.nodes v))

-- its arrays are those that go out of the node
maker_shape : (g : Graph) (s : StackValue) (v : ℕ) → IsGraph g → shape_at g.nodes s.shape (maker_at g.nodes v) ≡ shape_at g.nodes s.shape v
maker_shape g s v sound = sym (out_of-maker region_shape g v (stack_shape s.shape) sound)

found_holds : {X : Type 0} (P : X → Type 0) (test : X → Bool) (xs : List X) (x : X) → AllByRecursion P xs → find test xs ≡ Some x → P x
found_holds P test [] x all h = absurd (cc)
found_holds P test (y ∷ ys) x all h =
    elim (cases_Bool (test y)) [
      | inl here ↦ let e : Some y ≡ Some x = sym (ap (λ b. cond b (Some y) (find test ys)) here) ∙ h in let same : y ≡ x = cc in subst P same all.0
      | inr other ↦ found_holds P test ys x all.1 (sym (ap (λ b. cond b (Some y) (find test ys)) other) ∙ h)
    ]

-- what goes out of a node has dimensions that an array may have
node_dims : (g : Graph) (s : StackValue) (v : ℕ) → IsGraph g → IsStack s → IsArrayShape (shape_at g.nodes s.shape v).dims
node_dims g s v sound stack =
    subst (λ made. IsArrayShape made.dims) (maker_shape g s v sound)
    (found_holds (λ m. IsArrayShape m.dims) (λ m. m.node == maker_at g.nodes v) (plan_of g s).makers _
    (recursion_from_All (λ m. IsArrayShape m.dims) (plan_of g s).makers (plans-sound g s stack)) (planned_maker g s v))

-- and so a file of its arrays can be spelled
pub node_writable : (g : Graph) (s : StackValue) (v : ℕ) (kind : SampleType) (dims : List Dim) → IsGraph g → IsStack s → IsWritable s.shape
    → dims ≡ (shape_at g.nodes s.shape v).dims → IsWritable (record s.shape { kind = kind; dims = dims })
node_writable g s v kind dims sound stack shape same =
    let array = subst IsArrayShape (sym same) (node_dims g s v sound stack) in
    shape_for-IsWritable s.shape s.shape.form kind dims shape array.dimensions array.few

-- the rule of the node at a place
rule_after : (nodes : List NodeRule) (k : ℕ) → rule_at nodes (k + 1) ≡ slice_get nodes k
rule_after nodes k = let e : k + 1 ≡ suc k = omega arith in ap (rule_at nodes) e

pub kept_next : (g : Graph) (s : StackValue) (k n : ℕ) (node : NodeRule) → k < n → slice_get g.nodes k ≡ Some node →
    kept_from g s (k + 1) (n - k) ≡ length s.arrays * kept_by node.kind (shape_at g.nodes s.shape (k + 1)).dims + kept_from g s (k + 1 + 1) (n - (k + 1))
kept_next g s k n node within is =
    let e : n - k ≡ suc (n - (k + 1)) = omega arith in
    ap (kept_from g s (k + 1)) e
    ∙ ap (λ o. length s.arrays * option_map_or (λ m. kept_by m.kind (shape_at g.nodes s.shape (k + 1)).dims) o 0 + kept_from g s (k + 1 + 1) (n - (k + 1)))
    (rule_after g.nodes k ∙ is)

pub kept_none : (g : Graph) (s : StackValue) (v n : ℕ) → kept_from g s v (n - n) ≡ 0
kept_none g s v n = let e : n - n ≡ 0 = omega arith in ap (kept_from g s v) e

-- frames of a load that isn't too high, and the numbers that a node keeps
pub few_frames : (frames nodes : ℕ) → 1 ≤ nodes → frames * nodes ≤ 1048576 → frames ≤ 1048576
few_frames frames nodes some few = omega (arith, mul-le-mul_left frames some, few)

pub few_numbers : (frames numbers : ℕ) → frames ≤ 1048576 → numbers ≤ 2 ^ 35 → frames * numbers ≤ 2 ^ 55
few_numbers frames numbers few small = mul-le-mul few small

pub bytes_at : (g : Graph) (s : StackValue) (k : ℕ) (node : NodeRule) → slice_get g.nodes k ≡ Some node →
    file_bytes_at g s (k + 1)
    ≡ file_bytes node.kind (record s.shape { kind = (shape_at g.nodes s.shape (k + 1)).kind; dims = (shape_at g.nodes s.shape (k + 1)).dims }) (length s.arrays)
bytes_at g s k node is =
    let shape = record s.shape { kind = (shape_at g.nodes s.shape (k + 1)).kind; dims = (shape_at g.nodes s.shape (k + 1)).dims } in
    ap (λ o. option_map_or (λ m. file_bytes m.kind shape (length s.arrays)) o 0) (rule_after g.nodes k ∙ is)

pub most_at : (g : Graph) (k : ℕ) (node : NodeRule) → slice_get g.nodes k ≡ Some node → most_bytes_at g (k + 1) ≡ most_bytes node.kind
most_at g k node is = ap (λ o. option_map_or (λ m. most_bytes m.kind) o 0) (rule_after g.nodes k ∙ is)

pub too_long_next : (g : Graph) (s : StackValue) (k n bytes most : ℕ) (b : Bool) → k < n → bytes ≡ file_bytes_at g s (k + 1)
    → most ≡ most_bytes_at g (k + 1) → nat_lt most bytes ≡ b →
    first_too_long g s (k + 1) (n - k) ≡ cond b (Some (FileTooLarge (k + 1) bytes)) (first_too_long g s (k + 1 + 1) (n - (k + 1)))
too_long_next g s k n bytes most b within is limit long =
    let e : n - k ≡ suc (n - (k + 1)) = omega arith in
    let later = first_too_long g s (k + 1 + 1) (n - (k + 1)) in
    ap (first_too_long g s (k + 1)) e
    ∙ ap (λ size. cond (nat_lt (most_bytes_at g (k + 1)) size) (Some (FileTooLarge (k + 1) size)) later) (sym is)
    ∙ ap (λ m. cond (nat_lt m bytes) (Some (FileTooLarge (k + 1) bytes)) later) (sym limit)
    ∙ ap (λ c. cond c (Some (FileTooLarge (k + 1) bytes)) later) long

pub too_long_none : (g : Graph) (s : StackValue) (v n : ℕ) → first_too_long g s v (n - n) ≡ None
too_long_none g s v n = let e : n - n ≡ 0 = omega arith in ap (first_too_long g s v) e
