-- In a run: the setting's nodes are those of the graph, and the positions that went out are those of the one-thread result.
use Rattle.std.proofs.Common.{◌≡◌, ℕ, zero, suc, ◌+◌, ◌≤◌, ◌<◌, Bool, true, false, ◌&&◌, cond, ltb, leb, List, [], ◌∷◌, map, length, refl, sym, ap, ◌∙◌}
use Rattle.std.proofs.Common.{subst, arith, inl, inr, Option, Some, None, ◌⊎◌}
use Rattle.std.specs.Prelude.{slice_get}
use Rattle.std.specs.Option.{option_map, option_map_or}
use Rattle.std.specs.List.Sorted.{IsPermutation}
use Rattle.std.proofs.lemmas.Bool.{and_from, lt-ltb, le-leb, cases_Bool, false≢true}
use Rattle.std.proofs.lemmas.List.{length-map}
use Rattle.std.proofs.lemmas.List.Sorted.{IsPermutation-refl}
use Rattle.std.proofs.lemmas.Option.{slice_get-map, slice_get_within, get_or_from_slice_get}
use Rattle.nd_base.specs.Array.{Array}
use Rattle.nd_base.specs.declared.frame.FrameName.{FrameName}
use Rattle.nd_base.specs.declared.graph.CircularRule.{CircularRule}
use Rattle.nd_base.specs.declared.graph.Graph.{Graph}
use Rattle.nd_base.specs.declared.graph.Kind.{Kind}
use Rattle.nd_base.specs.declared.graph.Kind.TheVariants.{Roi, Stats, Circular, File, Scatter}
use Rattle.nd_base.specs.declared.graph.NodeRule.{NodeRule}
use Rattle.nd_base.specs.declared.plan.Maker.{Maker}
use Rattle.nd_base.specs.GraphRules.{IsGraph, IsNode, IsKind, IsCircular, is_parallel, rule_at}
use Rattle.trig_window.specs.Triggers.{trigger_fires}
use Rattle.trig_window.specs.Windows.{at_positions, is_passed, passed_items}
use Rattle.chain_plain.specs.OneThread.{fires_at, rule_outputs, kind_outputs, outputs}
use Rattle.chain_plain.proofs.Rules.{stands}
use Rattle.flow_journal.specs.Setting.{Setting, Node, node, no_node, is_node, is_maker, may_sort, is_sorted}
use Rattle.flow_journal.specs.Pasts.{Past, frame}
use Rattle.flow_journal.specs.Unsaved.{standing_saves, is_file}
use Rattle.flow_journal.specs.Accepted.{accepted, emitted}
use Rattle.flow_journal.specs.RunSetting.{setting_of, node_of, work_of, kind_fires, node_fires}
use Rattle.run_laws.specs.Results.{IsFinishedRun, put_out, indices}
use Rattle.flow_journal.specs.ResultNames.{result_name}
use Rattle.run_laws.proofs.Finishes.{saves-are, emits-are, windows-are}
use Rattle.run_laws.proofs.Orders.{emits-permute}

-- a node that may have several threads or a sort list passes on all
pub parallel-passes : (k : Kind) (arrays : List Array) (ks : List ℕ) → is_parallel k ≡ true
    → (kind_outputs k arrays ks ≡ ks) × (may_sort (work_of k) ≡ true) × (is_file (work_of k) ≡ false)
parallel-passes (Roi r) arrays ks h = (refl, refl, refl)
parallel-passes (Stats r) arrays ks h = (refl, refl, refl)
parallel-passes (Circular r) arrays ks h = absurd (false≢true h)
parallel-passes (File r) arrays ks h = absurd (false≢true h)
parallel-passes Scatter arrays ks h = absurd (false≢true h)

module _ (g : Graph) (makers : List Maker) (arrays : List Array) where
  abbrev s : Setting
  s = setting_of g makers arrays

  pub node-is : (v : ℕ) (n : NodeRule) → rule_at g.nodes v ≡ Some n → node s v ≡ node_of n
  node-is zero n h = cc
  node-is (suc k) n h = get_or_from_slice_get (map node_of g.nodes) k (node_of n) no_node (slice_get-map node_of g.nodes k ∙ ap (option_map node_of) h)

  pub number-is : (v : ℕ) (n : NodeRule) → rule_at g.nodes v ≡ Some n → is_node s v ≡ true
  number-is zero n h = cc
  number-is (suc k) n h =
      let inside : k < length g.nodes = slice_get_within g.nodes k n h in
      let same : length (map node_of g.nodes) ≡ length g.nodes = length-map g.nodes node_of in
      and_from (ltb 0 (suc k)) (leb (suc k) (length (map node_of g.nodes))) (lt-ltb 0 (suc k) (omega arith))
      (le-leb (suc k) (length (map node_of g.nodes)) (omega (arith, inside, same)))

  indices-results : (v : ℕ) (xs : List FrameName) → indices (map (result_name s v) xs) ≡ indices xs
  indices-results v [] = refl
  indices-results v (x ∷ xs) =
      ap (λ (j : ℕ). j ∷ indices (map (result_name s v) xs)) (index_of (is_maker s v)) ∙ ap (λ (js : List ℕ). x.index ∷ js) (indices-results v xs)
    where
      index_of : (b : Bool) → (cond b (frame v x.index) x).index ≡ x.index
      index_of true = refl
      index_of false = refl

  indices-passed : (p : ℕ → Bool) (j : ℕ) (xs : List FrameName) → indices (at_positions p j xs) ≡ at_positions p j (indices xs)
  indices-passed p j [] = refl
  indices-passed p j (x ∷ xs) =
      elim (cases_Bool (p j)) [
        | inl here ↦ rw here (ap (λ (js : List ℕ). x.index ∷ js) (indices-passed p (j + 1) xs))
        | inr away ↦ rw away (indices-passed p (j + 1) xs)
      ]

  fires-are : (v : ℕ) (n : NodeRule) (r : CircularRule) → rule_at g.nodes v ≡ Some n → n.kind ≡ Circular r → (xs : List FrameName)
      → map (λ (a : FrameName). s.fires v a.index) xs ≡ map (fires_at r arrays) (indices xs)
  fires-are v n r h kind [] = refl
  fires-are v n r h kind (x ∷ xs) =
      ap (λ (b : Bool). b ∷ map (λ (a : FrameName). s.fires v a.index) xs)
      (ap (λ o. node_fires o (slice_get arrays x.index)) h ∙ one (slice_get arrays x.index))
      ∙ ap (λ (bs : List Bool). fires_at r arrays x.index ∷ bs) (fires-are v n r h kind xs)
    where
      one : (o : Option Array) → node_fires (Some n) o ≡ option_map_or (λ (a : Array). trigger_fires r a.attrs) o false
      one None = refl
      one (Some a) = ap (λ k. kind_fires k a.attrs) kind

  pub outputs-are : (v : ℕ) (n : NodeRule) (k : Kind) (ks : List ℕ) → rule_at g.nodes v ≡ Some n → n.kind ≡ k
      → outputs g.nodes arrays v ks ≡ kind_outputs k arrays ks
  outputs-are v n k ks h kind = ap (λ o. rule_outputs o arrays ks) h ∙ ap (λ c. kind_outputs c arrays ks) kind

  -- what is known of the node of a run
  pub record Known (v : ℕ) (n : NodeRule) (k : Kind) : Type 0 where
    pub rule : rule_at g.nodes v ≡ Some n
    pub kind : n.kind ≡ k
    pub work : (node s v).work ≡ work_of k
    pub number : is_node s v ≡ true

  pub known : (v : ℕ) (n : NodeRule) (k : Kind) → rule_at g.nodes v ≡ Some n → n.kind ≡ k → Known v n k
  known v n k h kind = record { rule = h; kind = kind; work = ap (λ (m : Node). m.work) (node-is v n h) ∙ ap work_of kind; number = number-is v n h }

  plain-is : (v : ℕ) (n : NodeRule) → rule_at g.nodes v ≡ Some n → n.sort ≡ 0 → is_sorted s v ≡ false
  plain-is v n h none =
      let zero_sort : (node s v).sort ≡ 0 = ap (λ (m : Node). m.sort) (node-is v n h) ∙ none in
      elim (may_sort (node s v).work) as (λ b. (b && ltb 0 (node s v).sort) ≡ false) [ true ↦ ap (ltb 0) zero_sort | false ↦ refl ]

  pub one-is : (v : ℕ) (n : NodeRule) → rule_at g.nodes v ≡ Some n → n.threads ≡ 1 → (node s v).threads ≤ 1
  one-is v n h one = let same : (node s v).threads ≡ 1 = ap (λ (m : Node). m.threads) (node-is v n h) ∙ one in omega (arith, same)

  pub out-emitted : (v : ℕ) (P : Past) → is_file (node s v).work ≡ false → put_out s v P ≡ emitted v P
  out-emitted v P h = ap (λ (b : Bool). cond b (standing_saves v P) (emitted v P)) h

  pub out-saved : (v : ℕ) (P : Past) → is_file (node s v).work ≡ true → put_out s v P ≡ standing_saves v P
  out-saved v P h = ap (λ (b : Bool). cond b (standing_saves v P) (emitted v P)) h

  pub positions : (P : Past) (v : ℕ) (n : NodeRule) → IsGraph g → rule_at g.nodes v ≡ Some n → n.threads ≡ 1 → n.sort ≡ 0 → IsFinishedRun s P
      → indices (put_out s v P) ≡ outputs g.nodes arrays v (indices (accepted s v P))
  positions P v n sound h one none run = by n.kind refl
    where
      all : (k : Kind) → n.kind ≡ k → kind_outputs k arrays (indices (accepted s v P)) ≡ indices (accepted s v P) → may_sort (work_of k) ≡ true
          → is_file (work_of k) ≡ false → indices (put_out s v P) ≡ outputs g.nodes arrays v (indices (accepted s v P))
      all k kind passes sorts no_save =
          let d = known v n k h kind in
          ap indices (out-emitted v P (ap is_file d.work ∙ no_save)
          ∙ emits-are s P v d.number (ap may_sort d.work ∙ sorts) (plain-is v n h none) (one-is v n h one) run)
          ∙ (indices-results v (accepted s v P) ∙ sym (outputs-are v n k (indices (accepted s v P)) h kind ∙ passes))

      by : (k : Kind) → n.kind ≡ k → indices (put_out s v P) ≡ outputs g.nodes arrays v (indices (accepted s v P))
      by (Roi r) kind = all (Roi r) kind refl refl refl
      by (Stats r) kind = all (Stats r) kind refl refl refl
      by Scatter kind = all Scatter kind refl refl refl
      by (File r) kind =
          let d = known v n (File r) h kind in
          ap indices (out-saved v P (ap is_file d.work) ∙ saves-are s P v (ap is_file d.work) (one-is v n h one) run)
          ∙ sym (outputs-are v n (File r) (indices (accepted s v P)) h kind)
      by (Circular r) kind =
          let d = known v n (Circular r) h kind in
          let rule : IsCircular r = subst IsKind kind (stands g v n sound (sym h)).sound.kind in
          ap indices (out-emitted v P (ap is_file d.work) ∙ windows-are s P v r.pre r.post r.preset d.work rule.post.0 (one-is v n h one) run)
          ∙ (indices-passed (is_passed r.pre r.post r.preset (map (λ (a : FrameName). s.fires v a.index) (accepted s v P))) 0 (accepted s v P)
          ∙ (ap (λ (bs : List Bool). passed_items r.pre r.post r.preset bs (indices (accepted s v P))) (fires-are v n r h kind (accepted s v P))
          ∙ sym (outputs-are v n (Circular r) (indices (accepted s v P)) h kind)))

  pub some_order : (P : Past) (v : ℕ) (n : NodeRule) → IsGraph g → rule_at g.nodes v ≡ Some n → IsFinishedRun s P
      → IsPermutation (outputs g.nodes arrays v (indices (accepted s v P))) (indices (put_out s v P))
  some_order P v n sound h run = by (cases_Bool (is_parallel n.kind))
    where
      node_sound : IsNode n
      node_sound = (stands g v n sound (sym h)).sound

      by : (is_parallel n.kind ≡ true) ⊎ (is_parallel n.kind ≡ false)
          → IsPermutation (outputs g.nodes arrays v (indices (accepted s v P))) (indices (put_out s v P))
      by (inr alone) =
          subst (λ (xs : List ℕ). IsPermutation (outputs g.nodes arrays v (indices (accepted s v P))) xs)
          (sym (positions P v n sound h (node_sound.one_thread alone) (node_sound.unsorted alone) run))
          (IsPermutation-refl (outputs g.nodes arrays v (indices (accepted s v P))))
      by (inl several) =
          let d = known v n n.kind h refl in
          let p = parallel-passes n.kind arrays (indices (accepted s v P)) several in
          let whole : outputs g.nodes arrays v (indices (accepted s v P)) ≡ indices (accepted s v P) =
          outputs-are v n n.kind (indices (accepted s v P)) h refl ∙ p.0 in
          let out : put_out s v P ≡ emitted v P = out-emitted v P (ap is_file d.work ∙ p.2) in
          let perm : IsPermutation (indices (accepted s v P)) (indices (emitted v P)) = emits-permute s P v d.number (ap may_sort d.work ∙ p.1) run in
          subst (λ (xs : List ℕ). IsPermutation xs (indices (put_out s v P))) (sym whole)
          (subst (λ (xs : List FrameName). IsPermutation (indices (accepted s v P)) (indices xs)) (sym out) perm)
