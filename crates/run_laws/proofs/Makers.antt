-- In a run the arrays of a node have the name of its maker, and so what they hold is the one-thread result.
use Rattle.std.proofs.Common.{◌≡◌, ◌≢◌, ℕ, zero, suc, ◌<◌, Bool, true, false, not, eqb, List, [], ◌∷◌, ◌++◌, length, refl, sym, ap, ◌∙◌, subst, arith, inl}
use Rattle.std.proofs.Common.{inr, Option, Some, None}
use Rattle.std.specs.Prelude.{slice_get, IsTrue}
use Rattle.std.specs.Option.{option_map_or}
use Rattle.std.specs.List.{All, list_any}
use Rattle.std.proofs.lemmas.List.Elements.{All-nil, All-cons}
use Rattle.std.specs.List.Sorted.{IsPermutation}
use Rattle.std.proofs.lemmas.Bool.{and_parts, false≢true, eq-eqb, eqb-true, cases_Bool}
use Rattle.std.proofs.lemmas.Option.{slice_get_within, get_or_from_slice_get}
use Rattle.nd_base.specs.Array.{Array}
use Rattle.nd_base.specs.declared.frame.FrameName.{FrameName}
use Rattle.nd_base.specs.declared.graph.Graph.{Graph}
use Rattle.nd_base.specs.declared.graph.Kind.{Kind}
use Rattle.nd_base.specs.declared.graph.Kind.TheVariants.{Roi, Stats, Circular, File, Scatter}
use Rattle.nd_base.specs.declared.graph.NodeRule.{NodeRule}
use Rattle.nd_base.specs.declared.plan.Maker.{Maker}
use Rattle.nd_base.specs.GraphRules.{IsGraph, IsKind, makes_arrays, IsCircular, may_feed, is_parallel, is_source, rule_at}
use Rattle.chain_plain.specs.Content.{content}
use Rattle.chain_plain.specs.ContentLaws.{content-maker}
use Rattle.chain_plain.specs.Nodes.{maker_at}
use Rattle.chain_plain.specs.OneThread.{listed, arrays_out, outputs, one_thread}
use Rattle.chain_plain.specs.PassingLaws.{maker_within-none}
use Rattle.chain_plain.proofs.Depths.{depth}
use Rattle.chain_plain.proofs.Found.{maker_of_region, maker_of_other}
use Rattle.chain_plain.proofs.Rules.{stands}
use Rattle.flow_journal.specs.Setting.{Setting, Node, makes, node, is_maker, may_sort}
use Rattle.flow_journal.specs.Pasts.{Past, frame}
use Rattle.flow_journal.specs.Unsaved.{is_file}
use Rattle.flow_journal.specs.Accepted.{accepts, is_dropped_by, accepted, emitted}
use Rattle.flow_journal.specs.Histories.{is_legal, is_history}
use Rattle.flow_journal.specs.RunSetting.{setting_of, work_of}
use Rattle.flow_journal.proofs.EntryCounts.{count, bit, count-cons, puts_of}
use Rattle.run_laws.specs.Results.{IsFinishedRun, put_out, indices, contents, outcome, AreInOrder, AreInSomeOrder}
use Rattle.run_laws.proofs.Dropping.{count-filter-le}
use Rattle.run_laws.proofs.Finishes.{saves-are}
use Rattle.run_laws.proofs.Sorted.{puts-accepted}
use Rattle.run_laws.proofs.Permutations.{permute-pieces}
use Rattle.run_laws.proofs.Names.{emits_of, accepts_of, emitted-of, accepts-list, accepts-emitted-of, emits-put, watched-put, makers-name, driver-emits}
use Rattle.run_laws.proofs.Runs.{node-is, known, one-is, out-emitted, out-saved, positions, some_order}

-- the array has another maker's name
abbrev pub wrong : ℕ → FrameName → Bool
wrong m a = not (eqb a.maker m)

pub no_file : (n : NodeRule) → may_feed n.kind ≡ true → is_file (work_of n.kind) ≡ false
no_file n h = by n.kind h
  where
    by : (k : Kind) → may_feed k ≡ true → is_file (work_of k) ≡ false
    by (Roi r) h = refl
    by (Stats r) h = refl
    by (Circular r) h = refl
    by Scatter h = refl
    by (File r) h = absurd (false≢true h)

-- a node's input is the driver, or a node that may have children
pub input-source : (g : Graph) → IsGraph g → (v : ℕ) (n : NodeRule) → rule_at g.nodes v ≡ Some n → IsTrue (is_source g.nodes n.input)
input-source g sound zero n rule = cc
input-source g sound (suc k) n rule =
    subst (λ (m : NodeRule). IsTrue (is_source g.nodes m.input)) (get_or_from_slice_get g.nodes k n n rule)
    (sound.inputs k n (slice_get_within g.nodes k n rule))

module _ (g : Graph) (makers : List Maker) (arrays : List Array) (P : Past) (sound : IsGraph g) (h : is_history (setting_of g makers arrays) P ≡ true) where
  abbrev s : Setting
  s = setting_of g makers arrays

  legal : is_legal s P ≡ true
  legal = (and_parts _ _ h).0

  right : (v k : ℕ) → wrong v (frame v k) ≡ false
  right v k = ap not (eq-eqb v v refl)

  pub input-is : (v : ℕ) (n : NodeRule) → rule_at g.nodes v ≡ Some n → (node s v).input ≡ n.input
  input-is v n rule = ap (λ (m : Node). m.input) (node-is g makers arrays v n rule)

  work-is : (v : ℕ) (n : NodeRule) (k : Kind) → rule_at g.nodes v ≡ Some n → n.kind ≡ k → (node s v).work ≡ work_of k
  work-is v n k rule kind = ap (λ (m : Node). m.work) (node-is g makers arrays v n rule) ∙ ap work_of kind

  pub at_node : (v : ℕ) (n : NodeRule) → rule_at g.nodes v ≡ Some n → v ≢ 0
  at_node zero n rule = cc
  at_node (suc k) n rule = omega arith

  -- where the input's emissions have the name of its maker, so has what comes to a node that makes nothing
  passed : (v : ℕ) (n : NodeRule) (m : ℕ) → rule_at g.nodes v ≡ Some n → count (emits_of n.input (wrong m)) P ≡ 0 → count (accepts_of v (wrong m)) P ≡ 0
  passed v n m rule none =
      let same : count (emits_of (node s v).input (wrong m)) P ≡ count (emits_of n.input (wrong m)) P =
      ap (λ (u : ℕ). count (emits_of u (wrong m)) P) (input-is v n rule) in
      omega (arith, none, same, accepts-emitted-of s P v (wrong m) legal)

  put_so : (v : ℕ) (n : NodeRule) (m : ℕ) → rule_at g.nodes v ≡ Some n → is_maker s v ≡ false → count (emits_of n.input (wrong m)) P ≡ 0
      → count (puts_of v (wrong m)) P ≡ 0
  put_so v n m rule passes none = omega (arith, passed v n m rule none, puts-accepted s P v (wrong m) passes legal, accepts-list v (wrong m) P)

  named : (d v : ℕ) → depth g.nodes (length g.nodes) v < d → IsTrue (is_source g.nodes v) → count (emits_of v (wrong (maker_at g.nodes v))) P ≡ 0
  named zero v low source = absurd (omega (arith, low))
  named (suc d) zero low source =
      subst (λ (m : ℕ). count (emits_of 0 (wrong m)) P ≡ 0) (sym (maker_within-none g.nodes (length g.nodes) 0 refl))
      (driver-emits s P (wrong 0) (right 0) legal)
  named (suc d) (suc k) low source = by_rule (slice_get g.nodes k) refl (λ w. named d w)
    where
      by_rule : (o : Option NodeRule) → o ≡ slice_get g.nodes k
          → ((w : ℕ) → depth g.nodes (length g.nodes) w < d → IsTrue (is_source g.nodes w) → count (emits_of w (wrong (maker_at g.nodes w))) P ≡ 0)
          → count (emits_of (suc k) (wrong (maker_at g.nodes (suc k)))) P ≡ 0
      by_rule None is sooner = absurd (false≢true (ap (λ (o : Option NodeRule). option_map_or (λ (n : NodeRule). may_feed n.kind) o false) is ∙ source))
      by_rule (Some n) is sooner = by_kind n.kind refl
        where
          rule : rule_at g.nodes (suc k) ≡ Some n
          rule = sym is

          feeds : may_feed n.kind ≡ true
          feeds = ap (λ (o : Option NodeRule). option_map_or (λ (n : NodeRule). may_feed n.kind) o false) is ∙ source

          before : count (emits_of n.input (wrong (maker_at g.nodes n.input))) P ≡ 0
          before = sooner n.input (omega (arith, low, (stands g (suc k) n sound is).nearer)) (input-source g sound (suc k) n rule)

          by_kind : (c : Kind) → n.kind ≡ c → count (emits_of (suc k) (wrong (maker_at g.nodes (suc k)))) P ≡ 0
          by_kind (Roi r) kind =
              let work = work-is (suc k) n (Roi r) rule kind in
              subst (λ (m : ℕ). count (emits_of (suc k) (wrong m)) P ≡ 0) (sym (maker_of_region g (suc k) n sound is (ap makes_arrays kind)))
              (omega (
                arith,
                emits-put s P (suc k) (wrong (suc k)) (at_node (suc k) n rule) (ap may_sort work) h,
                makers-name s P (suc k) (wrong (suc k)) (ap makes work) (right (suc k)) legal,
              ))
          by_kind (Stats r) kind =
              let work = work-is (suc k) n (Stats r) rule kind in
              subst (λ (m : ℕ). count (emits_of (suc k) (wrong m)) P ≡ 0) (sym (maker_of_other g (suc k) n sound is (ap makes_arrays kind)))
              (omega (
                arith,
                emits-put s P (suc k) (wrong (maker_at g.nodes n.input)) (at_node (suc k) n rule) (ap may_sort work) h,
                put_so (suc k) n (maker_at g.nodes n.input) rule (ap makes work) before,
              ))
          by_kind Scatter kind =
              let work = work-is (suc k) n Scatter rule kind in
              subst (λ (m : ℕ). count (emits_of (suc k) (wrong m)) P ≡ 0) (sym (maker_of_other g (suc k) n sound is (ap makes_arrays kind)))
              (omega (
                arith,
                emits-put s P (suc k) (wrong (maker_at g.nodes n.input)) (at_node (suc k) n rule) (ap may_sort work) h,
                put_so (suc k) n (maker_at g.nodes n.input) rule (ap makes work) before,
              ))
          by_kind (Circular r) kind =
              let work = work-is (suc k) n (Circular r) rule kind in
              let sound_rule : IsCircular r = subst IsKind kind (stands g (suc k) n sound is).sound.kind in
              subst (λ (m : ℕ). count (emits_of (suc k) (wrong m)) P ≡ 0) (sym (maker_of_other g (suc k) n sound is (ap makes_arrays kind)))
              (omega (
                arith,
                watched-put s P (suc k) r.pre r.post r.preset (wrong (maker_at g.nodes n.input)) work sound_rule.post.0 h,
                put_so (suc k) n (maker_at g.nodes n.input) rule (ap makes work) before,
              ))
          by_kind (File r) kind = absurd (false≢true (sym (ap may_feed kind) ∙ feeds))

  -- what a node accepted, dropped later or not, has the name of its input's maker
  pub accepts-named : (v : ℕ) (n : NodeRule) → rule_at g.nodes v ≡ Some n → count (wrong (maker_at g.nodes n.input)) (accepts v P) ≡ 0
  accepts-named v n rule =
      let none =
      passed v n (maker_at g.nodes n.input) rule (named (suc (depth g.nodes (length g.nodes) n.input)) n.input (omega arith) (input-source g sound v n rule)) in
      omega (arith, none, accepts-list v (wrong (maker_at g.nodes n.input)) P)

  -- and so has what it accepted for good
  pub comes-named : (v : ℕ) (n : NodeRule) → rule_at g.nodes v ≡ Some n → count (wrong (maker_at g.nodes n.input)) (accepted s v P) ≡ 0
  comes-named v n rule =
      omega (arith, accepts-named v n rule, count-filter-le (wrong (maker_at g.nodes n.input)) (λ a. not (list_any (is_dropped_by s v a) P)) (accepts v P))

  -- and what goes out of it that of its own
  pub out-named : (v : ℕ) (n : NodeRule) → rule_at g.nodes v ≡ Some n → IsFinishedRun s P → count (wrong (maker_at g.nodes v)) (put_out s v P) ≡ 0
  out-named zero n rule run = cc
  out-named (suc k) n rule run = by_kind n.kind refl
    where
      sends : may_feed n.kind ≡ true → count (wrong (maker_at g.nodes (suc k))) (put_out s (suc k) P) ≡ 0
      sends feeds =
          let source : IsTrue (is_source g.nodes (suc k)) =
          ap (λ (o : Option NodeRule). option_map_or (λ (n : NodeRule). may_feed n.kind) o false) rule ∙ feeds in
          let out : put_out s (suc k) P ≡ emitted (suc k) P =
          out-emitted g makers arrays (suc k) P (ap is_file (work-is (suc k) n n.kind rule refl) ∙ no_file n feeds) in
          omega (
            arith,
            ap (count (wrong (maker_at g.nodes (suc k)))) out,
            emitted-of (suc k) (wrong (maker_at g.nodes (suc k))) P,
            named (suc (depth g.nodes (length g.nodes) (suc k))) (suc k) (omega arith) source,
          )

      by_kind : (c : Kind) → n.kind ≡ c → count (wrong (maker_at g.nodes (suc k))) (put_out s (suc k) P) ≡ 0
      by_kind (Roi r) kind = sends (ap may_feed kind)
      by_kind (Stats r) kind = sends (ap may_feed kind)
      by_kind (Circular r) kind = sends (ap may_feed kind)
      by_kind Scatter kind = sends (ap may_feed kind)
      by_kind (File r) kind =
          let d = known g makers arrays (suc k) n (File r) rule kind in
          let alone : is_parallel n.kind ≡ false = ap is_parallel kind in
          let one = (stands g (suc k) n sound (sym rule)).sound.one_thread alone in
          let out : put_out s (suc k) P ≡ accepted s (suc k) P =
          out-saved g makers arrays (suc k) P (ap is_file d.work) ∙ saves-are s P (suc k) (ap is_file d.work) (one-is g makers arrays (suc k) n rule one) run in
          let maker : maker_at g.nodes (suc k) ≡ maker_at g.nodes n.input = maker_of_other g (suc k) n sound (sym rule) (ap makes_arrays kind) in
          subst (λ (m : ℕ). count (wrong m) (put_out s (suc k) P) ≡ 0) (sym maker)
          (omega (arith, ap (count (wrong (maker_at g.nodes n.input))) out, comes-named (suc k) n rule))

  -- so what these hold is what the node puts out at their positions
  pub contents-are : (v : ℕ) (xs : List FrameName) → count (wrong (maker_at g.nodes v)) xs ≡ 0
      → contents g.nodes arrays xs ≡ arrays_out g.nodes arrays v (indices xs)
  contents-are v [] none = refl
  contents-are v (x ∷ xs) none =
      elim (cases_Bool (eqb x.maker (maker_at g.nodes v))) [
        | inr off ↦ absurd (omega (arith, none, count-cons (wrong (maker_at g.nodes v)) x xs, ap (λ (b : Bool). bit (not b)) off))
        | inl is ↦
            let same : content g.nodes arrays x ≡ content g.nodes arrays (frame v x.index) =
            ap (λ (m : ℕ). content g.nodes arrays (frame m x.index)) (eqb-true x.maker (maker_at g.nodes v) is)
            ∙ sym (content-maker g arrays v x.index sound) in
            ap (λ (o : Option Array). listed o ++ contents g.nodes arrays xs) same
            ∙ ap (λ (ys : List Array). listed (content g.nodes arrays (frame v x.index)) ++ ys)
            (contents-are v xs (omega (arith, none, count-cons (wrong (maker_at g.nodes v)) x xs)))
      ]

  pub in_order : (v : ℕ) (n : NodeRule) → rule_at g.nodes v ≡ Some n → n.threads ≡ 1 → n.sort ≡ 0 → IsFinishedRun s P
      → AreInOrder g.nodes arrays v (accepted s v P) (put_out s v P)
  in_order v n rule one none run =
      let p = positions g makers arrays P v n sound rule one none run in
      record { positions = p; result = ap (outcome g.nodes v) (contents-are v (put_out s v P) (out-named v n rule run) ∙ ap (arrays_out g.nodes arrays v) p) }

  pub in_some_order : (v : ℕ) (n : NodeRule) → rule_at g.nodes v ≡ Some n → IsFinishedRun s P → AreInSomeOrder g.nodes arrays v (accepted s v P) (put_out s v P)
  in_some_order v n rule run =
      let p = some_order g makers arrays P v n sound rule run in
      let held : contents g.nodes arrays (put_out s v P) ≡ arrays_out g.nodes arrays v (indices (put_out s v P)) =
      contents-are v (put_out s v P) (out-named v n rule run) in
      record {
        positions = p;
        arrays_are = subst (λ (ys : List Array). IsPermutation (one_thread g.nodes arrays v (indices (accepted s v P))).arrays ys) (sym held)
            (permute-pieces (λ k. listed (content g.nodes arrays (frame v k)))
            (outputs g.nodes arrays v (indices (accepted s v P))) (indices (put_out s v P)) p);
      }

-- as a fact of each
pub all-named : (m : ℕ) (xs : List FrameName) → count (wrong m) xs ≡ 0 → All (λ a. a.maker ≡ m) xs
all-named m [] none = All-nil (λ a. a.maker ≡ m)
all-named m (x ∷ xs) none =
    elim (cases_Bool (eqb x.maker m)) [
      | inr off ↦ absurd (omega (arith, none, count-cons (wrong m) x xs, ap (λ (b : Bool). bit (not b)) off))
      | inl is ↦ All-cons (λ a. a.maker ≡ m) x xs (eqb-true x.maker m is) (all-named m xs (omega (arith, none, count-cons (wrong m) x xs)))
    ]
