-- Without a drop and without a break the positions that go out of each node are those of the plain run.
use Rattle.std.proofs.Common.{◌≡◌, ◌≢◌, ℕ, zero, suc, ◌≤◌, ◌<◌, Bool, true, false, not, cond, eqb, List, [], ◌∷◌, ◌++◌, filter, length, refl, sym, ap, ◌∙◌}
use Rattle.std.proofs.Common.{subst, arith, inl, inr, ◌⊎◌, Option, Some, None}
use Rattle.std.specs.Prelude.{All, IsTrue, reverse, slice_get}
use Rattle.std.specs.List.{list_any, flat_map}
use Rattle.std.specs.Option.{option_map_or}
use Rattle.std.proofs.lemmas.Bool.{and_parts, or_parts, false≢true, true≢false, cases_Bool}
use Rattle.std.proofs.lemmas.List.{append-nil, length-map, map-append, reverse-append}
use Rattle.std.proofs.lemmas.List.Elements.{All-get_or}
use Rattle.std.proofs.lemmas.Option.{slice_get_within, get_or_from_slice_get}
use Rattle.std.proofs.lemmas.List.Sorted.{IsPermutation-sym, IsPermutation-reverse, All-permutation}
use Rattle.nd_base.specs.Array.{Array, StackValue}
use Rattle.nd_base.specs.declared.frame.FrameName.{FrameName}
use Rattle.nd_base.specs.declared.graph.Graph.{Graph}
use Rattle.nd_base.specs.declared.graph.Kind.{Kind}
use Rattle.nd_base.specs.declared.graph.Kind.TheVariants.{Roi, Stats, Circular, File, Scatter}
use Rattle.nd_base.specs.declared.graph.NodeRule.{NodeRule}
use Rattle.nd_base.specs.declared.plan.Maker.{Maker}
use Rattle.nd_base.specs.GraphRules.{IsGraph, IsNode, is_parallel, may_feed, is_source, rule_at}
use Rattle.chain_plain.specs.OneThread.{arrays_out, outputs}
use Rattle.chain_plain.specs.PlainRun.{passed}
use Rattle.chain_plain.specs.PassedLaws.{passed-step, passed-none, passed-rule, passed-frames, share_of-whole}
use Rattle.chain_plain.specs.PassingLaws.{rule_within}
use Rattle.chain_plain.proofs.Depths.{depth}
use Rattle.chain_plain.proofs.Rules.{stands}
use Rattle.flow_journal.proofs.Found.{found_up}
use Rattle.flow_journal.proofs.LastOuts.{outs_of, no_out}
use Rattle.flow_journal.specs.declared.entry.Entry.{Entry}
use Rattle.flow_journal.specs.declared.entry.Entry.TheVariants.{LoadRefused, Emit, Accept, Full, PoolDrop, SortDrop, Reclaim}
use Rattle.flow_journal.specs.Setting.{Setting, Node, node, is_node, may_sort}
use Rattle.flow_journal.specs.Turns.{is_dealing, deals}
use Rattle.flow_journal.specs.Pasts.{Past, frame, comes_at}
use Rattle.flow_journal.specs.Hands.{standing, is_loaded, let_go, takes_up}
use Rattle.flow_journal.specs.Offered.{loads, offered}
use Rattle.flow_journal.specs.Unsaved.{is_file}
use Rattle.flow_journal.specs.Breaks.{outs, breaks_of, out_at}
use Rattle.flow_journal.specs.Accepted.{accepts, is_dropped_by, accepted, emitted}
use Rattle.flow_journal.specs.Histories.{is_legal, is_history}
use Rattle.flow_journal.specs.IndexLaws.{below}
use Rattle.flow_journal.specs.RunSetting.{work_of, setting_of}
use Rattle.flow_journal.proofs.Hands.{stood, flat-let_go}
use Rattle.flow_journal.proofs.Counts.{hand-standing}
use Rattle.flow_journal.proofs.EntryCounts.{count, count-cons}
use Rattle.flow_journal.proofs.Jobs.{reclaim_hand}
use Rattle.flow_journal.proofs.Once.{emits_once-law}
use Rattle.flow_journal.proofs.Outs.{of_index}
use Rattle.run_laws.specs.Drops.{load_index, drops, has_drop}
use Rattle.flow_journal.specs.EntryTests.{is_refused_load}
use Rattle.run_laws.specs.Results.{IsFinishedRun, put_out, indices, contents, outcome}
use Rattle.run_laws.specs.PlainLaws.{IsSmooth, ArePlain, HasNoDealer, HasDistinctIds}
use Rattle.run_laws.proofs.Driver.{refusals-stand, all-came}
use Rattle.run_laws.proofs.Finishes.{ended-idle}
use Rattle.run_laws.proofs.Falling.{times_in, same_falling, reverse-below, count-reverse, AreInStep, ids-in_step, falls-unbroken, falls}
use Rattle.run_laws.proofs.Loading.{driver-outs}
use Rattle.run_laws.proofs.Makers.{no_file, input-source, out-named, contents-are}
use Rattle.run_laws.proofs.Offers.{comes}
use Rattle.run_laws.proofs.Orders.{emits-accepted, emits-permute, indices-count}
use Rattle.run_laws.proofs.Runs.{Known, parallel-passes, node-is, known, out-emitted, outputs-are, positions}

-- WHAT WENT OUT, FROM THE NEWEST ON

indices-comes : (v w m i : ℕ) (xs : List FrameName) → indices (comes_at v w (frame m i) xs) ≡ indices xs ++ cond (eqb w v) (i ∷ []) []
indices-comes v w m i xs =
    elim (cases_Bool (eqb w v)) [
      | inl here ↦ rw here (map-append (λ (a : FrameName). a.index) xs (frame m i ∷ []))
      | inr away ↦ rw away (sym (append-nil (indices xs)))
    ]

one-reversed : (b : Bool) (i : ℕ) (ks : List ℕ) → reverse ks ++ cond b (i ∷ []) [] ≡ reverse (cond b (i ∷ []) [] ++ ks)
one-reversed true i ks = sym (reverse-append (i ∷ []) ks)
one-reversed false i ks = append-nil (reverse ks)

emissions-out : (s : Setting) (P : Past) (v : ℕ) → is_legal s P ≡ true → indices (emitted v P) ≡ reverse (outs_of false v (standing P))
emissions-out s [] v h = refl
emissions-out s (Emit w m i why ∷ P) v h =
    indices-comes v w m i (emitted v P)
    ∙ (ap (λ (ks : List ℕ). ks ++ cond (eqb w v) (i ∷ []) []) (emissions-out s P v (and_parts _ _ h).0)
    ∙ one-reversed (eqb w v) i (outs_of false v (standing P)))
emissions-out s (Reclaim r ∷ P) v h =
    let legal : is_legal s P ≡ true = (and_parts _ _ h).0 in
    let e = reclaim_hand s r P h in
    let stands = hand-standing s P r e.0 legal e.1 in
    let same : outs_of false v (let_go r (standing P)) ≡ outs_of false v (standing P) =
    flat-let_go (out_at false v) r e.0 (standing P) stands (no_out v r e.0 (found_up (takes_up r) e.0 (standing P) stands)) in
    emissions-out s P v legal ∙ ap reverse (sym (ap (outs_of false v) (stood r e.0 P e.1) ∙ same))
emissions-out s (_ ∷ P) v h = emissions-out s P v (and_parts _ _ h).0

-- at a node that is no file node these are the emissions
pub emitted-outs : (s : Setting) (P : Past) (v : ℕ) → is_file (node s v).work ≡ false → is_legal s P ≡ true → indices (emitted v P) ≡ reverse (outs s v P)
emitted-outs s P v other h = emissions-out s P v h ∙ ap (λ (b : Bool). reverse (outs_of b v (standing P))) (sym other)

-- WITHOUT A DROP

accepts-offered : (v : ℕ) (P : Past) → has_drop P ≡ false → accepts v P ≡ offered v P
accepts-offered v [] h = refl
accepts-offered v (Accept w m i ∷ P) h = ap (comes_at v w (frame m i)) (accepts-offered v P h)
accepts-offered v (Full w m i ∷ P) h = absurd (true≢false h)
accepts-offered v (e ∷ P) h = accepts-offered v P (or_parts (drops e) (has_drop P) h).1

none-dropped : (s : Setting) (v : ℕ) (a : FrameName) (P : Past) → has_drop P ≡ false → list_any (is_dropped_by s v a) P ≡ false
none-dropped s v a [] h = refl
none-dropped s v a (PoolDrop r w m i n z ∷ P) h = absurd (true≢false h)
none-dropped s v a (SortDrop w m i ∷ P) h = absurd (true≢false h)
none-dropped s v a (e ∷ P) h = none-dropped s v a P (or_parts (drops e) (has_drop P) h).1

all-kept : (p : FrameName → Bool) (xs : List FrameName) → ((a : FrameName) → p a ≡ false) → filter (λ a. not (p a)) xs ≡ xs
all-kept p [] none = refl
all-kept p (x ∷ xs) none = rw (none x) (ap (λ (ys : List FrameName). x ∷ ys) (all-kept p xs none))

-- all that a node's input emitted is accepted for good
pub accepted-all : (s : Setting) (P : Past) (v : ℕ) → is_node s v ≡ true → deals s (node s v).input ≡ false → is_history s P ≡ true → has_drop P ≡ false
    → accepted s v P ≡ emitted (node s v).input P
accepted-all s P v number alike h none =
    all-kept (λ a. list_any (is_dropped_by s v a) P) (accepts v P) (λ a. none-dropped s v a P none) ∙ (accepts-offered v P none ∙ comes s P v number alike h)

none-refused : (P : Past) → has_drop P ≡ false → count is_refused_load P ≡ 0
none-refused [] h = refl
none-refused (LoadRefused r k n z ∷ P) h = absurd (true≢false h)
none-refused (e ∷ P) h = omega (arith, none-refused P (or_parts (drops e) (has_drop P) h).1, count-cons is_refused_load e P)

unrefused : (es : List Entry) → count is_refused_load es ≡ 0 → flat_map load_index es ≡ flat_map loads es
unrefused [] h = refl
unrefused (LoadRefused r k n z ∷ es) h = absurd (omega (arith, h, count-cons is_refused_load (LoadRefused r k n z) es))
unrefused (e ∷ es) h = ap (λ (ks : List ℕ). load_index e ++ ks) (unrefused es (omega (arith, h, count-cons is_refused_load e es)))

-- the driver emits all frames, in order
driver-all : (s : Setting) (P : Past) → IsFinishedRun s P → has_drop P ≡ false → outs s 0 P ≡ below (length s.ids)
driver-all s P run none =
    let legal : is_legal s P ≡ true = (and_parts _ _ run.legal).0 in
    driver-outs s P run.legal (ap (list_any is_loaded) (ended-idle s P run.finished))
    ∙ (unrefused (standing P) (omega (arith, refusals-stand P, none-refused P none)) ∙ all-came s P run)

-- IN A RUN

module _ (g : Graph) (makers : List Maker) (stack : StackValue) (P : Past) (sound : IsGraph g) (whole : HasNoDealer g) (apart : HasDistinctIds stack)
    (smooth : IsSmooth g makers stack P) where
  abbrev s : Setting
  s = setting_of g makers stack.arrays

  legal : is_legal s P ≡ true
  legal = (and_parts _ _ smooth.run.legal).0

  abbrev Inside : List ℕ → Type 0
  Inside ks = All (λ k. k < length stack.arrays) ks

  as_many : length s.ids ≡ length stack.arrays
  as_many = length-map stack.arrays (λ (a : Array). a.id)

  driver : outs s 0 P ≡ below (length stack.arrays)
  driver = driver-all s P smooth.run smooth.kept ∙ ap below as_many

  step : AreInStep s (length stack.arrays)
  step = ids-in_step s (length stack.arrays) (omega (arith, as_many)) apart (ap (breaks_of s) (sym driver) ∙ smooth.in_step 0 (omega arith))

  times-out : (v k : ℕ) → is_file (node s v).work ≡ false → times_in k (outs s v P) ≡ count (of_index k) (emitted v P)
  times-out v k other =
      omega (arith, count-reverse (λ j. eqb j k) (outs s v P), ap (times_in k) (emitted-outs s P v other legal), indices-count k (emitted v P))

  falling : (v : ℕ) → v ≤ length g.nodes → is_file (node s v).work ≡ false → Inside (indices (emitted v P)) → falls (outs s v P) ≡ true
  falling v within other inside =
      let there : Inside (reverse (outs s v P)) = subst Inside (emitted-outs s P v other legal) inside in
      falls-unbroken s (length stack.arrays) (outs s v P) step
      (All-permutation (λ k. k < length stack.arrays) (reverse (outs s v P)) (outs s v P)
      (IsPermutation-sym (outs s v P) (reverse (outs s v P)) (IsPermutation-reverse (outs s v P))) there)
      (λ k. omega (arith, times-out v k other, emits_once-law s P v k legal))
      (smooth.in_step v within)

  never_deals : (k : Kind) → k ≢ Scatter → is_dealing (work_of k) ≡ false
  never_deals (Roi r) h = refl
  never_deals (Stats r) h = refl
  never_deals (Circular r) h = refl
  never_deals (File r) h = refl
  never_deals Scatter h = absurd (h refl)

  no_dealer : (u : ℕ) (n : NodeRule) → rule_at g.nodes u ≡ Some n → n.kind ≢ Scatter
  no_dealer zero n at = absurd (cc)
  no_dealer (suc k) n at =
      subst (λ (m : NodeRule). m.kind ≢ Scatter) (get_or_from_slice_get g.nodes k n n at)
      (All-get_or (λ (m : NodeRule). m.kind ≢ Scatter) g.nodes k n (slice_get_within g.nodes k n at) whole)

  -- a node that feeds others gives each of them all
  alike : (u : ℕ) → IsTrue (is_source g.nodes u) → deals s u ≡ false
  alike zero source = refl
  alike (suc k) source = by (slice_get g.nodes k) refl
    where
      by : (o : Option NodeRule) → o ≡ slice_get g.nodes k → deals s (suc k) ≡ false
      by None is = absurd (false≢true (ap (λ (o : Option NodeRule). option_map_or (λ (n : NodeRule). may_feed n.kind) o false) is ∙ source))
      by (Some n) is =
          ap (λ (m : Node). is_dealing m.work) (node-is g makers stack.arrays (suc k) n (sym is))
          ∙ never_deals n.kind (no_dealer (suc k) n (sym is))

  -- a node that has children
  record Feeds (u : ℕ) : Type 0 where
    within : u ≤ length g.nodes
    no_save : is_file (node s u).work ≡ false

  feeds : (u : ℕ) → IsTrue (is_source g.nodes u) → Feeds u
  feeds zero source = record { within = omega arith; no_save = refl }
  feeds (suc k) source = by (slice_get g.nodes k) refl
    where
      by : (o : Option NodeRule) → o ≡ slice_get g.nodes k → Feeds (suc k)
      by None is = absurd (false≢true (ap (λ (o : Option NodeRule). option_map_or (λ (n : NodeRule). may_feed n.kind) o false) is ∙ source))
      by (Some n) is =
          let may : may_feed n.kind ≡ true = ap (λ (o : Option NodeRule). option_map_or (λ (n : NodeRule). may_feed n.kind) o false) is ∙ source in
          record {
            within = rule_within g.nodes (suc k) n is;
            no_save = ap (λ (m : Node). is_file m.work) (node-is g makers stack.arrays (suc k) n (sym is)) ∙ no_file n may;
          }

  at_node : (v : ℕ) (n : NodeRule) → rule_at g.nodes v ≡ Some n → indices (emitted n.input P) ≡ passed g stack n.input
      → indices (put_out s v P) ≡ passed g stack v
  at_node v n rule before = by (cases_Bool (is_parallel n.kind))
    where
      d : Known g makers stack.arrays v n n.kind
      d = known g makers stack.arrays v n n.kind rule refl

      node_sound : IsNode n
      node_sound = (stands g v n sound (sym rule)).sound

      all : accepted s v P ≡ emitted n.input P
      all =
          accepted-all s P v d.number (ap (λ (m : Node). deals s m.input) (node-is g makers stack.arrays v n rule)
          ∙ alike n.input (input-source g sound v n rule)) smooth.run.legal smooth.kept
          ∙ ap (λ (m : Node). emitted m.input P) (node-is g makers stack.arrays v n rule)

      taken : indices (accepted s v P) ≡ passed g stack n.input
      taken = ap indices all ∙ before

      onward : passed g stack v ≡ outputs g.nodes stack.arrays v (passed g stack n.input)
      onward =
          passed-rule g stack v n sound (sym rule)
          ∙ ap (outputs g.nodes stack.arrays v) (share_of-whole g.nodes n.input v (passed g stack n.input) (no_dealer n.input))

      by : (is_parallel n.kind ≡ true) ⊎ (is_parallel n.kind ≡ false) → indices (put_out s v P) ≡ passed g stack v
      by (inr alone) =
          positions g makers stack.arrays P v n sound rule (node_sound.one_thread alone) (node_sound.unsorted alone) smooth.run
          ∙ (ap (outputs g.nodes stack.arrays v) taken ∙ sym onward)
      by (inl several) =
          let p = parallel-passes n.kind stack.arrays (passed g stack n.input) several in
          let no_save : is_file (node s v).work ≡ false = ap is_file d.work ∙ p.2 in
          let sorts : may_sort (node s v).work ≡ true = ap may_sort d.work ∙ p.1 in
          let input = feeds n.input (input-source g sound v n rule) in
          let frames : Inside (passed g stack n.input) = passed-frames g stack n.input in
          let inside : Inside (indices (emitted v P)) =
          All-permutation (λ k. k < length stack.arrays) (indices (accepted s v P)) (indices (emitted v P)) (emits-permute s P v d.number sorts smooth.run)
          (subst Inside (sym taken) frames) in
          let same : outs s v P ≡ outs s n.input P = same_falling (outs s v P) (outs s n.input P)
          (falling v (rule_within g.nodes v n (sym rule)) no_save inside) (falling n.input input.within input.no_save (subst Inside (sym before) frames))
          (λ k. omega (
            arith,
            times-out v k no_save,
            times-out n.input k input.no_save,
            emits-accepted s P v k d.number sorts smooth.run,
            ap (count (of_index k)) all,
          )) in
          ap indices (out-emitted g makers stack.arrays v P no_save)
          ∙ (emitted-outs s P v no_save legal ∙ (ap reverse same ∙ (sym (emitted-outs s P n.input input.no_save legal) ∙ (before
          ∙ (sym (outputs-are g makers stack.arrays v n n.kind (passed g stack n.input) rule refl ∙ p.0) ∙ sym onward)))))

  sources : (d v : ℕ) → depth g.nodes (length g.nodes) v < d → IsTrue (is_source g.nodes v) → indices (emitted v P) ≡ passed g stack v
  sources zero v low source = absurd (omega (arith, low))
  sources (suc d) zero low source =
      emitted-outs s P 0 refl legal ∙ (ap reverse driver ∙ (reverse-below (length stack.arrays) ∙ sym (passed-none g stack 0 refl)))
  sources (suc d) (suc k) low source = by_rule (slice_get g.nodes k) refl (λ w. sources d w)
    where
      by_rule : (o : Option NodeRule) → o ≡ slice_get g.nodes k
          → ((w : ℕ) → depth g.nodes (length g.nodes) w < d → IsTrue (is_source g.nodes w) → indices (emitted w P) ≡ passed g stack w)
          → indices (emitted (suc k) P) ≡ passed g stack (suc k)
      by_rule None is sooner = absurd (false≢true (ap (λ (o : Option NodeRule). option_map_or (λ (n : NodeRule). may_feed n.kind) o false) is ∙ source))
      by_rule (Some n) is sooner =
          let before = sooner n.input (omega (arith, low, (stands g (suc k) n sound is).nearer)) (input-source g sound (suc k) n (sym is)) in
          ap indices (sym (out-emitted g makers stack.arrays (suc k) P (feeds (suc k) source).no_save)) ∙ at_node (suc k) n (sym is) before

  pub plain-positions : (v : ℕ) (n : NodeRule) → rule_at g.nodes v ≡ Some n → indices (put_out s v P) ≡ passed g stack v
  plain-positions v n rule = at_node v n rule (sources (suc (depth g.nodes (length g.nodes) n.input)) n.input (omega arith) (input-source g sound v n rule))

  -- and so are the arrays, and what is made of them
  pub is_plain : (v : ℕ) (n : NodeRule) → rule_at g.nodes v ≡ Some n → ArePlain g stack v (put_out s v P)
  is_plain v n rule =
      let at : indices (put_out s v P) ≡ passed g stack v = plain-positions v n rule in
      let held : contents g.nodes stack.arrays (put_out s v P) ≡ arrays_out g.nodes stack.arrays v (passed g stack v) =
      contents-are g makers stack.arrays P sound smooth.run.legal v (put_out s v P)
      (out-named g makers stack.arrays P sound smooth.run.legal v n rule smooth.run) ∙ ap (arrays_out g.nodes stack.arrays v) at in
      record {
        positions = at;
        result = ap (outcome g.nodes v) (held ∙ ap (arrays_out g.nodes stack.arrays v) (passed-step g stack v sound (rule_within g.nodes v n (sym rule))));
      }
