-- Where there is room for all frames nothing is dropped, and each node puts them out in their order.
use Rattle.std.proofs.Common.{◌≡◌, ◌≢◌, ℕ, zero, suc, ◌+◌, ◌≤◌, ◌<◌, Bool, true, false, ◌&&◌, eqb, ltb, List, [], ◌∷◌, ◌++◌, length, refl}
use Rattle.std.proofs.Common.{sym, ap, ◌∙◌, subst, arith, inl, inr, ◌⊎◌, Option, Some, None, length-append}
use Rattle.std.specs.Prelude.{IsTrue, reverse, slice_get, flat_map}
use Rattle.std.specs.List.{Contains, list_any}
use Rattle.std.specs.Option.{option_map_or}
use Rattle.std.proofs.lemmas.Bool.{and_parts, and_from, or_parts, false≢true, true≢false, eq-eqb, eqb-true, ltb-true, ltb-false, lt-ltb, cases_Bool}
use Rattle.std.proofs.lemmas.List.{append_assoc, length-map, map-append, reverse-append, reverse-reverse, length-reverse, get_or_past}
use Rattle.std.proofs.lemmas.List.Elements.{All-get_or, Contains-append_right}
use Rattle.std.proofs.lemmas.Option.{slice_get_within, slice_get_cases, get_or_from_slice_get}
use Rattle.nd_base.specs.Array.{Array, StackValue}
use Rattle.nd_base.specs.declared.frame.FrameName.{FrameName}
use Rattle.nd_base.specs.declared.graph.Graph.{Graph}
use Rattle.nd_base.specs.declared.graph.Kind.{Kind}
use Rattle.nd_base.specs.declared.graph.Kind.TheVariants.{Roi, Stats, Circular, File, Scatter}
use Rattle.nd_base.specs.declared.graph.NodeRule.{NodeRule}
use Rattle.nd_base.specs.declared.plan.Maker.{Maker}
use Rattle.nd_base.specs.GraphRules.{IsNode, is_parallel, may_feed, is_source, rule_at}
use Rattle.chain_plain.specs.OneThread.{kind_outputs, outputs}
use Rattle.chain_plain.proofs.Depths.{depth}
use Rattle.chain_plain.proofs.Rules.{stands}
use Rattle.pool_ledger.specs.Grants.{Block, Refused, granted, fit_or_fresh, smallest_fit}
use Rattle.flow_journal.specs.declared.entry.Entry.{Entry}
use Rattle.flow_journal.specs.declared.entry.Entry.TheVariants.{LoadRefused, Tick, Emit, Accept, Full, PoolDrop, Put, SortDrop, Save}
use Rattle.flow_journal.specs.declared.entry.Why.TheVariants.{Late}
use Rattle.flow_journal.specs.EntryTests.{is_sort_drop, is_refused_load}
use Rattle.flow_journal.specs.Setting.{Setting, Node, node, may_sort, is_sorted, no_node, node_numbers, numbers_from}
use Rattle.flow_journal.specs.Turns.{is_dealing, deals}
use Rattle.flow_journal.specs.Pasts.{Past, frame, comes_at}
use Rattle.flow_journal.specs.Ended.{now}
use Rattle.flow_journal.specs.Hands.{standing, is_loaded}
use Rattle.flow_journal.specs.Offered.{loads, offered}
use Rattle.flow_journal.specs.Queued.{queued}
use Rattle.flow_journal.specs.Unsaved.{saves, is_file}
use Rattle.flow_journal.specs.Waiting.{waiting}
use Rattle.flow_journal.specs.Accounts.{held, is_unplaced, known as known_blocks}
use Rattle.flow_journal.specs.Breaks.{outs, breaks_of, out_at}
use Rattle.flow_journal.specs.Accepted.{accepts, accepted, emitted}
use Rattle.flow_journal.specs.Histories.{is_legal}
use Rattle.flow_journal.specs.IndexLaws.{below}
use Rattle.flow_journal.specs.RunSetting.{work_of, node_of, setting_of}
use Rattle.flow_journal.proofs.Buckets.{AreBuckets, one_in_buckets}
use Rattle.flow_journal.proofs.Changes.{offer_laws}
use Rattle.flow_journal.proofs.Counts.{queued-by}
use Rattle.flow_journal.proofs.Emissions.{sorted-outs}
use Rattle.flow_journal.proofs.EntryCounts.{count, bit, count-cons, arrives-le, arrives_at, emits_at, puts_at, puts_of}
use Rattle.flow_journal.proofs.Histories.{legal-front}
use Rattle.flow_journal.proofs.Issues.{takes-accepted}
use Rattle.flow_journal.proofs.Jobs.{puts-taken}
use Rattle.flow_journal.proofs.Lengths.{length_laws}
use Rattle.flow_journal.proofs.Offers.{is_number, none_numbered_0, none_arrives}
use Rattle.flow_journal.proofs.Once.{arrives-few, emitted-count}
use Rattle.run_laws.specs.Drops.{load_index, drops, has_drop}
use Rattle.run_laws.specs.OneThreadLaws.{KeepsOrder}
use Rattle.run_laws.specs.PlainLaws.{IsSmooth}
use Rattle.run_laws.specs.Results.{put_out, indices}
use Rattle.run_laws.proofs.Breaks.{sorted-node}
use Rattle.run_laws.proofs.Causes.{full-cause, pool-cause, load-cause}
use Rattle.run_laws.proofs.Driver.{refusals-stand, all-came}
use Rattle.run_laws.proofs.Finishes.{ended-idle}
use Rattle.run_laws.proofs.Falling.{AreInStep, times_in, count-reverse}
use Rattle.run_laws.proofs.Loading.{driver-outs}
use Rattle.run_laws.proofs.Lates.{late-waited, and-true}
use Rattle.run_laws.proofs.Makers.{no_file, input-source}
use Rattle.run_laws.proofs.Orders.{emits-accepted, indices-count}
use Rattle.run_laws.proofs.Offers.{comes}
use Rattle.run_laws.proofs.PlainRuns.{emitted-outs, accepted-all}
use Rattle.run_laws.proofs.Runs.{Known, known, node-is, out-emitted, out-saved, outputs-are, parallel-passes, positions}
use Rattle.run_laws.proofs.SortDrops.{drop-forced}
use Rattle.demo_laws.specs.Ample.{keeps_all, IsAmpleNode, HasAmpleList}
use Rattle.demo_laws.specs.AmpleLaws.{IsAmpleRun}
use Rattle.demo_laws.proofs.InStep.{once-below, length-below, none-breaks}
use Rattle.demo_laws.proofs.Recorded.{waits-recorded, now-recorded, contains-more}
use Rattle.demo_laws.proofs.SortedRuns.{whole-in_order}

-- COUNTS

every : {X : Type 0} (xs : List X) → count (λ x. true) xs ≡ length xs
every [] = refl
every (x ∷ xs) = omega (arith, every xs, count-cons (λ y. true) x xs)

comes-longer : (v w : ℕ) (a : FrameName) (xs ys : List FrameName) → length xs ≤ length ys → length (comes_at v w a xs) ≤ length (comes_at v w a ys)
comes-longer v w a xs ys h =
    elim (cases_Bool (eqb w v)) [
      | inl here ↦ rw here (omega (arith, h, length-append xs (a ∷ []), length-append ys (a ∷ [])))
      | inr away ↦ rw away h
    ]

comes-on : (v w : ℕ) (a : FrameName) (xs ys : List FrameName) → length xs ≤ length ys → length xs ≤ length (comes_at v w a ys)
comes-on v w a xs ys h =
    elim (cases_Bool (eqb w v)) [
      | inl here ↦ rw here (omega (arith, h, length-append ys (a ∷ [])))
      | inr away ↦ rw away h
    ]

accepts-le : (v : ℕ) (P : Past) → length (accepts v P) ≤ length (offered v P)
accepts-le v [] = omega arith
accepts-le v (Accept w m k ∷ P) = comes-longer v w (frame m k) (accepts v P) (offered v P) (accepts-le v P)
accepts-le v (Full w m k ∷ P) = comes-on v w (frame m k) (accepts v P) (offered v P) (accepts-le v P)
accepts-le v (e ∷ P) = accepts-le v P

-- no more is queued than came
queued-le : (s : Setting) (P : Past) (v : ℕ) → is_legal s P ≡ true → length (queued v P) ≤ length (offered v P)
queued-le s P v h = omega (arith, queued-by s P v (λ a. true) h, every (accepts v P), every (queued v P), accepts-le v P)

abbrev puts_there : ℕ → Entry → Bool
puts_there v (Put r w m k f) = eqb w v
puts_there v _ = false

abbrev put_index : Entry → ℕ
put_index (Put r w m k f) = k
put_index _ = 0

put-buckets : (v : ℕ) → AreBuckets (puts_there v) put_index (puts_at v)
put-buckets v (Put r w m k f) j = refl
put-buckets v _ j = refl

puts-all : (v : ℕ) (P : Past) → count (puts_of v (λ a. true)) P ≡ count (puts_there v) P
puts-all v [] = refl
puts-all v (Put r w m k f ∷ P) =
    omega (
      arith,
      puts-all v P,
      count-cons (puts_of v (λ a. true)) (Put r w m k f) P,
      count-cons (puts_there v) (Put r w m k f) P,
      ap bit (and-true (eqb w v)),
    )
puts-all v (_ ∷ P) = puts-all v P

-- no more waits than there are frames
waiting-few : (s : Setting) (P : Past) (v : ℕ) → is_sorted s v ≡ true → is_legal s P ≡ true → length (waiting s v P) ≤ length s.ids
waiting-few s P v sorted h =
    let few : count (puts_there v) P ≤ length s.ids =
    one_in_buckets (puts_there v) put_index (puts_at v) (put-buckets v) (length s.ids) P
    (λ k. omega (arith, puts-taken s P v k h, takes-accepted s P v k h, arrives-le v k P, arrives-few s P v k h)) in
    omega (arith, few, puts-all v P, sorted-outs s P v (λ a. true) (sorted-node s v sorted) sorted h, every (waiting s v P))

-- a number beyond those of the nodes isn't among them
none_after : (c v : ℕ) (ns : List Node) → v + length ns ≤ c → count (is_number c) (numbers_from v ns) ≡ 0
none_after c v [] h = refl
none_after c v (n ∷ ns) h =
    elim (cases_Bool (eqb v c)) [
      | inl here ↦ absurd (omega (arith, h, eqb-true v c here))
      | inr away ↦ omega (arith, none_after c (v + 1) ns (omega (arith, h)), count-cons (is_number c) v (numbers_from (v + 1) ns), ap bit away)
    ]

-- without a limit nothing is refused
fits : (n : ℕ) (free : ℕ → Bool) (bs : List Block) (o : Option Block) → fit_or_fresh 0 n free bs o ≡ Refused → ⊥
fits n free bs None h = absurd (cc)
fits n free bs (Some b) h = absurd (cc)

unrefused : (limit n many : ℕ) (free : ℕ → Bool) (bs : List Block) → limit ≡ 0 → granted limit n many free bs ≡ Refused → ⊥
unrefused limit n many free bs none h =
    fits n free bs (smallest_fit n free bs) (subst (λ (l : ℕ). granted l n many free bs ≡ Refused) none h)

-- what a file node saved, by the indices that went out
saved-outs : (v : ℕ) (P : Past) → indices (saves v P) ≡ reverse (flat_map (out_at true v) P)
saved-outs v [] = refl
saved-outs v (Save r w m k g ∷ P) =
    elim (cases_Bool (eqb w v)) [
      | inl here ↦
          rw here (map-append (λ (a : FrameName). a.index) (saves v P) (frame m k ∷ [])
          ∙ (ap (λ (ks : List ℕ). ks ++ k ∷ []) (saved-outs v P) ∙ sym (reverse-append (k ∷ []) (flat_map (out_at true v) P))))
      | inr away ↦ rw away (saved-outs v P)
    ]
saved-outs v (e ∷ P) = saved-outs v P

-- past the end of a list there is nothing
beyond : {X : Type 0} (xs : List X) (k : ℕ) → slice_get xs k ≡ None → length xs ≤ k
beyond xs k h = elim (slice_get_cases xs k).1 [
  | inl a ↦ let no : Some a.0 ≡ None = sym a.2 ∙ h in absurd (cc)
  | inr b ↦ b.0
]

-- what isn't refused was loaded
loaded-all : (es : List Entry) → count is_refused_load es ≡ 0 → flat_map load_index es ≡ flat_map loads es
loaded-all [] h = refl
loaded-all (LoadRefused r k n z ∷ es) h = absurd (omega (arith, h, count-cons is_refused_load (LoadRefused r k n z) es))
loaded-all (e ∷ es) h = ap (λ (ks : List ℕ). load_index e ++ ks) (loaded-all es (omega (arith, h, count-cons is_refused_load e es)))

none-refused : (P : Past) → has_drop P ≡ false → count is_refused_load P ≡ 0
none-refused [] h = refl
none-refused (LoadRefused r k n z ∷ P) h = absurd (true≢false h)
none-refused (e ∷ P) h = omega (arith, none-refused P (or_parts (drops e) (has_drop P) h).1, count-cons is_refused_load e P)

none-sort_dropped : (v : ℕ) (P : Past) → has_drop P ≡ false → count (is_sort_drop v) P ≡ 0
none-sort_dropped v [] h = refl
none-sort_dropped v (SortDrop w m k ∷ P) h = absurd (true≢false h)
none-sort_dropped v (e ∷ P) h = omega (arith, none-sort_dropped v P (or_parts (drops e) (has_drop P) h).1, count-cons (is_sort_drop v) e P)

never_deals : (k : Kind) → keeps_all k ≡ true → is_dealing (work_of k) ≡ false
never_deals (Roi r) h = refl
never_deals (Stats r) h = refl
never_deals (File r) h = refl
never_deals (Circular r) h = absurd (false≢true h)
never_deals Scatter h = absurd (false≢true h)

keeps_indices : (k : Kind) (arrays : List Array) (ks : List ℕ) → keeps_all k ≡ true → kind_outputs k arrays ks ≡ ks
keeps_indices (Roi r) arrays ks h = refl
keeps_indices (Stats r) arrays ks h = refl
keeps_indices (File r) arrays ks h = refl
keeps_indices (Circular r) arrays ks h = absurd (false≢true h)
keeps_indices Scatter arrays ks h = absurd (false≢true h)

module _ (span : ℕ) (g : Graph) (makers : List Maker) (stack : StackValue) (P : Past) (is : IsAmpleRun span g makers stack P) where
  abbrev s : Setting
  s = setting_of g makers stack.arrays

  abbrev N : ℕ
  N = length stack.arrays

  legal : is_legal s P ≡ true
  legal = (and_parts _ _ is.run.legal).0

  as_many : length s.ids ≡ N
  as_many = length-map stack.arrays (λ (a : Array). a.id)

  step : AreInStep s (length s.ids)
  step k low = is.ids k (omega (arith, low, as_many))

  ample : (v : ℕ) (n : NodeRule) → rule_at g.nodes v ≡ Some n → IsAmpleNode N span n
  ample zero n at = absurd (cc)
  ample (suc k) n at =
      subst (IsAmpleNode N span) (get_or_from_slice_get g.nodes k n n at)
      (All-get_or (IsAmpleNode N span) g.nodes k n (slice_get_within g.nodes k n at) is.ample.nodes)

  front : (newer Q : Past) → newer ++ Q ≡ P → is_legal s (newer ++ Q) ≡ true
  front newer Q at = subst (λ (R : Past). is_legal s R ≡ true) (sym at) legal

  -- SORT LISTS

  sorted_rule : (v : ℕ) → is_sorted s v ≡ true → (n : NodeRule) × (rule_at g.nodes v ≡ Some n)
  sorted_rule zero sorted = absurd (false≢true sorted)
  sorted_rule (suc j) sorted = elim (slice_get_cases g.nodes j).1 [
    | inl a ↦ (a.0, a.2)
    | inr b ↦
        let none : node s (suc j) ≡ no_node = get_or_past s.nodes j no_node (omega (arith, b.0, length-map g.nodes node_of)) in
        absurd (false≢true (subst (λ (m : Node). (may_sort m.work && ltb 0 m.sort) ≡ true) none sorted))
  ]

  -- a sorted node has a list with a place for each frame
  ample_list : (v : ℕ) (n : NodeRule) → rule_at g.nodes v ≡ Some n → is_sorted s v ≡ true → HasAmpleList N span n
  ample_list v n rule sorted = by (ample v n rule).order
    where
      node_sound : IsNode n
      node_sound = (stands g v n is.sound (sym rule)).sound

      never : n.sort ≡ 0 → HasAmpleList N span n
      never none =
          let same : (node s v).sort ≡ n.sort = ap (λ (m : Node). m.sort) (node-is g makers stack.arrays v n rule) in
          let some : 0 < (node s v).sort = ltb-true 0 (node s v).sort (and_parts (may_sort (node s v).work) (ltb 0 (node s v).sort) sorted).1 in
          absurd (omega (arith, same, some, none))

      by : KeepsOrder n ⊎ HasAmpleList N span n → HasAmpleList N span n
      by (inr list) = list
      by (inl (inl alone)) = never (node_sound.unsorted alone)
      by (inl (inr plain)) = never plain.1

  -- NOTHING IS DROPPED

  some_node : (v m k : ℕ) (Q : Past) → is_legal s (Full v m k ∷ Q) ≡ true → (n : NodeRule) × (rule_at g.nodes v ≡ Some n)
  some_node v m k Q h = by v h
    where
      unnumbered : (v : ℕ) → is_legal s (Full v m k ∷ Q) ≡ true → count (is_number v) (node_numbers s) ≡ 0 → ⊥
      unnumbered v h none =
          omega (
            arith,
            none_arrives s (Full v m k ∷ Q) v k none h,
            count-cons (arrives_at v k) (Full v m k) Q,
            ap bit (and_from (eqb v v) (eqb k k) (eq-eqb v v refl) (eq-eqb k k refl)),
          )

      by : (v : ℕ) → is_legal s (Full v m k ∷ Q) ≡ true → (n : NodeRule) × (rule_at g.nodes v ≡ Some n)
      by zero h = absurd (unnumbered 0 h (none_numbered_0 s))
      by (suc j) h = rule (slice_get g.nodes j) refl
        where
          rule : (o : Option NodeRule) → slice_get g.nodes j ≡ o → (n : NodeRule) × (rule_at g.nodes (suc j) ≡ Some n)
          rule (Some n) at = (n, at)
          rule None at =
              absurd (unnumbered (suc j) h (none_after (suc j) 1 s.nodes (omega (arith, beyond g.nodes j at, length-map g.nodes node_of))))

  no_full : (newer Q : Past) (v m k : ℕ) → newer ++ Full v m k ∷ Q ≡ P → ⊥
  no_full newer Q v m k at =
      let whole = front newer (Full v m k ∷ Q) at in
      let h : is_legal s (Full v m k ∷ Q) ≡ true = legal-front s newer (Full v m k ∷ Q) whole in
      let n = some_node v m k Q h in
      let places : N ≤ (node s v).queue =
      subst (λ (r : Node). N ≤ r.queue) (sym (node-is g makers stack.arrays v n.0 n.1)) (ample v n.0 n.1).queue in
      let full : (node s v).queue ≤ length (queued v Q) = ltb-false (length (queued v Q)) (node s v).queue (full-cause s newer Q v m k whole) in
      omega (
        arith,
        places,
        full,
        as_many,
        queued-le s Q v (and_parts _ _ h).0,
        length_laws.offers s (Full v m k ∷ Q) v h,
        ap length (offer_laws.full v m k Q),
        length-append (offered v Q) (frame m k ∷ []),
      )

  no_sort_drop : (newer Q : Past) (v m k : ℕ) → newer ++ SortDrop v m k ∷ Q ≡ P → ⊥
  no_sort_drop newer Q v m k at =
      let whole = front newer (SortDrop v m k ∷ Q) at in
      let facts = drop-forced s newer Q v m k whole in
      let few = waiting-few s Q v facts.sorted (and_parts _ _ (legal-front s newer (SortDrop v m k ∷ Q) whole)).0 in
      let many : length (waiting s v Q) ≡ length facts.others + 1 =
      ap length facts.own ∙ length-append facts.others (record { array = frame m k; tick = now Q } ∷ []) in
      let n = sorted_rule v facts.sorted in
      let same : (node s v).sort ≡ n.0.sort = ap (λ (m : Node). m.sort) (node-is g makers stack.arrays v n.0 n.1) in
      omega (arith, few, many, facts.full, as_many, same, (ample_list v n.0 n.1 facts.sorted).places)

  dropless : (newer Q : Past) → newer ++ Q ≡ P → has_drop Q ≡ false
  dropless newer [] at = refl
  dropless newer (Full v m k ∷ Q) at = absurd (no_full newer Q v m k at)
  dropless newer (SortDrop v m k ∷ Q) at = absurd (no_sort_drop newer Q v m k at)
  dropless newer (PoolDrop r v m k n z ∷ Q) at =
      absurd (unrefused g.limit (s.need v) (held s Q) (is_unplaced s Q) (known_blocks s Q) is.ample.unlimited
      (pool-cause s newer Q r v m k n z (front newer (PoolDrop r v m k n z ∷ Q) at)).answer)
  dropless newer (LoadRefused r k n z ∷ Q) at =
      absurd (unrefused g.limit (s.need 0) (held s Q) (is_unplaced s Q) (known_blocks s Q) is.ample.unlimited
      (load-cause s newer Q r k n z (front newer (LoadRefused r k n z ∷ Q) at)).answer)
  dropless newer (e ∷ Q) at = dropless (newer ++ e ∷ []) Q (append_assoc newer (e ∷ []) Q ∙ at)

  kept : has_drop P ≡ false
  kept = dropless [] P refl

  -- NOTHING IS LATE

  in_time : (v : ℕ) (newer Q : Past) (m k : ℕ) → is_sorted s v ≡ true → newer ++ Emit v m k Late ∷ Q ≡ P → ⊥
  in_time v newer Q m k sorted at =
      let whole = front newer (Emit v m k Late ∷ Q) at in
      let h : is_legal s Q ≡ true = (and_parts _ _ (legal-front s newer (Emit v m k Late ∷ Q) whole)).0 in
      let late = late-waited s newer Q v m k whole in
      let put : Contains Q (Tick late.tick) = waits-recorded s v (record { array = frame m k; tick = late.tick }) Q h late.waits in
      let there : (t : ℕ) → Contains Q (Tick t) → Contains P (Tick t) = λ t some. subst (λ (R : Past). Contains R (Tick t)) at
      (Contains-append_right newer (Emit v m k Late ∷ Q) (Tick t) (contains-more (Emit v m k Late) (Tick t) Q some)) in
      let near = is.ticks late.tick (now Q) (there late.tick put) (there (now Q) (now-recorded Q late.tick put)) in
      let n = sorted_rule v sorted in
      let same : (node s v).sort_time ≡ n.0.sort_time = ap (λ (m : Node). m.sort_time) (node-is g makers stack.arrays v n.0 n.1) in
      omega (arith, late.past, near, same, (ample_list v n.0 n.1 sorted).time)

  -- EACH NODE PUTS OUT ALL FRAMES IN THEIR ORDER

  abbrev AllOut : ℕ → Type 0
  AllOut v = outs s v P ≡ below N

  driver : AllOut 0
  driver =
      driver-outs s P is.run.legal (ap (list_any is_loaded) (ended-idle s P is.run.finished))
      ∙ (loaded-all (standing P) (omega (arith, refusals-stand P, none-refused P kept)) ∙ (all-came s P is.run ∙ ap below as_many))

  alike : (u : ℕ) → IsTrue (is_source g.nodes u) → deals s u ≡ false
  alike zero source = refl
  alike (suc k) source = by (slice_get g.nodes k) refl
    where
      by : (o : Option NodeRule) → o ≡ slice_get g.nodes k → deals s (suc k) ≡ false
      by None at = absurd (false≢true (ap (λ (o : Option NodeRule). option_map_or (λ (n : NodeRule). may_feed n.kind) o false) at ∙ source))
      by (Some n) at =
          ap (λ (m : Node). is_dealing m.work) (node-is g makers stack.arrays (suc k) n (sym at))
          ∙ never_deals n.kind (ample (suc k) n (sym at)).keeps

  feeds : (u : ℕ) → IsTrue (is_source g.nodes u) → is_file (node s u).work ≡ false
  feeds zero source = refl
  feeds (suc k) source = by (slice_get g.nodes k) refl
    where
      by : (o : Option NodeRule) → o ≡ slice_get g.nodes k → is_file (node s (suc k)).work ≡ false
      by None at = absurd (false≢true (ap (λ (o : Option NodeRule). option_map_or (λ (n : NodeRule). may_feed n.kind) o false) at ∙ source))
      by (Some n) at =
          let may : may_feed n.kind ≡ true = ap (λ (o : Option NodeRule). option_map_or (λ (n : NodeRule). may_feed n.kind) o false) at ∙ source in
          ap (λ (m : Node). is_file m.work) (node-is g makers stack.arrays (suc k) n (sym at)) ∙ no_file n may

  -- by what went out for good
  out-reversed : (v : ℕ) → indices (put_out s v P) ≡ reverse (outs s v P)
  out-reversed v =
      elim (cases_Bool (is_file (node s v).work)) [
        | inl file ↦
            ap indices (out-saved g makers stack.arrays v P file)
            ∙ (saved-outs v (standing P) ∙ ap (λ (b : Bool). reverse (flat_map (out_at b v) (standing P))) (sym file))
        | inr other ↦ ap indices (out-emitted g makers stack.arrays v P other) ∙ emitted-outs s P v other legal
      ]

  all_from : (v : ℕ) → indices (put_out s v P) ≡ reverse (below N) → AllOut v
  all_from v h =
      sym (reverse-reverse (outs s v P)) ∙ (ap reverse (sym (out-reversed v) ∙ h) ∙ reverse-reverse (below N))

  module _ (v : ℕ) (n : NodeRule) (rule : rule_at g.nodes v ≡ Some n) (before : AllOut n.input) where
    d : Known g makers stack.arrays v n n.kind
    d = known g makers stack.arrays v n n.kind rule refl

    node_sound : IsNode n
    node_sound = (stands g v n is.sound (sym rule)).sound

    source : IsTrue (is_source g.nodes n.input)
    source = input-source g is.sound v n rule

    came : indices (emitted n.input P) ≡ reverse (below N)
    came = emitted-outs s P n.input (feeds n.input source) legal ∙ ap reverse before

    all : accepted s v P ≡ emitted n.input P
    all =
        accepted-all s P v d.number (ap (λ (m : Node). deals s m.input) (node-is g makers stack.arrays v n rule) ∙ alike n.input source) is.run.legal kept
        ∙ ap (λ (m : Node). emitted m.input P) (node-is g makers stack.arrays v n rule)

    taken : indices (accepted s v P) ≡ reverse (below N)
    taken = ap indices all ∙ came

    by_order : n.threads ≡ 1 → n.sort ≡ 0 → AllOut v
    by_order one none =
        all_from v (positions g makers stack.arrays P v n is.sound rule one none is.run
        ∙ (ap (outputs g.nodes stack.arrays v) taken
        ∙ (outputs-are g makers stack.arrays v n n.kind (reverse (below N)) rule refl
        ∙ keeps_indices n.kind stack.arrays (reverse (below N)) (ample v n rule).keeps)))

    -- each of them was emitted once
    once : (k : ℕ) → may_sort (node s v).work ≡ true → k < length s.ids → count (emits_at v k) P ≡ 1
    once k sorts low =
        omega (
          arith,
          emits-accepted s P v k d.number sorts is.run,
          emitted-count v k P,
          indices-count k (accepted s v P),
          ap (times_in k) taken,
          count-reverse (λ j. eqb j k) (below N),
          once-below k N (omega (arith, low, as_many)),
        )

    by_sorting : HasAmpleList N span n → AllOut v
    by_sorting list =
        let several : is_parallel n.kind ≡ true = elim (cases_Bool (is_parallel n.kind)) [
          | inl many ↦ many
          | inr alone ↦ absurd (omega (arith, list.sorted, node_sound.unsorted alone))
        ] in
        let sorts : may_sort (node s v).work ≡ true = ap may_sort d.work ∙ (parallel-passes n.kind stack.arrays [] several).1 in
        let same : (node s v).sort ≡ n.sort = ap (λ (m : Node). m.sort) (node-is g makers stack.arrays v n rule) in
        let sorted : is_sorted s v ≡ true = and_from _ _ sorts (lt-ltb 0 (node s v).sort (omega (arith, same, list.sorted))) in
        whole-in_order s v P (record {
          sorted = sorted;
          legal = legal;
          step = step;
          kept = none-sort_dropped v P kept;
          in_time = λ newer older m k at. in_time v newer older m k sorted at;
          all = λ k low. once k sorts low;
        }) ∙ ap below as_many

    at_node : AllOut v
    at_node = by (ample v n rule).order
      where
        by : KeepsOrder n ⊎ HasAmpleList N span n → AllOut v
        by (inr list) = by_sorting list
        by (inl (inl alone)) = by_order (node_sound.one_thread alone) (node_sound.unsorted alone)
        by (inl (inr plain)) = by_order plain.0 plain.1

  sources : (d v : ℕ) → depth g.nodes (length g.nodes) v < d → IsTrue (is_source g.nodes v) → AllOut v
  sources zero v low source = absurd (omega (arith, low))
  sources (suc d) zero low source = driver
  sources (suc d) (suc k) low source = by (slice_get g.nodes k) refl (λ w. sources d w)
    where
      by : (o : Option NodeRule) → o ≡ slice_get g.nodes k
          → ((w : ℕ) → depth g.nodes (length g.nodes) w < d → IsTrue (is_source g.nodes w) → AllOut w) → AllOut (suc k)
      by None at sooner = absurd (false≢true (ap (λ (o : Option NodeRule). option_map_or (λ (n : NodeRule). may_feed n.kind) o false) at ∙ source))
      by (Some n) at sooner =
          at_node (suc k) n (sym at)
          (sooner n.input (omega (arith, low, (stands g (suc k) n is.sound at).nearer)) (input-source g is.sound (suc k) n (sym at)))

  -- what feeds a node puts out all
  pub input-out : (v : ℕ) (n : NodeRule) → rule_at g.nodes v ≡ Some n → AllOut n.input
  input-out v n rule = sources (suc (depth g.nodes (length g.nodes) n.input)) n.input (omega arith) (input-source g is.sound v n rule)

  pub all-out : (v : ℕ) → v ≤ length g.nodes → AllOut v
  all-out zero within = driver
  all-out (suc k) within = elim (slice_get_cases g.nodes k).1 [
    | inl a ↦ at_node (suc k) a.0 a.2 (input-out (suc k) a.0 a.2)
    | inr b ↦ absurd (omega (arith, within, b.0))
  ]

  -- and takes all
  pub all-offered : (v : ℕ) (n : NodeRule) → rule_at g.nodes v ≡ Some n → length (offered v P) ≡ N
  all-offered v n rule =
      let source = input-source g is.sound v n rule in
      let d = known g makers stack.arrays v n n.kind rule refl in
      let same : (node s v).input ≡ n.input = ap (λ (m : Node). m.input) (node-is g makers stack.arrays v n rule) in
      let came : indices (emitted n.input P) ≡ reverse (below N) =
      emitted-outs s P n.input (feeds n.input source) legal ∙ ap reverse (input-out v n rule) in
      omega (
        arith,
        ap length (comes s P v d.number (ap (deals s) same ∙ alike n.input source) is.run.legal),
        ap (λ (u : ℕ). length (emitted u P)) same,
        length-map (emitted n.input P) (λ (a : FrameName). a.index),
        ap length came,
        length-reverse (below N),
        length-below N,
      )

  pub ample-smooth : IsSmooth g makers stack P
  ample-smooth = record {
    run = is.run;
    kept = kept;
    in_step = λ v within. ap (breaks_of s) (all-out v within) ∙ none-breaks s N step (omega (arith, as_many));
  }
