-- A sorted node at which nothing is dropped or late, and which lets out every frame, lets them out in order.
use Rattle.std.proofs.Common.{◌≡◌, ◌≢◌, ℕ, ◌+◌, ◌≤◌, ◌<◌, true, false, eqb, ltb, List, [], ◌∷◌, ◌++◌, length, refl, sym, ap, ◌∙◌, subst}
use Rattle.std.proofs.Common.{arith, inl, inr, ◌⊎◌, ℤ}
use Rattle.std.specs.Prelude.{All, ◌≤ℤ◌}
use Rattle.std.proofs.lemmas.Bool.{and_parts, and_from, eq-eqb, eqb-true, ltb-true, ltb-false, cases_Bool}
use Rattle.std.proofs.lemmas.Int.{ints}
use Rattle.std.proofs.lemmas.List.{append_assoc}
use Rattle.std.proofs.lemmas.List.Elements.{All-head, All-tail}
use Rattle.nd_base.specs.declared.frame.FrameName.{FrameName}
use Rattle.flow_journal.specs.declared.entry.Entry.TheVariants.{Emit}
use Rattle.flow_journal.specs.declared.entry.Why.{Why}
use Rattle.flow_journal.specs.declared.entry.Why.TheVariants.{Late, Flush}
use Rattle.flow_journal.specs.EntryTests.{is_sort_drop}
use Rattle.flow_journal.specs.Setting.{Setting, node, id_at, is_sorted}
use Rattle.flow_journal.specs.Pasts.{Past}
use Rattle.flow_journal.specs.Unsaved.{is_file}
use Rattle.flow_journal.specs.Waiting.{Waiting, waiting, id_of}
use Rattle.queue_sort.specs.Sorting.{keeps_step}
use Rattle.flow_journal.specs.Breaks.{outs, prev, prev_of, breaks}
use Rattle.flow_journal.specs.Accepted.{emitted}
use Rattle.flow_journal.specs.Histories.{is_legal}
use Rattle.flow_journal.specs.IndexLaws.{below}
use Rattle.flow_journal.proofs.EntryCounts.{count, bit, count-cons, count-append, emits_at, puts_of}
use Rattle.flow_journal.proofs.Emissions.{sorted-outs}
use Rattle.flow_journal.proofs.Histories.{legal-front}
use Rattle.flow_journal.proofs.Leasts.{least_laws}
use Rattle.flow_journal.proofs.Looks.{sorted_no_file}
use Rattle.flow_journal.proofs.Once.{emits-few, emitted-count, bit-le}
use Rattle.flow_journal.proofs.Outs.{of_index, waits}
use Rattle.run_laws.specs.OrderLaws.{marked_breaks}
use Rattle.run_laws.proofs.Breaks.{sorted-node, counted}
use Rattle.run_laws.proofs.Falling.{AreInStep, falls, times_in, count-reverse, same_falling}
use Rattle.run_laws.proofs.Orders.{indices-count}
use Rattle.run_laws.proofs.PlainRuns.{emitted-outs}
use Rattle.run_laws.proofs.Sorted.{outs-split, none-at}
use Rattle.demo_laws.proofs.Flushing.{flush-settled, flush-least, puts-over}
use Rattle.demo_laws.proofs.InStep.{below-falls, none-below, once-below, all-within, keeps-next, unbroken}

-- an index goes out of a node that saves nothing as often as it is emitted
pub times-out : (s : Setting) (P : Past) (v k : ℕ) → is_file (node s v).work ≡ false → is_legal s P ≡ true → times_in k (outs s v P) ≡ count (emits_at v k) P
times-out s P v k other h =
    omega (
      arith,
      count-reverse (λ j. eqb j k) (outs s v P),
      ap (times_in k) (emitted-outs s P v other h),
      indices-count k (emitted v P),
      emitted-count v k P,
    )

-- what is no more than the id of each that waits is no more than that of one
least-of : (s : Setting) (i : ℤ) (x : ℕ) (ws : List Waiting) → All (λ u. i ≤ℤ id_of s u) ws → 1 ≤ count (waits (of_index x)) ws → i ≤ℤ id_at s x
least-of s i x [] all some = absurd (omega (arith, some))
least-of s i x (w ∷ ws) all some =
    elim (cases_Bool (eqb w.array.index x)) [
      | inl here ↦
          subst (λ (k : ℕ). i ≤ℤ id_at s k) (eqb-true w.array.index x here) (All-head (λ u. i ≤ℤ id_of s u) w ws all)
      | inr away ↦
          least-of s i x ws (All-tail (λ u. i ≤ℤ id_of s u) w ws all)
          (omega (arith, some, count-cons (waits (of_index x)) w ws, ap bit away))
    ]

-- what is let out, and why it is in order
pub record IsWhole (s : Setting) (v : ℕ) (P : Past) : Type 0 where
  pub sorted : is_sorted s v ≡ true
  pub legal : is_legal s P ≡ true
  pub step : AreInStep s (length s.ids)
  pub kept : count (is_sort_drop v) P ≡ 0
  pub in_time : (newer older : Past) (m k : ℕ) → newer ++ Emit v m k Late ∷ older ≡ P → ⊥
  pub all : (k : ℕ) → k < length s.ids → count (emits_at v k) P ≡ 1

module _ (s : Setting) (v : ℕ) (all : Past) (is : IsWhole s v all) where
  abbrev N : ℕ
  N = length s.ids

  other : is_file (node s v).work ≡ false
  other = sorted_no_file s v is.sorted

  nonzero : v ≢ 0
  nonzero = sorted-node s v is.sorted

  front : (newer P : Past) → newer ++ P ≡ all → is_legal s P ≡ true
  front newer P at = legal-front s newer P (subst (λ (Q : Past). is_legal s Q ≡ true) (sym at) is.legal)

  -- no index goes out twice, and none beyond the frames
  few-out : (P : Past) (k : ℕ) → is_legal s P ≡ true → times_in k (outs s v P) ≤ bit (ltb k N)
  few-out P k h = omega (arith, times-out s P v k other h, emits-few s P v k h)

  in_order : (P : Past) → is_legal s P ≡ true → breaks s v P ≡ 0 → outs s v P ≡ below (length (outs s v P))
  in_order P h none =
      unbroken s N (outs s v P) is.step (omega arith) (all-within N (outs s v P) (λ k. few-out P k h))
      (λ k. omega (arith, few-out P k h, bit-le (ltb k N))) none

  module _ (newer P : Past) (m k : ℕ) (at : newer ++ Emit v m k Flush ∷ P ≡ all) (none : breaks s v P ≡ 0) where
    here : is_legal s (Emit v m k Flush ∷ P) ≡ true
    here = front newer (Emit v m k Flush ∷ P) at

    h : is_legal s P ≡ true
    h = (and_parts _ _ here).0

    -- so many went out before
    abbrev x : ℕ
    x = length (outs s v P)

    before : (j : ℕ) → times_in j (below x) ≡ count (emits_at v j) P
    before j = ap (times_in j) (sym (in_order P h none)) ∙ times-out s P v j other h

    own : count (emits_at v k) (Emit v m k Flush ∷ P) ≡ 1 + count (emits_at v k) P
    own = omega (arith, count-cons (emits_at v k) (Emit v m k Flush) P, ap bit (and_from _ _ (eq-eqb v v refl) (eq-eqb k k refl)))

    some : k < N
    some = elim (cases_Bool (ltb k N)) [
      | inl low ↦ ltb-true k N low
      | inr high ↦ absurd (omega (arith, own, emits-few s (Emit v m k Flush ∷ P) v k here, ap bit high))
    ]

    new : x ≤ k
    new = elim (cases_Bool (ltb k x)) [
      | inl low ↦
          absurd (omega (arith, own, emits-few s (Emit v m k Flush ∷ P) v k here, bit-le (ltb k N), before k, once-below k x (ltb-true k x low)))
      | inr high ↦ ltb-false k x high
    ]

    -- of what is put nothing is missing
    waiting-still : x < N → 1 ≤ count (waits (of_index x)) (waiting s v P)
    waiting-still low =
        let puts : count (puts_of v (of_index x)) all ≡ count (puts_of v (of_index x)) P =
        ap (count (puts_of v (of_index x))) (sym at)
        ∙ puts-over s v (of_index x) newer (Emit v m k Flush ∷ P) (subst (λ (Q : Past). is_legal s Q ≡ true) (sym at) is.legal)
        (flush-settled s P v m k is.sorted here) in
        let dropped : count (is_sort_drop v) P ≤ count (is_sort_drop v) all =
        subst (λ (Q : Past). count (is_sort_drop v) P ≤ count (is_sort_drop v) Q) at
        (omega (arith, count-append (is_sort_drop v) newer (Emit v m k Flush ∷ P), count-cons (is_sort_drop v) (Emit v m k Flush) P)) in
        omega (
          arith,
          puts,
          dropped,
          is.kept,
          is.all x low,
          before x,
          none-below x x (omega arith),
          outs-split v x all,
          outs-split v x P,
          none-at v x P,
          sorted-outs s all v (of_index x) nonzero is.sorted is.legal,
          sorted-outs s P v (of_index x) nonzero is.sorted h,
        )

    -- and the least goes first
    next : k ≡ x
    next = elim (cases_Bool (ltb x k)) [
      | inr low ↦ omega (arith, new, ltb-false x k low)
      | inl high ↦
          let more : x < k = ltb-true x k high in
          let l = flush-least s P v m k is.sorted here in
          let least = (least_laws.least s (waiting s v P) l.0 l.1 l.2).below in
          let index : id_of s l.0 ≡ id_at s k = ap (λ (a : FrameName). id_at s a.index) l.3 in
          let lower = least-of s (id_of s l.0) x (waiting s v P) least (waiting-still (omega (arith, more, some))) in
          let at_k = is.step k some in
          let at_x = is.step x (omega (arith, more, some)) in
          absurd (omega (arith, ints, index, lower, at_k, at_x, more))
    ]

    flush-keeps : keeps_step (prev s v P) (id_at s k) ≡ true
    flush-keeps =
        subst (λ (j : ℕ). keeps_step (prev s v P) (id_at s j) ≡ true) (sym next)
        (subst (λ (ks : List ℕ). keeps_step (prev_of s ks) (id_at s x) ≡ true) (sym (in_order P h none))
        (keeps-next s x is.step (omega (arith, next, some))))

  none-marked : (newer P : Past) → newer ++ P ≡ all → marked_breaks s v P ≡ 0
  none-marked newer [] at = refl
  none-marked newer (Emit w m k why ∷ P) at =
      by why at (none-marked (newer ++ Emit w m k why ∷ []) P (append_assoc newer (Emit w m k why ∷ []) P ∙ at))
    where
      by : (how : Why) → newer ++ Emit w m k how ∷ P ≡ all → marked_breaks s v P ≡ 0 → marked_breaks s v (Emit w m k how ∷ P) ≡ 0
      by Late is_here older =
          elim (cases_Bool (eqb w v)) [
            | inl same ↦ absurd (is.in_time newer P m k (ap (λ (u : ℕ). newer ++ Emit u m k Late ∷ P) (sym (eqb-true w v same)) ∙ is_here))
            | inr away ↦ rw away (omega (arith, older))
          ]
      by Flush is_here older =
          elim (cases_Bool (eqb w v)) [
            | inl same ↦
                let none : breaks s v P ≡ 0 = counted s P v is.sorted (and_parts _ _ (front newer (Emit w m k Flush ∷ P) is_here)).0 ∙ older in
                let keeps = flush-keeps newer P m k (ap (λ (u : ℕ). newer ++ Emit u m k Flush ∷ P) (sym (eqb-true w v same)) ∙ is_here) none in
                rw (same, keeps) (omega (arith, older))
            | inr away ↦ rw away (omega (arith, older))
          ]
      by how is_here older = omega (arith, older)
  none-marked newer (e ∷ P) at = none-marked (newer ++ e ∷ []) P (append_assoc newer (e ∷ []) P ∙ at)

  -- all frames go out in their order
  pub whole-in_order : outs s v all ≡ below N
  whole-in_order =
      let none : breaks s v all ≡ 0 = counted s all v is.sorted is.legal ∙ none-marked [] all refl in
      let ordered = in_order all is.legal none in
      same_falling (outs s v all) (below N) (subst (λ (ks : List ℕ). falls ks ≡ true) (sym ordered) (below-falls (length (outs s v all)))) (below-falls N)
      (λ k. times-out s all v k other is.legal ∙ same k (cases_Bool (ltb k N)))
    where
      same : (k : ℕ) → (ltb k N ≡ true) ⊎ (ltb k N ≡ false) → count (emits_at v k) all ≡ times_in k (below N)
      same k (inl low) = omega (arith, is.all k (ltb-true k N low), once-below k N (ltb-true k N low))
      same k (inr high) = omega (arith, emits-few s all v k is.legal, ap bit high, none-below k N (ltb-false k N high))
