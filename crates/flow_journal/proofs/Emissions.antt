-- A node emits each of its results once at most.
use Rattle.std.proofs.Common.{◌≡◌, ◌≢◌, ℕ, ◌+◌, ◌≤◌, Bool, true, false, ◌&&◌, cond, eqb, List, [], ◌∷◌, ◌++◌, map, length, drop, refl, sym, ap, ◌∙◌, subst}
use Rattle.std.proofs.Common.{arith, inl, inr, length-append, ◌⊎◌}
use Rattle.std.proofs.lemmas.Bool.{and_parts, and_from, false≢true, true≢false, eq-eqb, ne_eqb, eqb-true, eqb-false, cases_Bool}
use Rattle.nd_base.specs.declared.frame.FrameName.{FrameName}
use Rattle.trig_window.specs.Windows.{is_trigger, is_passed, kept}
use Rattle.flow_journal.specs.declared.entry.Entry.{Entry}
use Rattle.flow_journal.specs.declared.entry.Entry.TheVariants.{Load, LoadRefused, Tick, Issue, Emit, Put, SortDrop, Settle}
use Rattle.flow_journal.specs.declared.entry.Why.{Why}
use Rattle.flow_journal.specs.declared.entry.Why.TheVariants.{Plain, Flush, Ring, Now}
use Rattle.flow_journal.specs.Setting.{Setting, Work, Makes, Passes, Watches, Saves, may_sort, node, is_sorted, node_numbers}
use Rattle.flow_journal.specs.Turns.{offered_to}
use Rattle.flow_journal.specs.Pasts.{Past, frame, same, comes_at}
use Rattle.flow_journal.specs.Ended.{is_settled, now}
use Rattle.flow_journal.specs.Puts.{puts, firings}
use Rattle.flow_journal.specs.Waiting.{Waiting, waiting, not_waiting, least_first}
use Rattle.flow_journal.specs.Rings.{ring, ring_of}
use Rattle.flow_journal.specs.Following.{offer, emit, look, sorted_result, result, calls_for, owed}
use Rattle.flow_journal.specs.Histories.{is_legal}
use Rattle.flow_journal.proofs.Steps.{same_refl, same-true, comes_here, comes_elsewhere}
use Rattle.flow_journal.proofs.EntryCounts.{count, bit, count-cons, count-append, count-drop, emits_at, puts_at, puts_of, owed-first, owed-answered}
use Rattle.flow_journal.proofs.EntryCounts.{answers-by_Emit, answers-by_SortDrop, answers-by_Tick}
use Rattle.flow_journal.proofs.Outs.{AllOutAt, out_of, is_out_at, of_index, emits-le, none_elsewhere, result-at, flush-at, waits, count-flush}
use Rattle.flow_journal.proofs.Outs.{count-sorted_result, count-least_first, goes_out-at}
use Rattle.flow_journal.proofs.Offers.{once_numbered}
use Rattle.flow_journal.proofs.Issues.{looks, looks-le}
use Rattle.flow_journal.proofs.RingCounts.{ring-push, kept-nothing}
use Rattle.flow_journal.specs.EntryTests.{is_tick}

-- TICKS STAND ALONE

out_no_tick : (v : ℕ) (e : Entry) → is_out_at v e ≡ true → is_tick e ≡ false
out_no_tick v (Emit w m i why) h = refl
out_no_tick v (SortDrop w m i) h = refl
out_no_tick v _ h = absurd (false≢true h)

pub no_ticks : (v : ℕ) (ds : List Entry) → AllOutAt v ds → count is_tick ds ≡ 0
no_ticks v [] h = refl
no_ticks v (d ∷ ds) h =
    let p = and_parts (is_out_at v d) _ h in
    omega (arith, count-cons is_tick d ds, ap bit (out_no_tick v d p.0), no_ticks v ds p.1)

pub no_ticks_in_offers : (a : FrameName) (cs : List ℕ) → count is_tick (map (offer a) cs) ≡ 0
no_ticks_in_offers a [] = refl
no_ticks_in_offers a (c ∷ cs) = no_ticks_in_offers a cs

look_if-ticks : (s : Setting) (P : Past) (u : ℕ) (b : Bool) → count is_tick (cond b (look s u P) []) ≡ 0
look_if-ticks s P u true = no_ticks u (look s u P) (goes_out-at s u _ _ _)
look_if-ticks s P u false = refl

pub looks-ticks : (s : Setting) (P : Past) (us : List ℕ) → count is_tick (looks s P us) ≡ 0
looks-ticks s P [] = refl
looks-ticks s P (u ∷ us) =
    omega (arith, count-append is_tick (cond (is_sorted s u) (look s u P) []) (looks s P us), look_if-ticks s P u (is_sorted s u), looks-ticks s P us)

-- no tick is owed, or nothing else
abbrev pub TickAlone : List Entry → Type 0
TickAlone ds = (count is_tick ds ≡ 0) ⊎ (length ds ≤ 1)

alone-rest : (ds : List Entry) → TickAlone ds → count is_tick (drop 1 ds) ≡ 0
alone-rest [] h = refl
alone-rest (d ∷ ds) (inl none) = omega (arith, count-cons is_tick d ds, none)
alone-rest (d ∷ []) (inr few) = refl
alone-rest (d ∷ e ∷ ds) (inr few) = absurd (omega (arith, few))

alone-more : (calls ds : List Entry) → count is_tick calls ≡ 0 → TickAlone ds → TickAlone (calls ++ drop 1 ds)
alone-more calls ds h alone = inl (omega (arith, count-append is_tick calls (drop 1 ds), h, alone-rest ds alone))

pub tick_alone : (s : Setting) (P : Past) → is_legal s P ≡ true → TickAlone (owed s P)
tick_alone s [] h = inl refl
tick_alone s (Load r i b n f g x ∷ P) h =
    let none : owed s P ≡ [] = owed-first s (Load r i b n f g x) P (λ d. refl) h in
    inr (omega (arith, ap (λ (ds : List Entry). length (drop 1 ds)) none))
tick_alone s (LoadRefused r i n z ∷ P) h =
    let none : owed s P ≡ [] = owed-first s (LoadRefused r i n z) P (λ d. refl) h in
    inr (omega (arith, ap (λ (ds : List Entry). length (drop 1 ds)) none))
tick_alone s (Tick t ∷ P) h = alone-more (calls_for s P (Tick t)) (owed s P) (looks-ticks s (Tick t ∷ P) (node_numbers s)) (tick_alone s P (and_parts _ _ h).0)
tick_alone s (Issue r i ∷ P) h = alone-more (calls_for s P (Issue r i)) (owed s P) refl (tick_alone s P (and_parts _ _ h).0)
tick_alone s (Emit w m i why ∷ P) h =
    alone-more (calls_for s P (Emit w m i why)) (owed s P) (no_ticks_in_offers (frame m i) (offered_to s P w)) (tick_alone s P (and_parts _ _ h).0)
tick_alone s (Put r w m i f ∷ P) h =
    alone-more (calls_for s P (Put r w m i f)) (owed s P) (no_ticks w (calls_for s P (Put r w m i f)) (result-at s w (frame m i) f P (node s w).work))
    (tick_alone s P (and_parts _ _ h).0)
tick_alone s (Settle r w ∷ P) h =
    alone-more (calls_for s P (Settle r w)) (owed s P) (no_ticks w (calls_for s P (Settle r w)) (flush-at w (least_first s (waiting s w P))))
    (tick_alone s P (and_parts _ _ h).0)
tick_alone s (_ ∷ P) h = inl (alone-rest (owed s P) (tick_alone s P (and_parts _ _ h).0))

alone-tail : (ds : List Entry) (head : Entry) (rest : List Entry) (u : ℕ) → ds ≡ head ∷ rest → head ≡ Tick u → TickAlone ds → drop 1 ds ≡ []
alone-tail [] head rest u e is h = refl
alone-tail (d ∷ []) head rest u e is h = refl
alone-tail (d ∷ c ∷ ds) head rest u e is (inr few) = absurd (omega (arith, few))
alone-tail (d ∷ c ∷ ds) head rest u e is (inl none) =
    let first_is : d ≡ Tick u = cc in
    absurd (omega (arith, count-cons is_tick d (c ∷ ds), ap (λ (x : Entry). bit (is_tick x)) first_is, none))

-- when a tick comes nothing else is owed
owed-Tick : (s : Setting) (t : ℕ) (P : Past) → is_legal s (Tick t ∷ P) ≡ true → drop 1 (owed s P) ≡ []
owed-Tick s t P h =
    let a = owed-answered s (Tick t) P refl h in
    let is = answers-by_Tick s P t a.head a.answer in
    alone-tail (owed s P) a.head a.rest is.0 a.is is.1 (tick_alone s P (and_parts _ _ h).0)

-- SORTED NODES

-- one that waits is taken away
pub removed : (a : FrameName) (t : FrameName → Bool) (ws : List Waiting) → 1 ≤ count (waits (λ x. same x a)) ws
    → count (waits t) ws ≡ bit (t a) + count (waits t) (not_waiting a ws)
removed a t [] h = absurd (omega (arith, h))
removed a t (w ∷ ws) h =
    elim (cases_Bool (same w.array a)) [
      | inl here ↦ rw here (count-cons (waits t) w ws ∙ ap (λ (x : FrameName). bit (t x) + count (waits t) ws) (same-true w.array a here))
      | inr away ↦
          let left : 1 ≤ count (waits (λ x. same x a)) ws = omega (arith, count-cons (waits (λ x. same x a)) w ws, ap bit away, h) in
          rw away (count-cons (waits t) w ws ∙ omega (arith, removed a t ws left, count-cons (waits t) w (not_waiting a ws)))
    ]

pub removed-le : (a : FrameName) (t : FrameName → Bool) (ws : List Waiting) → count (waits t) (not_waiting a ws) ≤ count (waits t) ws
removed-le a t [] = omega arith
removed-le a t (w ∷ ws) =
    elim (cases_Bool (same w.array a)) [
      | inl here ↦ rw here (omega (arith, count-cons (waits t) w ws))
      | inr away ↦ rw away (omega (arith, removed-le a t ws, count-cons (waits t) w (not_waiting a ws), count-cons (waits t) w ws))
    ]

-- the head of what was owed, as an emission or a drop
owed-out : (s : Setting) (e : Entry) (P : Past) (v : ℕ) (t : FrameName → Bool) (b : Bool) (head : Entry) (rest : List Entry) → owed s P ≡ head ∷ rest
    → out_of v t head ≡ b → count (out_of v t) (owed s P) ≡ bit b + count (out_of v t) (drop 1 (owed s P))
owed-out s e P v t b head rest is same_test =
    let was : count (out_of v t) (owed s P) ≡ bit (out_of v t head) + count (out_of v t) rest =
    ap (count (out_of v t)) is ∙ count-cons (out_of v t) head rest in
    let left : count (out_of v t) (drop 1 (owed s P)) ≡ count (out_of v t) rest = ap (λ (ds : List Entry). count (out_of v t) (drop 1 ds)) is in
    omega (arith, was, left, ap bit same_test)

pub owed-Emit_out : (s : Setting) (w m i : ℕ) (why : Why) (P : Past) (v : ℕ) (t : FrameName → Bool) → is_legal s (Emit w m i why ∷ P) ≡ true
    → count (out_of v t) (owed s P) ≡ bit (eqb w v && t (frame m i)) + count (out_of v t) (drop 1 (owed s P))
owed-Emit_out s w m i why P v t h =
    let a = owed-answered s (Emit w m i why) P refl h in
    let is = answers-by_Emit s P w m i why a.head a.answer in
    owed-out s (Emit w m i why) P v t (eqb w v && t (frame m i)) a.head a.rest a.is (ap (out_of v t) is.1)

pub owed-SortDrop_out : (s : Setting) (w m i : ℕ) (P : Past) (v : ℕ) (t : FrameName → Bool) → is_legal s (SortDrop w m i ∷ P) ≡ true
    → count (out_of v t) (owed s P) ≡ bit (eqb w v && t (frame m i)) + count (out_of v t) (drop 1 (owed s P))
owed-SortDrop_out s w m i P v t h =
    let a = owed-answered s (SortDrop w m i) P refl h in
    owed-out s (SortDrop w m i) P v t (eqb w v && t (frame m i)) a.head a.rest a.is (ap (out_of v t) (answers-by_SortDrop s P w m i a.head a.answer))

pub no_outs_in_offers : (v : ℕ) (t : FrameName → Bool) (a : FrameName) (cs : List ℕ) → count (out_of v t) (map (offer a) cs) ≡ 0
no_outs_in_offers v t a [] = refl
no_outs_in_offers v t a (c ∷ cs) = no_outs_in_offers v t a cs

pub result-sorted : (s : Setting) (v : ℕ) (a : FrameName) (f : Bool) (P : Past) (w : Work) → may_sort w ≡ true → is_sorted s v ≡ true
    → result s v a f P w ≡ sorted_result s v a (waiting s v P) (Put 0 v a.maker a.index f ∷ P)
result-sorted s v a f P Makes h sorted = rw sorted refl
result-sorted s v a f P (Passes d) h sorted = rw sorted refl
result-sorted s v a f P (Watches pre post preset) h sorted = absurd (false≢true h)
result-sorted s v a f P (Saves whole n) h sorted = absurd (false≢true h)

pub waiting-put : (s : Setting) (v r m i : ℕ) (f : Bool) (P : Past) → is_sorted s v ≡ true
    → waiting s v (Put r v m i f ∷ P) ≡ waiting s v P ++ record { array = frame m i; tick = now P } ∷ []
waiting-put s v r m i f P sorted = rw sorted (comes_here v (record { array = frame m i; tick = now P }) (waiting s v P))

waiting-put_elsewhere : (s : Setting) (v r w m i : ℕ) (f : Bool) (P : Past) → is_sorted s v ≡ true → w ≢ v → waiting s v (Put r w m i f ∷ P) ≡ waiting s v P
waiting-put_elsewhere s v r w m i f P sorted ne = rw sorted (comes_elsewhere v w (record { array = frame m i; tick = now P }) (waiting s v P) ne)

-- what is still to go out of a sorted node waits there
pub owed-waits : (s : Setting) (P : Past) (v : ℕ) (t : FrameName → Bool) → v ≢ 0 → is_sorted s v ≡ true → is_legal s P ≡ true
    → count (out_of v t) (owed s P) ≤ count (waits t) (waiting s v P)
owed-waits s [] v t nz sorted h = omega arith
owed-waits s (Put r w m i f ∷ P) v t nz sorted h =
    let none : owed s P ≡ [] = owed-first s (Put r w m i f) P (λ d. refl) h in
    let whole : count (out_of v t) (owed s (Put r w m i f ∷ P)) ≡ count (out_of v t) (calls_for s P (Put r w m i f)) + 0 =
    count-append (out_of v t) (calls_for s P (Put r w m i f)) (drop 1 (owed s P))
    ∙ ap (λ (ds : List Entry). count (out_of v t) (calls_for s P (Put r w m i f)) + count (out_of v t) (drop 1 ds)) none in
    elim (cases_Bool (eqb w v)) [
      | inl here ↦
          let is : w ≡ v = eqb-true w v here in
          subst (λ (u : ℕ). count (out_of v t) (owed s (Put r u m i f ∷ P)) ≤ count (waits t) (waiting s v (Put r u m i f ∷ P))) (sym is)
          (let whole_v : count (out_of v t) (owed s (Put r v m i f ∷ P)) ≡ count (out_of v t) (calls_for s P (Put r v m i f)) + 0 =
          count-append (out_of v t) (calls_for s P (Put r v m i f)) (drop 1 (owed s P))
          ∙ ap (λ (ds : List Entry). count (out_of v t) (calls_for s P (Put r v m i f)) + count (out_of v t) (drop 1 ds)) none in
          let as_sorted : calls_for s P (Put r v m i f) ≡ sorted_result s v (frame m i) (waiting s v P) (Put 0 v m i f ∷ P) =
          result-sorted s v (frame m i) f P (node s v).work (and_parts _ _ sorted).0 sorted in
          omega (
            arith,
            whole_v,
            ap (count (out_of v t)) as_sorted,
            count-sorted_result s v t (frame m i) (now P) (waiting s v P) (Put 0 v m i f ∷ P) (waiting-put s v 0 m i f P sorted),
            ap (count (waits t)) (waiting-put s v r m i f P sorted),
            ap (count (waits t)) (waiting-put s v 0 m i f P sorted),
          ))
      | inr away ↦
          let ne : w ≢ v = λ e. true≢false (sym (eq-eqb w v e) ∙ away) in
          omega (arith, whole, none_elsewhere w v t (calls_for s P (Put r w m i f)) ne (result-at s w (frame m i) f P (node s w).work))
    ]
owed-waits s (Emit w m i why ∷ P) v t nz sorted h =
    let legal : is_legal s P ≡ true = (and_parts _ _ h).0 in
    let was = owed-Emit_out s w m i why P v t h in
    let whole = count-append (out_of v t) (map (offer (frame m i)) (offered_to s P w)) (drop 1 (owed s P)) in
    elim (cases_Bool (eqb w v)) [
      | inl here ↦
          let there = owed-Emit_out s w m i why P v (λ x. same x (frame m i)) h in
          let some : 1 ≤ count (waits (λ x. same x (frame m i))) (waiting s v P) =
          omega (arith, owed-waits s P v (λ x. same x (frame m i)) nz sorted legal, there, ap bit (and_from _ _ here (same_refl (frame m i)))) in
          let hit : (eqb w v && t (frame m i)) ≡ t (frame m i) = ap (λ (x : Bool). x && t (frame m i)) here in
          let goes : waiting s v (Emit w m i why ∷ P) ≡ not_waiting (frame m i) (waiting s v P) = rw here refl in
          omega (
            arith,
            whole,
            no_outs_in_offers v t (frame m i) (offered_to s P w),
            was,
            ap bit hit,
            owed-waits s P v t nz sorted legal,
            removed (frame m i) t (waiting s v P) some,
            ap (count (waits t)) goes,
          )
      | inr away ↦
          let stays : waiting s v (Emit w m i why ∷ P) ≡ waiting s v P = rw away refl in
          omega (arith, whole, no_outs_in_offers v t (frame m i) (offered_to s P w), was, owed-waits s P v t nz sorted legal, ap (count (waits t)) stays)
    ]
owed-waits s (SortDrop w m i ∷ P) v t nz sorted h =
    let legal : is_legal s P ≡ true = (and_parts _ _ h).0 in
    let was = owed-SortDrop_out s w m i P v t h in
    elim (cases_Bool (eqb w v)) [
      | inl here ↦
          let there = owed-SortDrop_out s w m i P v (λ x. same x (frame m i)) h in
          let some : 1 ≤ count (waits (λ x. same x (frame m i))) (waiting s v P) =
          omega (arith, owed-waits s P v (λ x. same x (frame m i)) nz sorted legal, there, ap bit (and_from _ _ here (same_refl (frame m i)))) in
          let hit : (eqb w v && t (frame m i)) ≡ t (frame m i) = ap (λ (x : Bool). x && t (frame m i)) here in
          let goes : waiting s v (SortDrop w m i ∷ P) ≡ not_waiting (frame m i) (waiting s v P) = rw here refl in
          omega (arith, was, ap bit hit, owed-waits s P v t nz sorted legal, removed (frame m i) t (waiting s v P) some, ap (count (waits t)) goes)
      | inr away ↦
          let stays : waiting s v (SortDrop w m i ∷ P) ≡ waiting s v P = rw away refl in
          omega (arith, was, owed-waits s P v t nz sorted legal, ap (count (waits t)) stays)
    ]
owed-waits s (Tick u ∷ P) v t nz sorted h =
    let whole : count (out_of v t) (owed s (Tick u ∷ P)) ≡ count (out_of v t) (looks s (Tick u ∷ P) (node_numbers s)) + 0 =
    count-append (out_of v t) (looks s (Tick u ∷ P) (node_numbers s)) (drop 1 (owed s P))
    ∙ ap (λ (ds : List Entry). count (out_of v t) (looks s (Tick u ∷ P) (node_numbers s)) + count (out_of v t) ds) (owed-Tick s u P h) in
    let most : count (out_of v t) (looks s (Tick u ∷ P) (node_numbers s)) ≤ count (waits t) (waiting s v P) =
    subst (λ (b : Bool). count (out_of v t) (looks s (Tick u ∷ P) (node_numbers s)) ≤ cond b (count (waits t) (waiting s v P)) 0) sorted
    (looks-le s (Tick u ∷ P) v t (node_numbers s) (once_numbered s v)) in
    omega (arith, whole, most)
owed-waits s (Settle r w ∷ P) v t nz sorted h =
    let none : owed s P ≡ [] = owed-first s (Settle r w) P (λ d. refl) h in
    let whole : count (out_of v t) (owed s (Settle r w ∷ P)) ≡ count (out_of v t) (calls_for s P (Settle r w)) + 0 =
    count-append (out_of v t) (calls_for s P (Settle r w)) (drop 1 (owed s P))
    ∙ ap (λ (ds : List Entry). count (out_of v t) (calls_for s P (Settle r w)) + count (out_of v t) (drop 1 ds)) none in
    elim (cases_Bool (eqb w v)) [
      | inl here ↦
          let is : w ≡ v = eqb-true w v here in
          let calls : count (out_of v t) (calls_for s P (Settle r w)) ≡ count (waits t) (waiting s v P) =
          subst (λ (u : ℕ). count (out_of v t) (calls_for s P (Settle r u)) ≡ count (waits t) (waiting s v P)) (sym is)
          (count-flush v t (least_first s (waiting s v P)) ∙ count-least_first s (waits t) (waiting s v P)) in
          omega (arith, whole, calls)
      | inr away ↦
          let ne : w ≢ v = λ e. true≢false (sym (eq-eqb w v e) ∙ away) in
          omega (arith, whole, none_elsewhere w v t (calls_for s P (Settle r w)) ne (flush-at w (least_first s (waiting s w P))))
    ]
owed-waits s (Issue r i ∷ P) v t nz sorted h =
    let away : (eqb 0 v && t (frame 0 i)) ≡ false = ap (λ (x : Bool). x && t (frame 0 i)) (ne_eqb 0 v (λ e. nz (sym e))) in
    omega (
      arith,
      owed-waits s P v t nz sorted (and_parts _ _ h).0,
      count-cons (out_of v t) (Emit 0 0 i Plain) (drop 1 (owed s P)),
      ap bit away,
      count-drop (out_of v t) (owed s P),
    )
owed-waits s (_ ∷ P) v t nz sorted h = omega (arith, owed-waits s P v t nz sorted (and_parts _ _ h).0, count-drop (out_of v t) (owed s P))

pub puts-of_index : (v k : ℕ) (P : Past) → count (puts_of v (of_index k)) P ≡ count (puts_at v k) P
puts-of_index v k [] = refl
puts-of_index v k (Put r w m i f ∷ P) =
    omega (arith, puts-of_index v k P, count-cons (puts_of v (of_index k)) (Put r w m i f) P, count-cons (puts_at v k) (Put r w m i f) P)
puts-of_index v k (_ ∷ P) = puts-of_index v k P

-- what waits of the emission or drop that comes
pub drop-waits : (s : Setting) (v m i : ℕ) (P : Past) → v ≢ 0 → is_sorted s v ≡ true → is_legal s (SortDrop v m i ∷ P) ≡ true
    → 1 ≤ count (waits (λ x. same x (frame m i))) (waiting s v P)
drop-waits s v m i P nz sorted h =
    let there = owed-SortDrop_out s v m i P v (λ x. same x (frame m i)) h in
    omega (
      arith,
      owed-waits s P v (λ x. same x (frame m i)) nz sorted (and_parts _ _ h).0,
      there,
      ap bit (and_from _ _ (eq-eqb v v refl) (same_refl (frame m i))),
    )

emit-waits : (s : Setting) (v m i : ℕ) (why : Why) (P : Past) → v ≢ 0 → is_sorted s v ≡ true → is_legal s (Emit v m i why ∷ P) ≡ true
    → 1 ≤ count (waits (λ x. same x (frame m i))) (waiting s v P)
emit-waits s v m i why P nz sorted h =
    let there = owed-Emit_out s v m i why P v (λ x. same x (frame m i)) h in
    omega (
      arith,
      owed-waits s P v (λ x. same x (frame m i)) nz sorted (and_parts _ _ h).0,
      there,
      ap bit (and_from _ _ (eq-eqb v v refl) (same_refl (frame m i))),
    )

-- what was put at a sorted node went out, was dropped or waits
pub sorted-outs : (s : Setting) (P : Past) (v : ℕ) (t : FrameName → Bool) → v ≢ 0 → is_sorted s v ≡ true → is_legal s P ≡ true
    → count (out_of v t) P + count (waits t) (waiting s v P) ≡ count (puts_of v t) P
sorted-outs s [] v t nz sorted h = refl
sorted-outs s (Put r w m i f ∷ P) v t nz sorted h =
    let before = sorted-outs s P v t nz sorted (and_parts _ _ h).0 in
    let new : Waiting = record { array = frame m i; tick = now P } in
    elim (cases_Bool (eqb w v)) [
      | inl here ↦
          let goes : waiting s v (Put r w m i f ∷ P) ≡ waiting s v P ++ new ∷ [] =
          subst (λ (u : ℕ). waiting s v (Put r u m i f ∷ P) ≡ waiting s v P ++ new ∷ []) (sym (eqb-true w v here)) (waiting-put s v r m i f P sorted) in
          let hit : puts_of v t (Put r w m i f) ≡ t (frame m i) = ap (λ (x : Bool). x && t (frame m i)) here in
          omega (
            arith,
            before,
            ap (count (waits t)) goes,
            count-append (waits t) (waiting s v P) (new ∷ []),
            count-cons (waits t) new [],
            count-cons (puts_of v t) (Put r w m i f) P,
            ap bit hit,
          )
      | inr away ↦
          let miss : puts_of v t (Put r w m i f) ≡ false = ap (λ (x : Bool). x && t (frame m i)) away in
          omega (
            arith,
            before,
            ap (count (waits t)) (waiting-put_elsewhere s v r w m i f P sorted (eqb-false w v away)),
            count-cons (puts_of v t) (Put r w m i f) P,
            ap bit miss,
          )
    ]
sorted-outs s (Emit w m i why ∷ P) v t nz sorted h =
    let before = sorted-outs s P v t nz sorted (and_parts _ _ h).0 in
    elim (cases_Bool (eqb w v)) [
      | inl here ↦
          let some = emit-waits s v m i why P nz sorted (subst (λ (u : ℕ). is_legal s (Emit u m i why ∷ P) ≡ true) (eqb-true w v here) h) in
          let hit : out_of v t (Emit w m i why) ≡ t (frame m i) = ap (λ (x : Bool). x && t (frame m i)) here in
          let goes : waiting s v (Emit w m i why ∷ P) ≡ not_waiting (frame m i) (waiting s v P) = rw here refl in
          omega (arith, before, removed (frame m i) t (waiting s v P) some, ap (count (waits t)) goes, count-cons (out_of v t) (Emit w m i why) P, ap bit hit)
      | inr away ↦
          let miss : out_of v t (Emit w m i why) ≡ false = ap (λ (x : Bool). x && t (frame m i)) away in
          let stays : waiting s v (Emit w m i why ∷ P) ≡ waiting s v P = rw away refl in
          omega (arith, before, ap (count (waits t)) stays, count-cons (out_of v t) (Emit w m i why) P, ap bit miss)
    ]
sorted-outs s (SortDrop w m i ∷ P) v t nz sorted h =
    let before = sorted-outs s P v t nz sorted (and_parts _ _ h).0 in
    elim (cases_Bool (eqb w v)) [
      | inl here ↦
          let some = drop-waits s v m i P nz sorted (subst (λ (u : ℕ). is_legal s (SortDrop u m i ∷ P) ≡ true) (eqb-true w v here) h) in
          let hit : out_of v t (SortDrop w m i) ≡ t (frame m i) = ap (λ (x : Bool). x && t (frame m i)) here in
          let goes : waiting s v (SortDrop w m i ∷ P) ≡ not_waiting (frame m i) (waiting s v P) = rw here refl in
          omega (arith, before, removed (frame m i) t (waiting s v P) some, ap (count (waits t)) goes, count-cons (out_of v t) (SortDrop w m i) P, ap bit hit)
      | inr away ↦
          let miss : out_of v t (SortDrop w m i) ≡ false = ap (λ (x : Bool). x && t (frame m i)) away in
          let stays : waiting s v (SortDrop w m i ∷ P) ≡ waiting s v P = rw away refl in
          omega (arith, before, ap (count (waits t)) stays, count-cons (out_of v t) (SortDrop w m i) P, ap bit miss)
    ]
sorted-outs s (_ ∷ P) v t nz sorted h = sorted-outs s P v t nz sorted (and_parts _ _ h).0

pub sorted-emits : (s : Setting) (P : Past) (v k : ℕ) → v ≢ 0 → is_sorted s v ≡ true → is_legal s P ≡ true
    → count (emits_at v k) P + count (waits (of_index k)) (waiting s v P) ≤ count (puts_at v k) P
sorted-emits s P v k nz sorted h = omega (arith, sorted-outs s P v (of_index k) nz sorted h, emits-le v k P, puts-of_index v k P)

-- OTHER NODES

pub waiting-unsorted : (s : Setting) (v : ℕ) (P : Past) → is_sorted s v ≡ false → waiting s v P ≡ []
waiting-unsorted s v [] u = refl
waiting-unsorted s v (Put r w m i f ∷ P) u = rw u refl
waiting-unsorted s v (Emit w m i why ∷ P) u =
    elim (eqb w v) as (λ b. cond b (not_waiting (frame m i) (waiting s v P)) (waiting s v P) ≡ []) [
      | true ↦ ap (not_waiting (frame m i)) (waiting-unsorted s v P u)
      | false ↦ waiting-unsorted s v P u
    ]
waiting-unsorted s v (SortDrop w m i ∷ P) u =
    elim (eqb w v) as (λ b. cond b (not_waiting (frame m i) (waiting s v P)) (waiting s v P) ≡ []) [
      | true ↦ ap (not_waiting (frame m i)) (waiting-unsorted s v P u)
      | false ↦ waiting-unsorted s v P u
    ]
waiting-unsorted s v (_ ∷ P) u = waiting-unsorted s v P u

comes-length : {X Y : Type 0} (v w : ℕ) (x : X) (y : Y) (xs : List X) (ys : List Y) → length xs ≡ length ys
    → length (comes_at v w x xs) ≡ length (comes_at v w y ys)
comes-length v w x y xs ys h =
    elim (eqb w v) as (λ b. length (cond b (xs ++ x ∷ []) xs) ≡ length (cond b (ys ++ y ∷ []) ys)) [
      | true ↦ omega (arith, h, length-append xs (x ∷ []), length-append ys (y ∷ []))
      | false ↦ h
    ]

-- each put has its flag
pub flags-puts : (v : ℕ) (P : Past) → length (firings v P) ≡ length (puts v P)
flags-puts v [] = refl
flags-puts v (Put r w m i f ∷ P) = comes-length v w f (frame m i) (firings v P) (puts v P) (flags-puts v P)
flags-puts v (_ ∷ P) = flags-puts v P

-- what a node that isn't sorted keeps in its ring, settled or not
abbrev pub kept_at : Setting → ℕ → Past → List FrameName
kept_at s v P = ring_of (node s v).work (firings v P) (puts v P)

ring-le : (s : Setting) (v : ℕ) (P : Past) (q : FrameName → Bool) → count q (ring s v P) ≤ count q (kept_at s v P)
ring-le s v P q = elim (is_settled v P) as (λ b. count q (cond b [] (kept_at s v P)) ≤ count q (kept_at s v P)) [ true ↦ omega arith | false ↦ omega arith ]

emits-map : (v : ℕ) (t : FrameName → Bool) (why : Why) (xs : List FrameName) → count (out_of v t) (map (emit v why) xs) ≡ count t xs
emits-map v t why [] = refl
emits-map v t why (x ∷ xs) =
    let hit : out_of v t (emit v why x) ≡ t x = ap (λ (b : Bool). b && t x) (eq-eqb v v refl) in
    omega (arith, emits-map v t why xs, count-cons (out_of v t) (emit v why x) (map (emit v why) xs), ap bit hit, count-cons t x xs)

emits-one : (v : ℕ) (t : FrameName → Bool) (why : Why) (a : FrameName) → count (out_of v t) (emit v why a ∷ []) ≡ bit (t a)
emits-one v t why a =
    let hit : out_of v t (emit v why a) ≡ t a = ap (λ (b : Bool). b && t a) (eq-eqb v v refl) in
    omega (arith, count-cons (out_of v t) (emit v why a) [], ap bit hit)

watched-count : (v : ℕ) (t : FrameName → Bool) (a : FrameName) (xs : List FrameName) (b c : Bool)
    → count (out_of v t) (cond b (map (emit v Ring) xs) [] ++ cond c (emit v Now a ∷ []) []) ≡ cond b (count t xs) 0 + cond c (bit (t a)) 0
watched-count v t a xs true true =
    count-append (out_of v t) (map (emit v Ring) xs) (emit v Now a ∷ []) ∙ omega (arith, emits-map v t Ring xs, emits-one v t Now a)
watched-count v t a xs true false = count-append (out_of v t) (map (emit v Ring) xs) [] ∙ omega (arith, emits-map v t Ring xs)
watched-count v t a xs false true = omega (arith, emits-one v t Now a)
watched-count v t a xs false false = refl

cond-le : (b : Bool) (m n : ℕ) → m ≤ n → cond b m 0 ≤ cond b n 0
cond-le true m n h = h
cond-le false m n h = omega arith

-- what a put sends out and leaves in the ring
result-unsorted : (s : Setting) (v : ℕ) (t : FrameName → Bool) (a : FrameName) (f : Bool) (P : Past) (w : Work) → is_sorted s v ≡ false
    → length (firings v P) ≡ length (puts v P) → count t (ring s v P) ≤ count t (ring_of w (firings v P) (puts v P))
    → count (out_of v t) (result s v a f P w) + count t (ring_of w (firings v P ++ f ∷ []) (puts v P ++ a ∷ []))
    ≤ bit (t a) + count t (ring_of w (firings v P) (puts v P))
result-unsorted s v t a f P Makes u long le =
    let plain : result s v a f P Makes ≡ emit v Plain a ∷ [] = rw u refl in omega (arith, ap (count (out_of v t)) plain, emits-one v t Plain a)
result-unsorted s v t a f P (Passes d) u long le =
    let plain : result s v a f P (Passes d) ≡ emit v Plain a ∷ [] = rw u refl in omega (arith, ap (count (out_of v t)) plain, emits-one v t Plain a)
result-unsorted s v t a f P (Saves whole n) u long le = omega arith
result-unsorted s v t a f P (Watches pre post preset) u long le =
    let flags : List Bool = firings v P in
    let xs : List FrameName = puts v P in
    let b : Bool = is_trigger post preset (flags ++ f ∷ []) (length flags) in
    let c : Bool = is_passed pre post preset (flags ++ f ∷ []) (length flags) in
    let sent = watched-count v t a (ring s v P) b c in
    omega (arith, sent, cond-le b (count t (ring s v P)) (count t (kept pre post preset flags xs)) le, ring-push pre post preset flags f t xs a long)

empty_ring : (t : FrameName → Bool) (w : Work) → count t (ring_of w [] []) ≡ 0
empty_ring t Makes = refl
empty_ring t (Passes d) = refl
empty_ring t (Saves whole n) = refl
empty_ring t (Watches pre post preset) = ap (count t) (kept-nothing pre post preset)

unsorted-none : (s : Setting) (v : ℕ) (t : FrameName → Bool) → 0 + 0 + count t (ring_of (node s v).work [] []) ≤ 0
unsorted-none s v t = omega (arith, empty_ring t (node s v).work)

-- what went out of a node that isn't sorted, what will, and its ring were put
pub unsorted-outs : (s : Setting) (P : Past) (v : ℕ) (t : FrameName → Bool) → v ≢ 0 → is_sorted s v ≡ false → is_legal s P ≡ true
    → count (out_of v t) P + count (out_of v t) (owed s P) + count t (kept_at s v P) ≤ count (puts_of v t) P
unsorted-outs s [] v t nz u h = unsorted-none s v t
unsorted-outs s (Put r w m i f ∷ P) v t nz u h =
    let before = unsorted-outs s P v t nz u (and_parts _ _ h).0 in
    let none : owed s P ≡ [] = owed-first s (Put r w m i f) P (λ d. refl) h in
    elim (cases_Bool (eqb w v)) [
      | inl here ↦
          let is : w ≡ v = eqb-true w v here in
          subst (λ (x : ℕ). count (out_of v t) P + count (out_of v t) (owed s (Put r x m i f ∷ P)) + count t (kept_at s v (Put r x m i f ∷ P))
          ≤ count (puts_of v t) (Put r x m i f ∷ P)) (sym is)
          (let whole : count (out_of v t) (owed s (Put r v m i f ∷ P)) ≡ count (out_of v t) (calls_for s P (Put r v m i f)) + 0 =
          count-append (out_of v t) (calls_for s P (Put r v m i f)) (drop 1 (owed s P))
          ∙ ap (λ (ds : List Entry). count (out_of v t) (calls_for s P (Put r v m i f)) + count (out_of v t) (drop 1 ds)) none in
          let flags : firings v (Put r v m i f ∷ P) ≡ firings v P ++ f ∷ [] = comes_here v f (firings v P) in
          let arrays : puts v (Put r v m i f ∷ P) ≡ puts v P ++ frame m i ∷ [] = comes_here v (frame m i) (puts v P) in
          let after : kept_at s v (Put r v m i f ∷ P) ≡ ring_of (node s v).work (firings v P ++ f ∷ []) (puts v P ++ frame m i ∷ []) =
          ap (λ (fs : List Bool). ring_of (node s v).work fs (puts v (Put r v m i f ∷ P))) flags
          ∙ ap (λ (xs : List FrameName). ring_of (node s v).work (firings v P ++ f ∷ []) xs) arrays in
          let hit : puts_of v t (Put r v m i f) ≡ t (frame m i) = ap (λ (x : Bool). x && t (frame m i)) (eq-eqb v v refl) in
          omega (
            arith,
            before,
            whole,
            ap (count t) after,
            result-unsorted s v t (frame m i) f P (node s v).work u (flags-puts v P) (ring-le s v P t),
            count-cons (puts_of v t) (Put r v m i f) P,
            ap bit hit,
          ))
      | inr away ↦
          let ne : w ≢ v = λ e. true≢false (sym (eq-eqb w v e) ∙ away) in
          let whole = count-append (out_of v t) (calls_for s P (Put r w m i f)) (drop 1 (owed s P)) in
          let flags : firings v (Put r w m i f ∷ P) ≡ firings v P = comes_elsewhere v w f (firings v P) ne in
          let arrays : puts v (Put r w m i f ∷ P) ≡ puts v P = comes_elsewhere v w (frame m i) (puts v P) ne in
          let after : kept_at s v (Put r w m i f ∷ P) ≡ kept_at s v P =
          ap (λ (fs : List Bool). ring_of (node s v).work fs (puts v (Put r w m i f ∷ P))) flags
          ∙ ap (λ (xs : List FrameName). ring_of (node s v).work (firings v P) xs) arrays in
          omega (
            arith,
            before,
            whole,
            none_elsewhere w v t (calls_for s P (Put r w m i f)) ne (result-at s w (frame m i) f P (node s w).work),
            count-drop (out_of v t) (owed s P),
            ap (count t) after,
            count-cons (puts_of v t) (Put r w m i f) P,
          )
    ]
unsorted-outs s (Emit w m i why ∷ P) v t nz u h =
    omega (
      arith,
      unsorted-outs s P v t nz u (and_parts _ _ h).0,
      owed-Emit_out s w m i why P v t h,
      count-append (out_of v t) (map (offer (frame m i)) (offered_to s P w)) (drop 1 (owed s P)),
      no_outs_in_offers v t (frame m i) (offered_to s P w),
      count-cons (out_of v t) (Emit w m i why) P,
    )
unsorted-outs s (SortDrop w m i ∷ P) v t nz u h =
    omega (arith, unsorted-outs s P v t nz u (and_parts _ _ h).0, owed-SortDrop_out s w m i P v t h, count-cons (out_of v t) (SortDrop w m i) P)
unsorted-outs s (Tick z ∷ P) v t nz u h =
    let none : count (out_of v t) (looks s (Tick z ∷ P) (node_numbers s)) ≤ 0 =
    subst (λ (b : Bool). count (out_of v t) (looks s (Tick z ∷ P) (node_numbers s)) ≤ cond b (count (waits t) (waiting s v P)) 0) u
    (looks-le s (Tick z ∷ P) v t (node_numbers s) (once_numbered s v)) in
    omega (
      arith,
      unsorted-outs s P v t nz u (and_parts _ _ h).0,
      count-append (out_of v t) (calls_for s P (Tick z)) (drop 1 (owed s P)),
      none,
      count-drop (out_of v t) (owed s P),
    )
unsorted-outs s (Settle r w ∷ P) v t nz u h =
    let whole = count-append (out_of v t) (calls_for s P (Settle r w)) (drop 1 (owed s P)) in
    elim (cases_Bool (eqb w v)) [
      | inl here ↦
          let is : w ≡ v = eqb-true w v here in
          let calls : calls_for s P (Settle r w) ≡ [] =
          ap (λ (x : ℕ). calls_for s P (Settle r x)) is
          ∙ ap (λ (ws : List Waiting). map (λ (x : Waiting). emit v Flush x.array) (least_first s ws)) (waiting-unsorted s v P u) in
          omega (arith, unsorted-outs s P v t nz u (and_parts _ _ h).0, whole, ap (count (out_of v t)) calls, count-drop (out_of v t) (owed s P))
      | inr away ↦
          let ne : w ≢ v = λ e. true≢false (sym (eq-eqb w v e) ∙ away) in
          omega (
            arith,
            unsorted-outs s P v t nz u (and_parts _ _ h).0,
            whole,
            none_elsewhere w v t (calls_for s P (Settle r w)) ne (flush-at w (least_first s (waiting s w P))),
            count-drop (out_of v t) (owed s P),
          )
    ]
unsorted-outs s (Issue r i ∷ P) v t nz u h =
    let away : (eqb 0 v && t (frame 0 i)) ≡ false = ap (λ (x : Bool). x && t (frame 0 i)) (ne_eqb 0 v (λ e. nz (sym e))) in
    omega (
      arith,
      unsorted-outs s P v t nz u (and_parts _ _ h).0,
      count-cons (out_of v t) (Emit 0 0 i Plain) (drop 1 (owed s P)),
      ap bit away,
      count-drop (out_of v t) (owed s P),
    )
unsorted-outs s (_ ∷ P) v t nz u h = omega (arith, unsorted-outs s P v t nz u (and_parts _ _ h).0, count-drop (out_of v t) (owed s P))

-- so no more goes out of a node than was put there
pub outs-puts : (s : Setting) (P : Past) (v : ℕ) (t : FrameName → Bool) → v ≢ 0 → is_legal s P ≡ true → count (out_of v t) P ≤ count (puts_of v t) P
outs-puts s P v t nz h =
    elim (cases_Bool (is_sorted s v)) [
      | inl sorted ↦ omega (arith, sorted-outs s P v t nz sorted h)
      | inr unsorted ↦ omega (arith, unsorted-outs s P v t nz unsorted h)
    ]

pub emits-puts : (s : Setting) (P : Past) (v k : ℕ) → v ≢ 0 → is_legal s P ≡ true → count (emits_at v k) P ≤ count (puts_at v k) P
emits-puts s P v k nz h = omega (arith, outs-puts s P v (of_index k) nz h, emits-le v k P, puts-of_index v k P)
