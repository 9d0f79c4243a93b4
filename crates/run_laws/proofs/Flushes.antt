-- Where something is flushed the node's input has ended.
use Rattle.std.proofs.Common.{◌≡◌, ℕ, Bool, true, false, eqb, List, [], ◌∷◌, ◌++◌, map, drop, length, refl, sym, ap, ◌∙◌, subst, arith, inl, inr}
use Rattle.std.proofs.lemmas.Bool.{and_parts, or_parts, false≢true, true≢false, eq-eqb, eqb-true, cases_Bool}
use Rattle.nd_base.specs.declared.frame.FrameName.{FrameName}
use Rattle.flow_journal.specs.declared.entry.Entry.{Entry}
use Rattle.flow_journal.specs.declared.entry.Entry.TheVariants.{Tick, Emit, Put, Settle}
use Rattle.flow_journal.specs.declared.entry.Why.{Why}
use Rattle.flow_journal.specs.declared.entry.Why.TheVariants.{Flush}
use Rattle.flow_journal.specs.Setting.{Setting, node, id_at, is_sorted, node_numbers}
use Rattle.flow_journal.specs.Turns.{offered_to}
use Rattle.flow_journal.specs.Pasts.{Past, frame}
use Rattle.flow_journal.specs.Ended.{now, has_ended, closes, is_closed, settles, is_settled}
use Rattle.flow_journal.specs.Waiting.{Waiting, waiting, least_first}
use Rattle.queue_sort.specs.Sorting.{keeps_step}
use Rattle.flow_journal.specs.Breaks.{prev}
use Rattle.flow_journal.specs.Following.{emit, sorted_result, result, calls_for, owed}
use Rattle.flow_journal.specs.Histories.{is_legal, why_number}
use Rattle.flow_journal.proofs.Histories.{legal-front}
use Rattle.flow_journal.proofs.Rows.{row_laws}
use Rattle.flow_journal.proofs.Hands.{row_of}
use Rattle.flow_journal.proofs.EntryCounts.{count, bit, count-cons, count-append, count-drop, owed-answered}
use Rattle.flow_journal.proofs.Emissions.{result-sorted}
use Rattle.run_laws.proofs.Steps.{emit-answers}
use Rattle.run_laws.proofs.Calls.{Misses, MissesLooks, none-goes_out, none-look, none-looks, none-offers, none-unsorted}

-- the entry is an emission of v that is marked flush
abbrev flushes : ℕ → Entry → Bool
flushes v (Emit w m k Flush) = eqb w v
flushes v _ = false

misses : (v : ℕ) → Misses (flushes v)
misses v = record { offers = λ a c. refl; plain = λ u a. refl; rings = λ u a. refl; nows = λ u a. refl }

misses_looks : (v : ℕ) → MissesLooks (flushes v)
misses_looks v = record { step = λ u a. refl; late = λ u a. refl }

none-sorted : (s : Setting) (v u : ℕ) (a : FrameName) (before : List Waiting) (P : Past) → count (flushes v) (sorted_result s u a before P) ≡ 0
none-sorted s v u a before P =
    elim (cases_Bool (keeps_step (prev s u P) (id_at s a.index))) [
      | inl step ↦ rw step (none-goes_out (flushes v) (misses_looks v) s u (id_at s a.index) (now P) (least_first s before))
      | inr out ↦ elim (cases_Bool (eqb (length before) (node s u).sort)) [
        | inl full ↦ rw (out, full) (none-goes_out (flushes v) (misses_looks v) s u (prev s u P) (now P) (least_first s before))
        | inr room ↦ rw (out, room) (none-look (flushes v) (misses_looks v) s u P)
      ]
    ]

none-result : (s : Setting) (v u : ℕ) (a : FrameName) (f : Bool) (P : Past) → count (flushes v) (result s u a f P (node s u).work) ≡ 0
none-result s v u a f P =
    elim (cases_Bool (is_sorted s u)) [
      | inr plain ↦ none-unsorted (flushes v) (misses v) s u a f P (node s u).work plain
      | inl sorted ↦
          omega (
            arith,
            ap (count (flushes v)) (result-sorted s u a f P (node s u).work (and_parts _ _ sorted).0 sorted),
            none-sorted s v u a (waiting s u P) (Put 0 u a.maker a.index f ∷ P),
          )
    ]

none-elsewhere : (v w : ℕ) (ws : List Waiting) → eqb w v ≡ false → count (flushes v) (map (λ (u : Waiting). emit w Flush u.array) ws) ≡ 0
none-elsewhere v w [] away = refl
none-elsewhere v w (u ∷ us) away =
    omega (arith, none-elsewhere v w us away, count-cons (flushes v) (emit w Flush u.array) (map (λ (u : Waiting). emit w Flush u.array) us), ap bit away)

-- what hasn't ended hadn't before
not_before : (u : ℕ) (e : Entry) (P : Past) → has_ended u (e ∷ P) ≡ false → has_ended u P ≡ false
not_before u e P h =
    elim (cases_Bool (eqb u 0)) [
      | inl driver ↦ rw driver (or_parts (closes e) (is_closed P) (rw driver at h)).1
      | inr other ↦ rw other (or_parts (settles u e) (is_settled u P) (rw other at h)).1
    ]

both-none : (v : ℕ) (xs ys : List Entry) → count (flushes v) xs ≡ 0 → count (flushes v) ys ≡ 0 → count (flushes v) (xs ++ drop 1 ys) ≡ 0
both-none v xs ys a b = omega (arith, count-append (flushes v) xs (drop 1 ys), a, b, count-drop (flushes v) ys)

-- until the input has ended no flush is owed
none-owed : (s : Setting) (P : Past) (v : ℕ) → has_ended (node s v).input P ≡ false → is_legal s P ≡ true → count (flushes v) (owed s P) ≡ 0
none-owed s [] v open_ h = refl
none-owed s (Tick t ∷ P) v open_ h =
    both-none v (calls_for s P (Tick t)) (owed s P) (none-looks (flushes v) (misses_looks v) s (Tick t ∷ P) (node_numbers s))
    (none-owed s P v (not_before (node s v).input (Tick t) P open_) (and_parts _ _ h).0)
none-owed s (Emit w i j why ∷ P) v open_ h =
    both-none v (calls_for s P (Emit w i j why)) (owed s P) (none-offers (flushes v) (misses v) (frame i j) (offered_to s P w))
    (none-owed s P v (not_before (node s v).input (Emit w i j why) P open_) (and_parts _ _ h).0)
none-owed s (Put r w i j f ∷ P) v open_ h =
    both-none v (calls_for s P (Put r w i j f)) (owed s P) (none-result s v w (frame i j) f P)
    (none-owed s P v (not_before (node s v).input (Put r w i j f) P open_) (and_parts _ _ h).0)
none-owed s (Settle r w ∷ P) v open_ h =
    let before : has_ended (node s v).input P ≡ false = not_before (node s v).input (Settle r w) P open_ in
    elim (cases_Bool (eqb w v)) [
      | inl here ↦
          let ended : has_ended (node s w).input P ≡ true = ((row_laws.settle s P r w).0 (row_of s (Settle r w) P (λ d. refl) h)).1.input in
          absurd (true≢false (sym (subst (λ (u : ℕ). has_ended (node s u).input P ≡ true) (eqb-true w v here) ended) ∙ before))
      | inr away ↦
          both-none v (calls_for s P (Settle r w)) (owed s P) (none-elsewhere v w (least_first s (waiting s w P)) away)
          (none-owed s P v before (and_parts _ _ h).0)
    ]
none-owed s (e ∷ P) v open_ h = both-none v (calls_for s P e) (owed s P) refl (none-owed s P v (not_before (node s v).input e P open_) (and_parts _ _ h).0)

flush_mark : (how : Why) → eqb (why_number how) (why_number Flush) ≡ true → how ≡ Flush
flush_mark Flush h = refl
flush_mark _ h = absurd (false≢true h)

pub flush-ended : (s : Setting) (newer P : Past) (v m k : ℕ) → is_legal s (newer ++ Emit v m k Flush ∷ P) ≡ true → has_ended (node s v).input P ≡ true
flush-ended s newer P v m k all =
    let h : is_legal s (Emit v m k Flush ∷ P) ≡ true = legal-front s newer (Emit v m k Flush ∷ P) all in
    elim (cases_Bool (has_ended (node s v).input P)) [
      | inl ended ↦ ended
      | inr open_ ↦
          let a = owed-answered s (Emit v m k Flush) P refl h in
          let x = emit-answers s P v m k Flush a.head a.answer in
          let is : a.head ≡ Emit v m k Flush = x.1 ∙ ap (Emit v m k) (flush_mark x.0 x.2) in
          let hit : bit (flushes v a.head) ≡ 1 = ap (λ (d : Entry). bit (flushes v d)) is ∙ ap bit (eq-eqb v v refl) in
          absurd (omega (arith, hit, ap (count (flushes v)) a.is, count-cons (flushes v) a.head a.rest, none-owed s P v open_ (and_parts _ _ h).0))
    ]
