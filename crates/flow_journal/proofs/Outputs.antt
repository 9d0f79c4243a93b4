-- What went out of a node without a sort list, and what must still go out of it.
use Rattle.std.proofs.Common.{◌≡◌, ◌≢◌, ℕ, ◌+◌, ◌≤◌, Bool, true, false, ◌&&◌, cond, eqb, List, [], ◌∷◌, ◌++◌, map, length, drop, refl, sym, ap, ◌∙◌, subst}
use Rattle.std.proofs.Common.{arith, inl, inr}
use Rattle.std.specs.Prelude.{flat_map}
use Rattle.std.specs.List.{list_all}
use Rattle.std.proofs.lemmas.Bool.{and_parts, true≢false, false≢true, eqb-true, eqb-false, cases_Bool}
use Rattle.std.proofs.lemmas.List.{append-nil, append_assoc}
use Rattle.nd_base.specs.declared.frame.FrameName.{FrameName}
use Rattle.trig_window.specs.Windows.{is_trigger, is_passed, passed_items}
use Rattle.trig_window.specs.WindowLaws.{passed_items-push}
use Rattle.flow_journal.specs.declared.entry.Entry.{Entry}
use Rattle.flow_journal.specs.declared.entry.Entry.TheVariants.{Load, LoadRefused, Tick, Issue, Emit, Accept, Full, Take, TakeBlock, PoolDrop, Put}
use Rattle.flow_journal.specs.declared.entry.Entry.TheVariants.{SortDrop, Settle, Save, Saved, Close, Leave, Reclaim}
use Rattle.flow_journal.specs.declared.entry.Why.{Why}
use Rattle.flow_journal.specs.declared.entry.Why.TheVariants.{Plain, Flush, Ring, Now}
use Rattle.flow_journal.specs.Setting.{Setting, Work, Makes, Passes, Watches, Saves, node, may_sort, is_sorted, node_numbers}
use Rattle.flow_journal.specs.Turns.{offered_to}
use Rattle.flow_journal.specs.Pasts.{Past, frame, same, comes_at}
use Rattle.flow_journal.specs.Puts.{puts, firings}
use Rattle.flow_journal.specs.Waiting.{Waiting, waiting, least_first}
use Rattle.flow_journal.specs.Rings.{ring}
use Rattle.flow_journal.specs.QueueCounts.{times}
use Rattle.flow_journal.specs.Accepted.{emitted}
use Rattle.flow_journal.specs.Following.{offer, emit, look, result, calls_for, owed}
use Rattle.flow_journal.specs.Histories.{answers, is_legal, is_history, is_nothing}
use Rattle.flow_journal.specs.Pushes.{is_nothing-true}
use Rattle.flow_journal.specs.OutputLaws.{sort_dropped, issued, OutputLaws}
use Rattle.flow_journal.proofs.Steps.{comes_here, comes_elsewhere}
use Rattle.flow_journal.proofs.Hands.{row_of}
use Rattle.flow_journal.proofs.Counts.{times_by}
use Rattle.flow_journal.proofs.EntryCounts.{count, bit, count-cons, count-append, puts_of, owed-first, owed-answered, answers-by_Emit, answers-by_Accept}
use Rattle.flow_journal.proofs.EntryCounts.{answers-by_SortDrop, answers-by_Tick}
use Rattle.flow_journal.proofs.Outs.{out_of, waits, is_out_at, AllOutAt, flush-at, goes_out-at, result-at}
use Rattle.flow_journal.proofs.Issues.{puts_at_node}
use Rattle.flow_journal.proofs.Emissions.{sorted-outs, waiting-unsorted, flags-puts}
use Rattle.flow_journal.proofs.LastOuts.{any_array, none_out}
use Rattle.flow_journal.proofs.Settled.{put-unsettled}
use Rattle.flow_journal.proofs.Changes.{ring_laws}

-- the arrays that these let out of the node
abbrev outs_of : ℕ → List Entry → List FrameName
outs_of v [] = []
outs_of v (Emit w m k why ∷ ds) = comes_at v w (frame m k) [] ++ outs_of v ds
outs_of v (d ∷ ds) = outs_of v ds

outs-append : (v : ℕ) (ds es : List Entry) → outs_of v (ds ++ es) ≡ outs_of v ds ++ outs_of v es
outs-append v [] es = refl
outs-append v (Emit w m k why ∷ ds) es =
    ap (λ (xs : List FrameName). comes_at v w (frame m k) [] ++ xs) (outs-append v ds es)
    ∙ sym (append_assoc (comes_at v w (frame m k) []) (outs_of v ds) (outs_of v es))
outs-append v (_ ∷ ds) es = outs-append v ds es

outs-elsewhere : (u v : ℕ) (ds : List Entry) → u ≢ v → AllOutAt u ds → outs_of v ds ≡ []
outs-elsewhere u v [] ne h = refl
outs-elsewhere u v (Emit w m k why ∷ ds) ne h =
    let p = and_parts (eqb w u) (list_all (is_out_at u) ds) h in
    let other : w ≢ v = λ e. ne (sym (eqb-true w u p.0) ∙ e) in
    ap (λ (xs : List FrameName). xs ++ outs_of v ds) (comes_elsewhere v w (frame m k) [] other) ∙ outs-elsewhere u v ds ne p.1
outs-elsewhere u v (d ∷ ds) ne h = outs-elsewhere u v ds ne (and_parts (is_out_at u d) (list_all (is_out_at u) ds) h).1

outs-offers : (v : ℕ) (a : FrameName) (cs : List ℕ) → outs_of v (map (offer a) cs) ≡ []
outs-offers v a [] = refl
outs-offers v a (c ∷ cs) = outs-offers v a cs

outs-emits : (v : ℕ) (why : Why) (xs : List FrameName) → outs_of v (map (emit v why) xs) ≡ xs
outs-emits v why [] = refl
outs-emits v why (x ∷ xs) =
    ap (λ (ys : List FrameName). ys ++ outs_of v (map (emit v why) xs)) (comes_here v x []) ∙ ap (λ (ys : List FrameName). x ∷ ys) (outs-emits v why xs)

-- a look at sorted nodes lets nothing out of an unsorted one
outs-looks : (s : Setting) (v : ℕ) (P : Past) (us : List ℕ) → is_sorted s v ≡ false → outs_of v (flat_map (λ u. cond (is_sorted s u) (look s u P) []) us) ≡ []
outs-looks s v P [] plain = refl
outs-looks s v P (u ∷ us) plain =
    outs-append v (cond (is_sorted s u) (look s u P) []) (flat_map (λ w. cond (is_sorted s w) (look s w P) []) us)
    ∙ (ap (λ (xs : List FrameName). xs ++ outs_of v (flat_map (λ w. cond (is_sorted s w) (look s w P) []) us)) one_look ∙ outs-looks s v P us plain)
  where
    one_look : outs_of v (cond (is_sorted s u) (look s u P) []) ≡ []
    one_look =
        elim (cases_Bool (is_sorted s u)) [
          | inl sorted ↦
              let other : u ≢ v = λ e. true≢false (sym sorted ∙ (ap (is_sorted s) e ∙ plain)) in
              rw sorted (outs-elsewhere u v (look s u P) other (goes_out-at s u _ _ _))
          | inr off ↦ rw off refl
        ]

-- what went out and must still go out
abbrev so_far : Setting → ℕ → Past → List FrameName
so_far s v P = emitted v P ++ outs_of v (owed s P)

-- an entry that begins a move adds what it calls for
begun : (s : Setting) (v : ℕ) (e : Entry) (P : Past) → owed s P ≡ [] → emitted v (e ∷ P) ≡ emitted v P
    → so_far s v (e ∷ P) ≡ so_far s v P ++ outs_of v (calls_for s P e)
begun s v e P none same =
    let calls : List Entry = calls_for s P e in
    let now_owed : owed s (e ∷ P) ≡ calls = ap (λ (ds : List Entry). calls ++ drop 1 ds) none ∙ append-nil calls in
    let was : so_far s v P ≡ emitted v P = ap (λ (ds : List Entry). emitted v P ++ outs_of v ds) none ∙ append-nil (emitted v P) in
    ap (λ (xs : List FrameName). xs ++ outs_of v (owed s (e ∷ P))) same
    ∙ (ap (λ (ds : List Entry). emitted v P ++ outs_of v ds) now_owed ∙ ap (λ (xs : List FrameName). xs ++ outs_of v calls) (sym was))

begun-still : (s : Setting) (v : ℕ) (e : Entry) (P : Past) → owed s P ≡ [] → emitted v (e ∷ P) ≡ emitted v P → outs_of v (calls_for s P e) ≡ []
    → so_far s v (e ∷ P) ≡ so_far s v P
begun-still s v e P none same quiet = begun s v e P none same ∙ (ap (λ (xs : List FrameName). so_far s v P ++ xs) quiet ∙ append-nil (so_far s v P))

-- one that was owed, and calls for no more of the node
went_on : (s : Setting) (v : ℕ) (e head : Entry) (rest : List Entry) (P : Past) → owed s P ≡ head ∷ rest → outs_of v (calls_for s P e) ≡ []
    → emitted v (e ∷ P) ≡ emitted v P ++ outs_of v (head ∷ []) → so_far s v (e ∷ P) ≡ so_far s v P
went_on s v e head rest P is quiet more =
    let left : drop 1 (owed s P) ≡ rest = ap (drop 1) is in
    let now_owed : outs_of v (owed s (e ∷ P)) ≡ outs_of v rest =
    outs-append v (calls_for s P e) (drop 1 (owed s P)) ∙ (ap (λ (xs : List FrameName). xs ++ outs_of v (drop 1 (owed s P))) quiet ∙ ap (outs_of v) left) in
    let was : so_far s v P ≡ emitted v P ++ (outs_of v (head ∷ []) ++ outs_of v rest) =
    ap (λ (ds : List Entry). emitted v P ++ outs_of v ds) is ∙ ap (λ (xs : List FrameName). emitted v P ++ xs) (outs-append v (head ∷ []) rest) in
    ap (λ (xs : List FrameName). xs ++ outs_of v (owed s (e ∷ P))) more
    ∙ (ap (λ (xs : List FrameName). (emitted v P ++ outs_of v (head ∷ [])) ++ xs) now_owed
    ∙ (append_assoc (emitted v P) (outs_of v (head ∷ [])) (outs_of v rest) ∙ sym was))

-- no array goes out by this one
abbrev lets_none_out : Entry → Bool
lets_none_out (Emit w m k why) = false
lets_none_out _ = true

quiet_out : (v : ℕ) (d : Entry) → lets_none_out d ≡ true → outs_of v (d ∷ []) ≡ []
quiet_out v (Emit w m k why) h = absurd (false≢true h)
quiet_out v _ h = refl

-- the entry is a put at the node, or an issue
abbrev puts_here : ℕ → Entry → Bool
puts_here v (Put r w m k f) = eqb w v
puts_here v (Issue r k) = true
puts_here v _ = false

-- what a node without a sort list has to let out by its puts, and the driver by its issues
record Target (s : Setting) (v : ℕ) (T : Past → List FrameName) : Type 0 where
  start : T [] ≡ []
  put : (r m k : ℕ) (f : Bool) (P : Past) → is_legal s (Put r v m k f ∷ P) ≡ true → T (Put r v m k f ∷ P) ≡ T P ++ outs_of v (calls_for s P (Put r v m k f))
  issue : (r k : ℕ) (P : Past) → T (Issue r k ∷ P) ≡ T P ++ outs_of v (calls_for s P (Issue r k))
  others : (e : Entry) (P : Past) → puts_here v e ≡ false → T (e ∷ P) ≡ T P

outputs : (s : Setting) (v : ℕ) (T : Past → List FrameName) → is_sorted s v ≡ false → Target s v T → (P : Past) → is_legal s P ≡ true → so_far s v P ≡ T P
outputs s v T plain t [] h = sym t.start
outputs s v T plain t (Put r w m k f ∷ P) h =
    let legal : is_legal s P ≡ true = (and_parts _ _ h).0 in
    let none : owed s P ≡ [] = owed-first s (Put r w m k f) P (λ d. refl) h in
    elim (cases_Bool (eqb w v)) [
      | inl here ↦
          subst (λ (u : ℕ). is_legal s (Put r u m k f ∷ P) ≡ true → so_far s v (Put r u m k f ∷ P) ≡ T (Put r u m k f ∷ P)) (sym (eqb-true w v here))
          (λ g. begun s v (Put r v m k f) P none refl
          ∙ (ap (λ (xs : List FrameName). xs ++ outs_of v (calls_for s P (Put r v m k f))) (outputs s v T plain t P legal) ∙ sym (t.put r m k f P g))) h
      | inr away ↦
          begun-still s v (Put r w m k f) P none refl
          (outs-elsewhere w v (calls_for s P (Put r w m k f)) (eqb-false w v away) (result-at s w (frame m k) f P (node s w).work))
          ∙ (outputs s v T plain t P legal ∙ sym (t.others (Put r w m k f) P away))
    ]
outputs s v T plain t (Emit w m k why ∷ P) h =
    let legal : is_legal s P ≡ true = (and_parts _ _ h).0 in
    let a = owed-answered s (Emit w m k why) P refl h in
    let is = answers-by_Emit s P w m k why a.head a.answer in
    let here : outs_of v (a.head ∷ []) ≡ comes_at v w (frame m k) [] = ap (λ (d : Entry). outs_of v (d ∷ [])) is.1 ∙ append-nil (comes_at v w (frame m k) []) in
    let more : emitted v (Emit w m k why ∷ P) ≡ emitted v P ++ outs_of v (a.head ∷ []) =
    comes-last v w (frame m k) (emitted v P) ∙ ap (λ (xs : List FrameName). emitted v P ++ xs) (sym here) in
    went_on s v (Emit w m k why) a.head a.rest P a.is (outs-offers v (frame m k) (offered_to s P w)) more
    ∙ (outputs s v T plain t P legal ∙ sym (t.others (Emit w m k why) P refl))
  where
    comes-last : (v w : ℕ) (a : FrameName) (xs : List FrameName) → comes_at v w a xs ≡ xs ++ comes_at v w a []
    comes-last v w a xs = elim (eqb w v) as (λ b. cond b (xs ++ a ∷ []) xs ≡ xs ++ cond b (a ∷ []) []) [ true ↦ refl | false ↦ sym (append-nil xs) ]
outputs s v T plain t (Accept w m k ∷ P) h =
    let a = owed-answered s (Accept w m k) P refl h in
    let quiet : outs_of v (a.head ∷ []) ≡ [] = ap (λ (d : Entry). outs_of v (d ∷ [])) (answers-by_Accept s P w m k a.head a.answer) in
    went_on s v (Accept w m k) a.head a.rest P a.is refl (sym (ap (λ (xs : List FrameName). emitted v P ++ xs) quiet ∙ append-nil (emitted v P)))
    ∙ (outputs s v T plain t P (and_parts _ _ h).0 ∙ sym (t.others (Accept w m k) P refl))
outputs s v T plain t (Full w m k ∷ P) h =
    let a = owed-answered s (Full w m k) P refl h in
    let quiet : outs_of v (a.head ∷ []) ≡ [] = quiet_out v a.head (answers-by_Full s P w m k a.head a.answer) in
    went_on s v (Full w m k) a.head a.rest P a.is refl (sym (ap (λ (xs : List FrameName). emitted v P ++ xs) quiet ∙ append-nil (emitted v P)))
    ∙ (outputs s v T plain t P (and_parts _ _ h).0 ∙ sym (t.others (Full w m k) P refl))
  where
    answers-by_Full : (s : Setting) (P : Past) (v m k : ℕ) (d : Entry) → answers s P (Full v m k) d ≡ true → lets_none_out d ≡ true
    answers-by_Full s P v m k (Emit w n j why) h = h
    answers-by_Full s P v m k _ h = refl
outputs s v T plain t (SortDrop w m k ∷ P) h =
    let a = owed-answered s (SortDrop w m k) P refl h in
    let quiet : outs_of v (a.head ∷ []) ≡ [] = ap (λ (d : Entry). outs_of v (d ∷ [])) (answers-by_SortDrop s P w m k a.head a.answer) in
    went_on s v (SortDrop w m k) a.head a.rest P a.is refl (sym (ap (λ (xs : List FrameName). emitted v P ++ xs) quiet ∙ append-nil (emitted v P)))
    ∙ (outputs s v T plain t P (and_parts _ _ h).0 ∙ sym (t.others (SortDrop w m k) P refl))
outputs s v T plain t (Tick u ∷ P) h =
    let a = owed-answered s (Tick u) P refl h in
    let quiet : outs_of v (a.head ∷ []) ≡ [] = ap (λ (d : Entry). outs_of v (d ∷ [])) (answers-by_Tick s P u a.head a.answer).1 in
    went_on s v (Tick u) a.head a.rest P a.is (outs-looks s v (Tick u ∷ P) (node_numbers s) plain)
    (sym (ap (λ (xs : List FrameName). emitted v P ++ xs) quiet ∙ append-nil (emitted v P)))
    ∙ (outputs s v T plain t P (and_parts _ _ h).0 ∙ sym (t.others (Tick u) P refl))
outputs s v T plain t (Issue r k ∷ P) h =
    let none : owed s P ≡ [] = owed-first s (Issue r k) P (λ d. refl) h in
    begun s v (Issue r k) P none refl
    ∙ (ap (λ (xs : List FrameName). xs ++ outs_of v (calls_for s P (Issue r k))) (outputs s v T plain t P (and_parts _ _ h).0) ∙ sym (t.issue r k P))
outputs s v T plain t (Settle r w ∷ P) h =
    let none : owed s P ≡ [] = owed-first s (Settle r w) P (λ d. refl) h in
    let quiet : outs_of v (calls_for s P (Settle r w)) ≡ [] = elim (cases_Bool (eqb w v)) [
      | inl here ↦
          let off : is_sorted s w ≡ false = ap (is_sorted s) (eqb-true w v here) ∙ plain in
          ap (λ (ws : List Waiting). outs_of v (map (λ u. emit w Flush u.array) (least_first s ws))) (waiting-unsorted s w P off)
      | inr away ↦ outs-elsewhere w v (calls_for s P (Settle r w)) (eqb-false w v away) (flush-at w (least_first s (waiting s w P)))
    ] in
    begun-still s v (Settle r w) P none refl quiet ∙ (outputs s v T plain t P (and_parts _ _ h).0 ∙ sym (t.others (Settle r w) P refl))
outputs s v T plain t (Load r k b n f g x ∷ P) h =
    begun-still s v (Load r k b n f g x) P (owed-first s (Load r k b n f g x) P (λ d. refl) h) refl refl
    ∙ (outputs s v T plain t P (and_parts _ _ h).0 ∙ sym (t.others (Load r k b n f g x) P refl))
outputs s v T plain t (LoadRefused r k n z ∷ P) h =
    begun-still s v (LoadRefused r k n z) P (owed-first s (LoadRefused r k n z) P (λ d. refl) h) refl refl
    ∙ (outputs s v T plain t P (and_parts _ _ h).0 ∙ sym (t.others (LoadRefused r k n z) P refl))
outputs s v T plain t (Take r w m k ∷ P) h =
    begun-still s v (Take r w m k) P (owed-first s (Take r w m k) P (λ d. refl) h) refl refl
    ∙ (outputs s v T plain t P (and_parts _ _ h).0 ∙ sym (t.others (Take r w m k) P refl))
outputs s v T plain t (TakeBlock f x r w m k b n g ∷ P) h =
    begun-still s v (TakeBlock f x r w m k b n g) P (owed-first s (TakeBlock f x r w m k b n g) P (λ d. refl) h) refl refl
    ∙ (outputs s v T plain t P (and_parts _ _ h).0 ∙ sym (t.others (TakeBlock f x r w m k b n g) P refl))
outputs s v T plain t (PoolDrop r w m k n z ∷ P) h =
    begun-still s v (PoolDrop r w m k n z) P (owed-first s (PoolDrop r w m k n z) P (λ d. refl) h) refl refl
    ∙ (outputs s v T plain t P (and_parts _ _ h).0 ∙ sym (t.others (PoolDrop r w m k n z) P refl))
outputs s v T plain t (Save r w m k g ∷ P) h =
    begun-still s v (Save r w m k g) P (owed-first s (Save r w m k g) P (λ d. refl) h) refl refl
    ∙ (outputs s v T plain t P (and_parts _ _ h).0 ∙ sym (t.others (Save r w m k g) P refl))
outputs s v T plain t (Saved r w m k ∷ P) h =
    begun-still s v (Saved r w m k) P (owed-first s (Saved r w m k) P (λ d. refl) h) refl refl
    ∙ (outputs s v T plain t P (and_parts _ _ h).0 ∙ sym (t.others (Saved r w m k) P refl))
outputs s v T plain t (Close r ∷ P) h =
    begun-still s v (Close r) P (owed-first s (Close r) P (λ d. refl) h) refl refl
    ∙ (outputs s v T plain t P (and_parts _ _ h).0 ∙ sym (t.others (Close r) P refl))
outputs s v T plain t (Leave r ∷ P) h =
    begun-still s v (Leave r) P (owed-first s (Leave r) P (λ d. refl) h) refl refl
    ∙ (outputs s v T plain t P (and_parts _ _ h).0 ∙ sym (t.others (Leave r) P refl))
outputs s v T plain t (Reclaim r ∷ P) h =
    begun-still s v (Reclaim r) P (owed-first s (Reclaim r) P (λ d. refl) h) refl refl
    ∙ (outputs s v T plain t P (and_parts _ _ h).0 ∙ sym (t.others (Reclaim r) P refl))

-- in a history nothing more must go out
outputs-all : (s : Setting) (v : ℕ) (T : Past → List FrameName) → is_sorted s v ≡ false → Target s v T → (P : Past) → is_history s P ≡ true → emitted v P ≡ T P
outputs-all s v T plain t P h =
    let p = and_parts (is_legal s P) (is_nothing (owed s P)) h in
    let none : so_far s v P ≡ emitted v P = ap (λ (ds : List Entry). emitted v P ++ outs_of v ds) (is_nothing-true (owed s P) p.1) ∙ append-nil (emitted v P) in
    sym none ∙ outputs s v T plain t P p.0

-- PUTS

flags_others : (v : ℕ) (e : Entry) (P : Past) → puts_here v e ≡ false → (firings v (e ∷ P) ≡ firings v P) × (puts v (e ∷ P) ≡ puts v P)
flags_others v (Put r w m k f) P h = (comes_elsewhere v w f (firings v P) (eqb-false w v h), comes_elsewhere v w (frame m k) (puts v P) (eqb-false w v h))
flags_others v _ P h = (refl, refl)

-- only the driver lets out what is issued
issued_elsewhere : (s : Setting) (v : ℕ) → v ≢ 0 → (xs : List FrameName) (r k : ℕ) (P : Past) → xs ≡ xs ++ outs_of v (calls_for s P (Issue r k))
issued_elsewhere s v nz xs r k P =
    let quiet : outs_of v (calls_for s P (Issue r k)) ≡ [] = ap (λ (ys : List FrameName). ys ++ []) (comes_elsewhere v 0 (frame 0 k) [] (λ e. nz (sym e))) in
    sym (ap (λ (ys : List FrameName). xs ++ ys) quiet ∙ append-nil xs)

circular_target : (s : Setting) (v pre post preset : ℕ) → v ≢ 0 → (node s v).work ≡ Watches pre post preset → 1 ≤ post
    → Target s v (λ P. passed_items pre post preset (firings v P) (puts v P))
circular_target s v pre post preset nz work positive = record {
  start = refl;
  put = put;
  issue = λ r k P. issued_elsewhere s v nz (passed_items pre post preset (firings v P) (puts v P)) r k P;
  others =
      λ e P h. let o = flags_others v e P h in
      ap (λ (fs : List Bool). passed_items pre post preset fs (puts v (e ∷ P))) o.0 ∙ ap (passed_items pre post preset (firings v P)) o.1;
}
  where
    put : (r m k : ℕ) (f : Bool) (P : Past) → is_legal s (Put r v m k f ∷ P) ≡ true
        → passed_items pre post preset (firings v (Put r v m k f ∷ P)) (puts v (Put r v m k f ∷ P))
        ≡ passed_items pre post preset (firings v P) (puts v P) ++ outs_of v (calls_for s P (Put r v m k f))
    put r m k f P h =
        let flags : List Bool = firings v P in
        let b : Bool = is_trigger post preset (flags ++ f ∷ []) (length flags) in
        let d : Bool = is_passed pre post preset (flags ++ f ∷ []) (length flags) in
        let row = row_of s (Put r v m k f) P (λ u. refl) h in
        let kept_ring = ring_laws.kept_is s v P pre post preset work (put-unsettled s r v m k f P (and_parts _ _ h).0 row) in
        let calls : calls_for s P (Put r v m k f) ≡ cond b (map (emit v Ring) (ring s v P)) [] ++ cond d (emit v Now (frame m k) ∷ []) [] =
        ap (result s v (frame m k) f P) work in
        let out : outs_of v (calls_for s P (Put r v m k f)) ≡ cond b (ring s v P) [] ++ cond d (frame m k ∷ []) [] =
        ap (outs_of v) calls
        ∙ (outs-append v (cond b (map (emit v Ring) (ring s v P)) []) (cond d (emit v Now (frame m k) ∷ []) []) ∙ parts b d (ring s v P) (frame m k)) in
        ap (λ (fs : List Bool). passed_items pre post preset fs (puts v (Put r v m k f ∷ P))) (comes_here v f flags)
        ∙ (ap (passed_items pre post preset (flags ++ f ∷ [])) (comes_here v (frame m k) (puts v P))
        ∙ (passed_items-push pre post preset flags (puts v P) (sym (flags-puts v P)) f (frame m k) positive
        ∙ ap (λ (xs : List FrameName). passed_items pre post preset flags (puts v P) ++ xs)
        (ap (λ (xs : List FrameName). cond b xs [] ++ cond d (frame m k ∷ []) []) (sym kept_ring) ∙ sym out)))
      where
        first_part : (b : Bool) (xs : List FrameName) → outs_of v (cond b (map (emit v Ring) xs) []) ≡ cond b xs []
        first_part true xs = outs-emits v Ring xs
        first_part false xs = refl

        last_part : (d : Bool) (a : FrameName) → outs_of v (cond d (emit v Now a ∷ []) []) ≡ cond d (a ∷ []) []
        last_part true a = outs-emits v Now (a ∷ [])
        last_part false a = refl

        parts : (b d : Bool) (xs : List FrameName) (a : FrameName)
            → outs_of v (cond b (map (emit v Ring) xs) []) ++ outs_of v (cond d (emit v Now a ∷ []) []) ≡ cond b xs [] ++ cond d (a ∷ []) []
        parts b d xs a =
            ap (λ (ys : List FrameName). ys ++ outs_of v (cond d (emit v Now a ∷ []) [])) (first_part b xs)
            ∙ ap (λ (ys : List FrameName). cond b xs [] ++ ys) (last_part d a)

watched_unsorted : (s : Setting) (v pre post preset : ℕ) → (node s v).work ≡ Watches pre post preset → (v ≢ 0) × (is_sorted s v ≡ false)
watched_unsorted s v pre post preset work = ((λ e. no_driver (sym (ap (λ (u : ℕ). (node s u).work) e) ∙ work)), rw work refl)
  where
    no_driver : Passes false ≢ Watches pre post preset
    no_driver e = cc

plain_target : (s : Setting) (v : ℕ) → v ≢ 0 → may_sort (node s v).work ≡ true → is_sorted s v ≡ false → Target s v (puts v)
plain_target s v nz sorts plain = record {
  start = refl;
  put =
      λ r m k f P h. comes_here v (frame m k) (puts v P)
      ∙ ap (λ (xs : List FrameName). puts v P ++ xs) (sym (ap (outs_of v) (plain_result (node s v).work sorts m k f P) ∙ outs-emits v Plain (frame m k ∷ [])));
  issue = λ r k P. issued_elsewhere s v nz (puts v P) r k P;
  others = λ e P h. (flags_others v e P h).1;
}
  where
    plain_result : (w : Work) → may_sort w ≡ true → (m k : ℕ) (f : Bool) (P : Past) → result s v (frame m k) f P w ≡ emit v Plain (frame m k) ∷ []
    plain_result Makes h m k f P = rw plain refl
    plain_result (Passes d) h m k f P = rw plain refl
    plain_result (Watches pre post preset) h m k f P = absurd (false≢true h)
    plain_result (Saves whole n) h m k f P = absurd (false≢true h)

driver_target : (s : Setting) → Target s 0 issued
driver_target s = record {
  start = refl;
  put = λ r m k f P h. absurd (puts_at_node s r 0 m k f P h refl);
  issue = λ r k P. ap (λ (xs : List FrameName). issued P ++ xs) (sym (outs-emits 0 Plain (frame 0 k ∷ [])));
  others = others;
}
  where
    others : (e : Entry) (P : Past) → puts_here 0 e ≡ false → issued (e ∷ P) ≡ issued P
    others (Issue r k) P h = absurd (true≢false h)
    others _ P h = refl

-- OTHER NODES

-- where nothing goes out of a node, it emits nothing
none_emitted : (v : ℕ) (P : Past) → count (out_of v any_array) P ≡ 0 → emitted v P ≡ []
none_emitted v [] h = refl
none_emitted v (Emit w m k why ∷ P) h =
    let one = count-cons (out_of v any_array) (Emit w m k why) P in
    elim (cases_Bool (eqb w v)) [
      | inl here ↦ absurd (omega (arith, h, one, ap (λ (b : Bool). bit (b && true)) here))
      | inr away ↦ comes_elsewhere v w (frame m k) (emitted v P) (eqb-false w v away) ∙ none_emitted v P (omega (arith, h, one))
    ]
none_emitted v (SortDrop w m k ∷ P) h = none_emitted v P (omega (arith, h, count-cons (out_of v any_array) (SortDrop w m k) P))
none_emitted v (_ ∷ P) h = none_emitted v P h

pub times-comes : (v w : ℕ) (t : FrameName → Bool) (a : FrameName) (xs : List FrameName) → times_by t (comes_at v w a xs) ≡ times_by t xs + bit (eqb w v && t a)
times-comes v w t a xs =
    elim (cases_Bool (eqb w v)) [
      | inl here ↦ rw here (count-append t xs (a ∷ []) ∙ omega (arith, count-cons t a []))
      | inr away ↦ rw away (omega arith)
    ]

out_listed : (v : ℕ) (t : FrameName → Bool) (P : Past) → count (out_of v t) P ≡ times_by t (emitted v P) + times_by t (sort_dropped v P)
out_listed v t [] = refl
out_listed v t (Emit w m k why ∷ P) = omega (arith, out_listed v t P, times-comes v w t (frame m k) (emitted v P), count-cons (out_of v t) (Emit w m k why) P)
out_listed v t (SortDrop w m k ∷ P) =
    omega (arith, out_listed v t P, times-comes v w t (frame m k) (sort_dropped v P), count-cons (out_of v t) (SortDrop w m k) P)
out_listed v t (_ ∷ P) = out_listed v t P

put_listed : (v : ℕ) (t : FrameName → Bool) (P : Past) → count (puts_of v t) P ≡ times_by t (puts v P)
put_listed v t [] = refl
put_listed v t (Put r w m k f ∷ P) = omega (arith, put_listed v t P, times-comes v w t (frame m k) (puts v P), count-cons (puts_of v t) (Put r w m k f) P)
put_listed v t (_ ∷ P) = put_listed v t P

waiting_listed : (t : FrameName → Bool) (ws : List Waiting) → count (waits t) ws ≡ times_by t (map (λ (w : Waiting). w.array) ws)
waiting_listed t [] = refl
waiting_listed t (w ∷ ws) = omega (arith, waiting_listed t ws, count-cons (waits t) w ws, count-cons t w.array (map (λ (u : Waiting). u.array) ws))

sorted_all : (s : Setting) (v : ℕ) (a : FrameName) (P : Past) → v ≢ 0 → is_sorted s v ≡ true → is_legal s P ≡ true
    → times a (puts v P) ≡ times a (emitted v P) + times a (sort_dropped v P) + times a (map (λ (w : Waiting). w.array) (waiting s v P))
sorted_all s v a P nz sorted h =
    let is_a : FrameName → Bool = λ x. same x a in
    omega (arith, sorted-outs s P v is_a nz sorted h, out_listed v is_a P, put_listed v is_a P, waiting_listed is_a (waiting s v P))

pub output_laws : OutputLaws
output_laws = record {
  circular =
      λ s v pre post preset P work positive h. let u = watched_unsorted s v pre post preset work in
      outputs-all s v _ u.1 (circular_target s v pre post preset u.0 work positive) P h;
  unsorted = λ s v P nz sorts plain h. outputs-all s v _ plain (plain_target s v nz sorts plain) P h;
  sorted = sorted_all;
  file = λ s v P file h. none_emitted v P (omega (arith, none_out s P v file h));
  driver = λ s P h. outputs-all s 0 issued refl (driver_target s) P h;
}
