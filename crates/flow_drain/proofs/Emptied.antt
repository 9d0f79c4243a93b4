-- Nothing is queued at a settled node: what its input emitted came before.
use Rattle.std.proofs.Common.{◌≡◌, ◌≢◌, ℕ, ◌≤◌, Bool, true, false, ◌&&◌, cond, eqb, List, [], ◌∷◌, map, drop, refl, sym, ap, ◌∙◌, subst, arith, Option}
use Rattle.std.proofs.Common.{Some, None, inl, inr}
use Rattle.std.specs.List.{list_all}
use Rattle.std.proofs.lemmas.Bool.{and_parts, and_from, false≢true, true≢false, eqb-true, eq-eqb, ne_eqb, cases_Bool}
use Rattle.nd_base.specs.declared.frame.FrameName.{FrameName}
use Rattle.flow_journal.specs.declared.entry.Entry.{Entry}
use Rattle.flow_journal.specs.declared.entry.Entry.TheVariants.{Load, Tick, Issue, Emit, Accept, Full, Take, TakeBlock, PoolDrop, Put}
use Rattle.flow_journal.specs.declared.entry.Entry.TheVariants.{Settle, Reclaim}
use Rattle.flow_journal.specs.declared.entry.Why.TheVariants.{Plain}
use Rattle.flow_journal.specs.Setting.{Setting, node, is_sorted, node_numbers}
use Rattle.flow_journal.specs.Turns.{offered_to}
use Rattle.flow_journal.specs.Pasts.{Past, frame, without}
use Rattle.flow_journal.specs.Hands.{takes_up, hands, hand, is_job, jobs, job_array, is_loaded}
use Rattle.flow_journal.specs.Ended.{is_closed, is_settled, has_ended}
use Rattle.flow_journal.specs.Queued.{queued}
use Rattle.flow_journal.specs.Waiting.{waiting, least_first}
use Rattle.flow_journal.specs.Following.{offer, look, calls_for, owed}
use Rattle.flow_journal.specs.Histories.{is_legal}
use Rattle.flow_journal.specs.RowFacts.{HasLoaded}
use Rattle.flow_journal.proofs.Hands.{row_of}
use Rattle.flow_journal.proofs.Rows.{row_laws}
use Rattle.flow_journal.proofs.EntryCounts.{count, bit, count-cons, count-append, count-drop, count-let_go, owed-first, owed-answered, answers-by_Accept}
use Rattle.flow_journal.proofs.Settled.{settled-idle, put-unsettled}
use Rattle.flow_journal.proofs.Outs.{out_of, is_out_at, AllOutAt, waits, none_elsewhere, result-at, flush-at, goes_out-at}
use Rattle.flow_journal.proofs.Offers.{is_number, once_numbered, none_numbered_0, child_once}
use Rattle.flow_journal.proofs.Dealing.{count-offered}
use Rattle.flow_journal.proofs.Issues.{looks, looks-none, looks-le, puts_at_node, settles_node}
use Rattle.flow_journal.proofs.Emissions.{owed-Emit_out, no_outs_in_offers}
use Rattle.flow_journal.proofs.Flushed.{waits-owed}
use Rattle.flow_drain.proofs.Closed.{all-offered, found-not, input-ended}

abbrev comes_to : ℕ → Entry → Bool
comes_to v (Accept w m k) = eqb w v
comes_to v (Full w m k) = eqb w v
comes_to v _ = false

-- no emission of the input is owed, and no offer to the node
record IsOver (s : Setting) (P : Past) (u v : ℕ) : Type 0 where
  emissions : count (out_of u (λ a. true)) (owed s P) ≡ 0
  offers : count (comes_to v) (owed s P) ≡ 0

out-comes : (w v : ℕ) (e : Entry) → is_out_at w e ≡ true → comes_to v e ≡ false
out-comes w v (Accept c m k) h = absurd (false≢true h)
out-comes w v (Full c m k) h = absurd (false≢true h)
out-comes w v _ h = refl

none-come : (w v : ℕ) (ds : List Entry) → AllOutAt w ds → count (comes_to v) ds ≡ 0
none-come w v [] h = refl
none-come w v (d ∷ ds) h =
    let p = and_parts (is_out_at w d) (list_all (is_out_at w) ds) h in
    omega (arith, count-cons (comes_to v) d ds, ap bit (out-comes w v d p.0), none-come w v ds p.1)

looks-come : (s : Setting) (P : Past) (v : ℕ) (us : List ℕ) → count (comes_to v) (looks s P us) ≡ 0
looks-come s P v [] = refl
looks-come s P v (u ∷ us) =
    let one : count (comes_to v) (cond (is_sorted s u) (look s u P) []) ≡ 0 =
    elim (is_sorted s u) as (λ b. count (comes_to v) (cond b (look s u P) []) ≡ 0) [
      | true ↦ none-come u v (look s u P) (goes_out-at s u _ _ _)
      | false ↦ refl
    ] in
    omega (arith, count-append (comes_to v) (cond (is_sorted s u) (look s u P) []) (looks s P us), one, looks-come s P v us)

offers-come : (v : ℕ) (a : FrameName) (cs : List ℕ) → count (comes_to v) (map (offer a) cs) ≡ count (is_number v) cs
offers-come v a [] = refl
offers-come v a (c ∷ cs) = omega (arith, offers-come v a cs, count-cons (comes_to v) (offer a c) (map (offer a) cs), count-cons (is_number v) c cs)

-- what an entry calls for, and the rest of what was owed
over-with : (s : Setting) (e : Entry) (P : Past) (u v : ℕ) → IsOver s P u v → count (out_of u (λ a. true)) (calls_for s P e) ≡ 0
    → count (comes_to v) (calls_for s P e) ≡ 0
    → IsOver s (e ∷ P) u v
over-with s e P u v i out come =
    record {
      emissions =
          omega (
            arith,
            i.emissions,
            out,
            count-append (out_of u (λ a. true)) (calls_for s P e) (drop 1 (owed s P)),
            count-drop (out_of u (λ a. true)) (owed s P),
          );
      offers = omega (arith, i.offers, come, count-append (comes_to v) (calls_for s P e) (drop 1 (owed s P)), count-drop (comes_to v) (owed s P));
    }

-- an ended node isn't this one
ended-other : (u w : ℕ) (P : Past) → w ≢ 0 → has_ended u P ≡ true → is_settled w P ≡ false → w ≢ u
ended-other u w P nz ended open_ e =
    let was : has_ended w P ≡ true = subst (λ (i : ℕ). has_ended i P ≡ true) (sym e) ended in
    let other : has_ended w P ≡ is_settled w P = rw (ne_eqb w 0 nz) refl in
    true≢false (sym was ∙ (other ∙ open_))

looks-over : (s : Setting) (t : ℕ) (P : Past) (u v : ℕ) → is_legal s P ≡ true → has_ended u P ≡ true → IsOver s P u v
    → count (out_of u (λ a. true)) (looks s (Tick t ∷ P) (node_numbers s)) ≡ 0
looks-over s t P u v legal ended i =
    elim (cases_Bool (eqb u 0)) [
      | inl driver ↦
          looks-none s (Tick t ∷ P) u (λ a. true) (node_numbers s)
          (subst (λ (w : ℕ). count (is_number w) (node_numbers s) ≡ 0) (sym (eqb-true u 0 driver)) (none_numbered_0 s))
      | inr other ↦
          let nz : u ≢ 0 = λ e. true≢false (sym (eq-eqb u 0 e) ∙ other) in
          let settled_ : is_settled u P ≡ true = rw other at ended in
          let most = looks-le s (Tick t ∷ P) u (λ a. true) (node_numbers s) (once_numbered s u) in
          elim (cases_Bool (is_sorted s u)) [
            | inl sorted ↦
                let few : count (out_of u (λ a. true)) (looks s (Tick t ∷ P) (node_numbers s)) ≤ count (waits (λ a. true)) (waiting s u P) =
                rw sorted at most in
                omega (arith, few, waits-owed s P u (λ a. true) nz sorted legal settled_, i.emissions)
            | inr plain ↦ let few : count (out_of u (λ a. true)) (looks s (Tick t ∷ P) (node_numbers s)) ≤ 0 = rw plain at most in omega (arith, few)
          ]
    ]

-- an entry before which the node was settled
over-on : (s : Setting) (e : Entry) (P : Past) (v : ℕ) → is_legal s (e ∷ P) ≡ true → has_ended (node s v).input P ≡ true → IsOver s P (node s v).input v
    → IsOver s (e ∷ P) (node s v).input v
over-on s (Tick t) P v h ended i =
    over-with s (Tick t) P (node s v).input v i (looks-over s t P (node s v).input v (and_parts _ _ h).0 ended i) (looks-come s (Tick t ∷ P) v (node_numbers s))
over-on s (Issue r k) P v h ended i =
    elim (cases_Bool (eqb 0 (node s v).input)) [
      | inl driver ↦
          let u : 0 ≡ (node s v).input = eqb-true 0 (node s v).input driver in
          let closed : is_closed P ≡ true = subst (λ (w : ℕ). has_ended w P ≡ true) (sym u) ended in
          let l : HasLoaded r k P = (row_laws.issue s P r k).0 (row_of s (Issue r k) P (λ d. refl) h) in
          absurd (true≢false (found-not is_loaded (takes_up r) (hands P) (Load r k l.0 l.1 l.2 l.3 l.4) (all-offered s P (and_parts _ _ h).0 closed).none l.5))
      | inr other ↦
          let miss : out_of (node s v).input (λ a. true) (Emit 0 0 k Plain) ≡ false = ap (λ (b : Bool). b && true) other in
          over-with s (Issue r k) P (node s v).input v i
          (omega (arith, count-cons (out_of (node s v).input (λ a. true)) (Emit 0 0 k Plain) [], ap bit miss)) refl
    ]
over-on s (Emit w m k why) P v h ended i =
    let was = owed-Emit_out s w m k why P (node s v).input (λ a. true) h in
    let a = frame m k in
    elim (cases_Bool (eqb w (node s v).input)) [
      | inl here ↦ absurd (omega (arith, was, i.emissions, ap bit (and_from (eqb w (node s v).input) true here refl)))
      | inr away ↦
          let other : eqb (node s v).input w ≡ false = ne_eqb (node s v).input w (λ e. true≢false (sym (eq-eqb w (node s v).input (sym e)) ∙ away)) in
          over-with s (Emit w m k why) P (node s v).input v i (no_outs_in_offers (node s v).input (λ a. true) a (offered_to s P w))
          (omega (arith, offers-come v a (offered_to s P w), count-offered (is_number v) s P w, child_once s w v, ap bit other))
    ]
over-on s (Put r w m k f) P v h ended i =
    let open_ = put-unsettled s r w m k f P (and_parts _ _ h).0 (row_of s (Put r w m k f) P (λ d. refl) h) in
    let ne = ended-other (node s v).input w P (puts_at_node s r w m k f P h) ended open_ in
    let at_w = result-at s w (frame m k) f P (node s w).work in
    over-with s (Put r w m k f) P (node s v).input v i (none_elsewhere w (node s v).input (λ a. true) (calls_for s P (Put r w m k f)) ne at_w)
    (none-come w v (calls_for s P (Put r w m k f)) at_w)
over-on s (Settle r w) P v h ended i =
    let f = ((row_laws.settle s P r w).0 (row_of s (Settle r w) P (λ d. refl) h)).1 in
    let ne = ended-other (node s v).input w P (settles_node s r w P h) ended f.unsettled in
    let at_w = flush-at w (least_first s (waiting s w P)) in
    over-with s (Settle r w) P (node s v).input v i (none_elsewhere w (node s v).input (λ a. true) (calls_for s P (Settle r w)) ne at_w)
    (none-come w v (calls_for s P (Settle r w)) at_w)
over-on s e P v h ended i = over-with s e P (node s v).input v i refl refl

-- the settle itself: nothing else was owed, and what is flushed goes out of the node
over-first : (s : Setting) (r w : ℕ) (P : Past) → is_legal s (Settle r w ∷ P) ≡ true → IsOver s (Settle r w ∷ P) (node s w).input w
over-first s r w P h =
    let f = ((row_laws.settle s P r w).0 (row_of s (Settle r w) P (λ d. refl) h)).1 in
    let none = owed-first s (Settle r w) P (λ d. refl) h in
    let ne = ended-other (node s w).input w P (settles_node s r w P h) f.input f.unsettled in
    let at_w = flush-at w (least_first s (waiting s w P)) in
    over-with s (Settle r w) P (node s w).input w
    (record { emissions = ap (count (out_of (node s w).input (λ a. true))) none; offers = ap (count (comes_to w)) none })
    (none_elsewhere w (node s w).input (λ a. true) (calls_for s P (Settle r w)) ne at_w) (none-come w w (calls_for s P (Settle r w)) at_w)

is-over : (s : Setting) (P : Past) (v : ℕ) → is_legal s P ≡ true → is_settled v P ≡ true → IsOver s P (node s v).input v
is-over s [] v h c = absurd (false≢true c)
is-over s (Settle r w ∷ P) v h c =
    let legal : is_legal s P ≡ true = (and_parts _ _ h).0 in
    elim (cases_Bool (eqb w v)) [
      | inl here ↦ subst (λ (x : ℕ). IsOver s (Settle r w ∷ P) (node s x).input x) (eqb-true w v here) (over-first s r w P h)
      | inr away ↦ let c_ : is_settled v P ≡ true = rw away at c in over-on s (Settle r w) P v h (input-ended s P v legal c_) (is-over s P v legal c_)
    ]
is-over s (e ∷ P) v h c =
    let legal : is_legal s P ≡ true = (and_parts _ _ h).0 in
    over-on s e P v h (input-ended s P v legal c) (is-over s P v legal c)

-- a hand that is no job of the node took nothing from its queue
no-job : (v : ℕ) (o : Option Entry) → ((e : Entry) → o ≡ Some e → is_job v e ≡ false) → job_array v o ≡ []
no-job v None none = refl
no-job v (Some (Take r w m k)) none = rw (none (Take r w m k) refl) refl
no-job v (Some (TakeBlock f x r w m k b n g)) none = rw (none (TakeBlock f x r w m k b n g) refl) refl
no-job v (Some _) none = refl

not-a-job : (v r : ℕ) (P : Past) (e : Entry) → jobs v P ≡ 0 → hand r P ≡ Some e → is_job v e ≡ false
not-a-job v r P e idle is =
    elim (cases_Bool (is_job v e)) [
      | inl job ↦ absurd (omega (arith, idle, count-let_go (is_job v) r e (hands P) is, ap bit job))
      | inr other ↦ other
    ]

goes-empty : (b : Bool) (xs : List FrameName) (ys : List FrameName) → xs ≡ [] → ys ≡ [] → cond b xs ys ≡ []
goes-empty true xs ys p q = p
goes-empty false xs ys p q = q

without-empty : (a : FrameName) (xs : List FrameName) → xs ≡ [] → without a xs ≡ []
without-empty a xs h = ap (without a) h

pub queue-empty : (s : Setting) (P : Past) (v : ℕ) → is_legal s P ≡ true → is_settled v P ≡ true → queued v P ≡ []
queue-empty s [] v h c = refl
queue-empty s (Settle r w ∷ P) v h c =
    elim (cases_Bool (eqb w v)) [
      | inl here ↦ subst (λ (u : ℕ). queued u P ≡ []) (eqb-true w v here) ((row_laws.settle s P r w).0 (row_of s (Settle r w) P (λ d. refl) h)).1.empty
      | inr away ↦ queue-empty s P v (and_parts _ _ h).0 (rw away at c)
    ]
queue-empty s (Accept w m k ∷ P) v h c =
    let legal : is_legal s P ≡ true = (and_parts _ _ h).0 in
    elim (cases_Bool (eqb w v)) [
      | inl here ↦
          let a = owed-answered s (Accept w m k) P refl h in
          let is = answers-by_Accept s P w m k a.head a.answer in
          let hit : bit (comes_to v a.head) ≡ 1 = ap (λ (d : Entry). bit (comes_to v d)) is ∙ ap bit here in
          absurd (omega (arith, hit, (is-over s P v legal c).offers, ap (count (comes_to v)) a.is, count-cons (comes_to v) a.head a.rest))
      | inr away ↦ rw away (queue-empty s P v legal c)
    ]
queue-empty s (Take r w m k ∷ P) v h c =
    let before = queue-empty s P v (and_parts _ _ h).0 c in
    goes-empty (eqb w v) _ _ (without-empty (frame m k) (queued v P) before) before
queue-empty s (TakeBlock f x r w m k b n g ∷ P) v h c =
    let before = queue-empty s P v (and_parts _ _ h).0 c in
    goes-empty (eqb w v) _ _ (without-empty (frame m k) (queued v P) before) before
queue-empty s (PoolDrop r w m k n z ∷ P) v h c =
    let before = queue-empty s P v (and_parts _ _ h).0 c in
    goes-empty (eqb w v) _ _ (without-empty (frame m k) (queued v P) before) before
queue-empty s (Reclaim r ∷ P) v h c =
    let legal : is_legal s P ≡ true = (and_parts _ _ h).0 in
    rw (no-job v (hand r P) (λ e is. not-a-job v r P e (settled-idle s P v legal c) is)) (queue-empty s P v legal c)
queue-empty s (_ ∷ P) v h c = queue-empty s P v (and_parts _ _ h).0 c
