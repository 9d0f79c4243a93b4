-- What comes to a node is what its input emitted, in this order.
use Rattle.std.proofs.Common.{◌≡◌, ℕ, Bool, true, false, cond, eqb, List, [], ◌∷◌, ◌++◌, map, drop, refl, sym, ap, ◌∙◌, subst, arith, inl, inr}
use Rattle.std.specs.Prelude.{flat_map, ◌==◌, if◌then◌else◌}
use Rattle.std.specs.List.{list_all}
use Rattle.std.proofs.lemmas.Bool.{and_parts, and_from, false≢true, eq-eqb, ne_eqb, eqb-true, eqb-false, cases_Bool}
use Rattle.std.proofs.lemmas.List.{append-nil, append_assoc}
use Rattle.nd_base.specs.declared.frame.FrameName.{FrameName}
use Rattle.flow_journal.specs.declared.entry.Entry.{Entry}
use Rattle.flow_journal.specs.declared.entry.Entry.TheVariants.{Load, LoadRefused, Tick, Issue, Emit, Accept, Full, Put, SortDrop, Settle}
use Rattle.flow_journal.specs.declared.entry.Why.{Why}
use Rattle.flow_journal.specs.Setting.{Setting, node, is_node, is_sorted, node_numbers, children}
use Rattle.flow_journal.specs.Turns.{deals, in_turn, dealt_to, offered_to}
use Rattle.flow_journal.specs.Pasts.{Past, frame, comes_at}
use Rattle.flow_journal.specs.Offered.{offered}
use Rattle.flow_journal.specs.Waiting.{waiting, least_first}
use Rattle.flow_journal.specs.Accepted.{emitted}
use Rattle.flow_journal.specs.Following.{offer, look, calls_for, owed}
use Rattle.flow_journal.specs.Histories.{answers, is_nothing, is_legal, is_history}
use Rattle.flow_journal.specs.Pushes.{is_nothing-true}
use Rattle.flow_journal.proofs.EntryCounts.{count, bit, count-cons, owed-first, owed-answered, answers-by_Emit, answers-by_Accept, answers-by_SortDrop}
use Rattle.flow_journal.proofs.EntryCounts.{answers-by_Tick}
use Rattle.flow_journal.proofs.Outs.{is_out_at, AllOutAt, result-at, flush-at, goes_out-at, all-append}
use Rattle.flow_journal.proofs.Dealing.{count-offered}
use Rattle.flow_journal.proofs.Offers.{is_number, child_once}
use Rattle.run_laws.proofs.Feeds.{child_of}
use Rattle.run_laws.proofs.Fulls.{is_any_full, no_full_owed, head-no_full, full-answers}
use Rattle.run_laws.proofs.Ticks.{tick-alone}

-- OFFERS ARE OWED BEFORE ALL ELSE

-- the entry is no offer
abbrev is_other : Entry → Bool
is_other (Accept w m k) = false
is_other _ = true

-- no offer stands behind anything else
abbrev offers_lead : List Entry → Bool
offers_lead [] = true
offers_lead (Accept w m k ∷ ds) = offers_lead ds
offers_lead (d ∷ ds) = list_all is_other ds

lead-none : (ds : List Entry) → list_all is_other ds ≡ true → offers_lead ds ≡ true
lead-none [] h = refl
lead-none (Accept w m k ∷ ds) h = absurd (false≢true h)
lead-none (_ ∷ ds) h = h

lead-rest : (ds : List Entry) → offers_lead ds ≡ true → offers_lead (drop 1 ds) ≡ true
lead-rest [] h = refl
lead-rest (Accept w m k ∷ ds) h = h
lead-rest (_ ∷ ds) h = lead-none ds h

lead-offers : (a : FrameName) (cs : List ℕ) (ds : List Entry) → list_all is_other ds ≡ true → offers_lead (map (offer a) cs ++ ds) ≡ true
lead-offers a [] ds h = lead-none ds h
lead-offers a (c ∷ cs) ds h = lead-offers a cs ds h

out_other : (w : ℕ) (ds : List Entry) → AllOutAt w ds → list_all is_other ds ≡ true
out_other w [] h = refl
out_other w (Accept c m i ∷ ds) h = absurd (false≢true h)
out_other w (d ∷ ds) h = and_from _ _ (one d p.0) (out_other w ds p.1)
  where
    p : (is_out_at w d ≡ true) × (list_all (is_out_at w) ds ≡ true)
    p = and_parts (is_out_at w d) (list_all (is_out_at w) ds) h

    one : (d : Entry) → is_out_at w d ≡ true → is_other d ≡ true
    one (Accept c m i) q = absurd (false≢true q)
    one _ q = refl

looks_other : (s : Setting) (P : Past) (us : List ℕ) → list_all is_other (flat_map (λ u. cond (is_sorted s u) (look s u P) []) us) ≡ true
looks_other s P [] = refl
looks_other s P (u ∷ us) =
    all-append is_other (cond (is_sorted s u) (look s u P) []) (flat_map (λ w. cond (is_sorted s w) (look s w P) []) us)
    (one (is_sorted s u)) (looks_other s P us)
  where
    one : (b : Bool) → list_all is_other (cond b (look s u P) []) ≡ true
    one true = out_other u (look s u P) (goes_out-at s u _ _ _)
    one false = refl

behind-emission : (ds : List Entry) (head : Entry) (rest : List Entry) (w m i : ℕ) (how : Why) → ds ≡ head ∷ rest → head ≡ Emit w m i how
    → offers_lead ds ≡ true → list_all is_other rest ≡ true
behind-emission ds head rest w m i how is e lead = subst (λ (es : List Entry). offers_lead es ≡ true) (is ∙ ap (λ (d : Entry). d ∷ rest) e) lead

-- what begins a move calls for no offer
begun-other : (s : Setting) (e : Entry) (P : Past) → owed s P ≡ [] → list_all is_other (calls_for s P e) ≡ true → list_all is_other (owed s (e ∷ P)) ≡ true
begun-other s e P none h = all-append is_other (calls_for s P e) (drop 1 (owed s P)) h (ap (λ (ds : List Entry). list_all is_other (drop 1 ds)) none)

leads : (s : Setting) (P : Past) → is_legal s P ≡ true → offers_lead (owed s P) ≡ true
leads s [] h = refl
leads s (Load r k b n f g x ∷ P) h =
    lead-none (owed s (Load r k b n f g x ∷ P)) (begun-other s (Load r k b n f g x) P (owed-first s (Load r k b n f g x) P (λ d. refl) h) refl)
leads s (LoadRefused r k n z ∷ P) h =
    lead-none (owed s (LoadRefused r k n z ∷ P)) (begun-other s (LoadRefused r k n z) P (owed-first s (LoadRefused r k n z) P (λ d. refl) h) refl)
leads s (Issue r k ∷ P) h = lead-none (owed s (Issue r k ∷ P)) (begun-other s (Issue r k) P (owed-first s (Issue r k) P (λ d. refl) h) refl)
leads s (Put r w m i f ∷ P) h =
    lead-none (owed s (Put r w m i f ∷ P)) (begun-other s (Put r w m i f) P (owed-first s (Put r w m i f) P (λ d. refl) h)
    (out_other w (calls_for s P (Put r w m i f)) (result-at s w (frame m i) f P (node s w).work)))
leads s (Settle r w ∷ P) h =
    lead-none (owed s (Settle r w ∷ P)) (begun-other s (Settle r w) P (owed-first s (Settle r w) P (λ d. refl) h)
    (out_other w (calls_for s P (Settle r w)) (flush-at w (least_first s (waiting s w P)))))
leads s (Tick t ∷ P) h =
    lead-none (owed s (Tick t ∷ P)) (all-append is_other (calls_for s P (Tick t)) (drop 1 (owed s P)) (looks_other s (Tick t ∷ P) (node_numbers s))
    (ap (list_all is_other) (tick-alone s t P h)))
leads s (Emit w m i why ∷ P) h =
    let a = owed-answered s (Emit w m i why) P refl h in
    let x = answers-by_Emit s P w m i why a.head a.answer in
    let still : list_all is_other a.rest ≡ true = behind-emission (owed s P) a.head a.rest w m i x.0 a.is x.1 (leads s P (and_parts _ _ h).0) in
    lead-offers (frame m i) (offered_to s P w) (drop 1 (owed s P)) (ap (λ (ds : List Entry). list_all is_other (drop 1 ds)) a.is ∙ still)
leads s (e ∷ P) h = lead-rest (owed s P) (leads s P (and_parts _ _ h).0)

-- WHAT IS OFFERED TO A NODE

-- the arrays of the offers to v among these
abbrev offers_to_node : ℕ → List Entry → List FrameName
offers_to_node v [] = []
offers_to_node v (Accept w m k ∷ ds) = if w == v then frame m k ∷ offers_to_node v ds else offers_to_node v ds
offers_to_node v (d ∷ ds) = offers_to_node v ds

none-to : (v : ℕ) (ds : List Entry) → list_all is_other ds ≡ true → offers_to_node v ds ≡ []
none-to v [] h = refl
none-to v (Accept w m k ∷ ds) h = absurd (false≢true h)
none-to v (_ ∷ ds) h = none-to v ds h

to-append : (v : ℕ) (xs ys : List Entry) → offers_to_node v (xs ++ ys) ≡ offers_to_node v xs ++ offers_to_node v ys
to-append v [] ys = refl
to-append v (Accept w m k ∷ xs) ys =
    elim (cases_Bool (eqb w v)) [
      | inl here ↦ rw here (ap (λ (zs : List FrameName). frame m k ∷ zs) (to-append v xs ys))
      | inr away ↦ rw away (to-append v xs ys)
    ]
to-append v (_ ∷ xs) ys = to-append v xs ys

to-none : (v : ℕ) (a : FrameName) (cs : List ℕ) → count (is_number v) cs ≡ 0 → offers_to_node v (map (offer a) cs) ≡ []
to-none v a [] h = refl
to-none v a (c ∷ cs) h =
    elim (cases_Bool (eqb c v)) [
      | inl here ↦ absurd (omega (arith, h, count-cons (is_number v) c cs, ap bit here))
      | inr away ↦ rw away (to-none v a cs (omega (arith, h, count-cons (is_number v) c cs, ap bit away)))
    ]

to-one : (v : ℕ) (a : FrameName) (cs : List ℕ) → count (is_number v) cs ≡ 1 → offers_to_node v (map (offer a) cs) ≡ a ∷ []
to-one v a [] h = absurd (omega (arith, h))
to-one v a (c ∷ cs) h =
    elim (cases_Bool (eqb c v)) [
      | inl here ↦ rw here (ap (λ (xs : List FrameName). a ∷ xs) (to-none v a cs (omega (arith, h, count-cons (is_number v) c cs, ap bit here))))
      | inr away ↦ rw away (to-one v a cs (omega (arith, h, count-cons (is_number v) c cs, ap bit away)))
    ]

-- an emission is offered to the node once where it is the input's, and else not at all
to-child : (s : Setting) (P : Past) (v w m i : ℕ) → is_node s v ≡ true → deals s (node s v).input ≡ false
    → offers_to_node v (map (offer (frame m i)) (offered_to s P w)) ≡ comes_at (node s v).input w (frame m i) []
to-child s P v w m i number alike =
    elim (cases_Bool (eqb w (node s v).input)) [
      | inl here ↦
          let is : (node s v).input ≡ w = sym (eqb-true w (node s v).input here) in
          let all : offered_to s P w ≡ children s w = ap (λ (b : Bool). cond b (dealt_to s P (in_turn s P w)) (children s w)) (sym (ap (deals s) is) ∙ alike) in
          rw here (to-one v (frame m i) (offered_to s P w)
          (ap (count (is_number v)) all ∙ omega (arith, child_of s v w number is, child_once s w v, ap bit (eq-eqb (node s v).input w is))))
      | inr away ↦
          let off : eqb (node s v).input w ≡ false = ne_eqb (node s v).input w (λ e. eqb-false w (node s v).input away (sym e)) in
          rw away (to-none v (frame m i) (offered_to s P w) (omega (arith, count-offered (is_number v) s P w, child_once s w v, ap bit off)))
    ]

comes-more : (v w : ℕ) (a : FrameName) (xs : List FrameName) → comes_at v w a xs ≡ xs ++ comes_at v w a []
comes-more v w a xs = elim (eqb w v) as (λ b. cond b (xs ++ a ∷ []) xs ≡ xs ++ cond b (a ∷ []) []) [ true ↦ refl | false ↦ sym (append-nil xs) ]

-- what answers an offer was owed as this offer
abbrev ComesSo : Setting → ℕ → Past → Type 0
ComesSo s v P = offered v P ++ offers_to_node v (owed s P) ≡ emitted (node s v).input P

offer-answered : (s : Setting) (v w m i : ℕ) (P : Past) (head : Entry) (rest : List Entry) → owed s P ≡ head ∷ rest → head ≡ Accept w m i → ComesSo s v P
    → comes_at v w (frame m i) (offered v P) ++ offers_to_node v (drop 1 (owed s P)) ≡ emitted (node s v).input P
offer-answered s v w m i P head rest is first before =
    let whole : owed s P ≡ Accept w m i ∷ rest = is ∙ ap (λ (d : Entry). d ∷ rest) first in
    let left : offers_to_node v (drop 1 (owed s P)) ≡ offers_to_node v rest = ap (λ (ds : List Entry). offers_to_node v (drop 1 ds)) whole in
    let was : offered v P ++ offers_to_node v (Accept w m i ∷ rest) ≡ emitted (node s v).input P =
    ap (λ (ds : List Entry). offered v P ++ offers_to_node v ds) (sym whole) ∙ before in
    ap (λ (xs : List FrameName). comes_at v w (frame m i) (offered v P) ++ xs) left
    ∙ (elim (cases_Bool (eqb w v)) [
      | inl here ↦ rw here (append_assoc (offered v P) (frame m i ∷ []) (offers_to_node v rest))
      | inr away ↦ rw away refl
    ] ∙ was)

-- an entry that is owed nothing to the node, before or after it
still-comes : (s : Setting) (v : ℕ) (e : Entry) (P : Past) → offered v (e ∷ P) ≡ offered v P → emitted (node s v).input (e ∷ P) ≡ emitted (node s v).input P
    → offers_to_node v (owed s (e ∷ P)) ≡ offers_to_node v (owed s P) → ComesSo s v P → ComesSo s v (e ∷ P)
still-comes s v e P same_offers same_out same_owed before =
    ap (λ (xs : List FrameName). xs ++ offers_to_node v (owed s (e ∷ P))) same_offers
    ∙ (ap (λ (xs : List FrameName). offered v P ++ xs) same_owed ∙ (before ∙ sym same_out))

begun-none : (s : Setting) (v : ℕ) (e : Entry) (P : Past) → ((d : Entry) → answers s P e d ≡ false) → is_legal s (e ∷ P) ≡ true
    → list_all is_other (calls_for s P e) ≡ true → offers_to_node v (owed s (e ∷ P)) ≡ offers_to_node v (owed s P)
begun-none s v e P never h others =
    let none : owed s P ≡ [] = owed-first s e P never h in
    none-to v (owed s (e ∷ P)) (begun-other s e P none others) ∙ sym (ap (offers_to_node v) none)

comes-so : (s : Setting) (P : Past) (v : ℕ) → is_node s v ≡ true → deals s (node s v).input ≡ false → is_legal s P ≡ true → ComesSo s v P
comes-so s [] v number alike h = refl
comes-so s (Emit w m i why ∷ P) v number alike h =
    let a = owed-answered s (Emit w m i why) P refl h in
    let x = answers-by_Emit s P w m i why a.head a.answer in
    let still : list_all is_other a.rest ≡ true = behind-emission (owed s P) a.head a.rest w m i x.0 a.is x.1 (leads s P (and_parts _ _ h).0) in
    let none_left : offers_to_node v (drop 1 (owed s P)) ≡ [] = ap (λ (ds : List Entry). offers_to_node v (drop 1 ds)) a.is ∙ none-to v a.rest still in
    let none_before : offers_to_node v (owed s P) ≡ [] = ap (offers_to_node v) (a.is ∙ ap (λ (d : Entry). d ∷ a.rest) x.1) ∙ none-to v a.rest still in
    let before : offered v P ≡ emitted (node s v).input P =
    sym (append-nil (offered v P)) ∙ (ap (λ (xs : List FrameName). offered v P ++ xs) (sym none_before) ∙ comes-so s P v number alike (and_parts _ _ h).0) in
    let now_owed : offers_to_node v (owed s (Emit w m i why ∷ P)) ≡ comes_at (node s v).input w (frame m i) [] =
    to-append v (map (offer (frame m i)) (offered_to s P w)) (drop 1 (owed s P))
    ∙ (ap (λ (xs : List FrameName). offers_to_node v (map (offer (frame m i)) (offered_to s P w)) ++ xs) none_left
    ∙ (append-nil (offers_to_node v (map (offer (frame m i)) (offered_to s P w))) ∙ to-child s P v w m i number alike)) in
    ap (λ (xs : List FrameName). offered v P ++ xs) now_owed
    ∙ (ap (λ (xs : List FrameName). xs ++ comes_at (node s v).input w (frame m i) []) before
    ∙ sym (comes-more (node s v).input w (frame m i) (emitted (node s v).input P)))
comes-so s (Accept w m i ∷ P) v number alike h =
    let a = owed-answered s (Accept w m i) P refl h in
    offer-answered s v w m i P a.head a.rest a.is (answers-by_Accept s P w m i a.head a.answer) (comes-so s P v number alike (and_parts _ _ h).0)
comes-so s (Full w m i ∷ P) v number alike h =
    let a = owed-answered s (Full w m i) P refl h in
    let none : count is_any_full (a.head ∷ a.rest) ≡ 0 = sym (ap (count is_any_full) a.is) ∙ no_full_owed s P in
    offer-answered s v w m i P a.head a.rest a.is (full-answers s P w m i a.head a.answer (head-no_full a.head a.rest none)).0
    (comes-so s P v number alike (and_parts _ _ h).0)
comes-so s (SortDrop w m i ∷ P) v number alike h =
    let a = owed-answered s (SortDrop w m i) P refl h in
    let left : offers_to_node v (drop 1 (owed s P)) ≡ offers_to_node v a.rest = ap (λ (ds : List Entry). offers_to_node v (drop 1 ds)) a.is in
    let was : offers_to_node v (owed s P) ≡ offers_to_node v a.rest =
    ap (offers_to_node v) (a.is ∙ ap (λ (d : Entry). d ∷ a.rest) (answers-by_SortDrop s P w m i a.head a.answer)) in
    still-comes s v (SortDrop w m i) P refl refl (left ∙ sym was) (comes-so s P v number alike (and_parts _ _ h).0)
comes-so s (Tick t ∷ P) v number alike h =
    let a = owed-answered s (Tick t) P refl h in
    let x = answers-by_Tick s P t a.head a.answer in
    let now_none : offers_to_node v (owed s (Tick t ∷ P)) ≡ [] =
    none-to v (owed s (Tick t ∷ P)) (all-append is_other (calls_for s P (Tick t)) (drop 1 (owed s P)) (looks_other s (Tick t ∷ P) (node_numbers s))
    (ap (list_all is_other) (tick-alone s t P h))) in
    let alone : a.rest ≡ [] = sym (ap (drop 1) a.is) ∙ tick-alone s t P h in
    let was : offers_to_node v (owed s P) ≡ [] = ap (offers_to_node v) (a.is ∙ ap (λ (d : Entry). d ∷ a.rest) x.1) ∙ ap (offers_to_node v) alone in
    still-comes s v (Tick t) P refl refl (now_none ∙ sym was) (comes-so s P v number alike (and_parts _ _ h).0)
comes-so s (Put r w m i f ∷ P) v number alike h =
    still-comes s v (Put r w m i f) P refl refl (begun-none s v (Put r w m i f) P (λ d. refl) h
    (out_other w (calls_for s P (Put r w m i f)) (result-at s w (frame m i) f P (node s w).work))) (comes-so s P v number alike (and_parts _ _ h).0)
comes-so s (Settle r w ∷ P) v number alike h =
    still-comes s v (Settle r w) P refl refl (begun-none s v (Settle r w) P (λ d. refl) h
    (out_other w (calls_for s P (Settle r w)) (flush-at w (least_first s (waiting s w P))))) (comes-so s P v number alike (and_parts _ _ h).0)
comes-so s (e ∷ P) v number alike h = still-comes s v e P refl refl (begun-none s v e P (λ d. refl) h refl) (comes-so s P v number alike (and_parts _ _ h).0)

-- in a history each emission of a node that doesn't deal was offered to each child, in order
pub comes : (s : Setting) (P : Past) (v : ℕ) → is_node s v ≡ true → deals s (node s v).input ≡ false → is_history s P ≡ true
    → offered v P ≡ emitted (node s v).input P
comes s P v number alike h =
    let both = and_parts (is_legal s P) (is_nothing (owed s P)) h in
    let none : offers_to_node v (owed s P) ≡ [] = ap (offers_to_node v) (is_nothing-true (owed s P) both.1) in
    sym (append-nil (offered v P)) ∙ (ap (λ (xs : List FrameName). offered v P ++ xs) (sym none) ∙ comes-so s P v number alike both.0)
