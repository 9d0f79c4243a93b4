-- A tick is owed alone.
use Rattle.std.proofs.Common.{◌≡◌, ℕ, Bool, true, false, cond, List, [], ◌∷◌, ◌++◌, map, drop, refl, ap, ◌∙◌, subst}
use Rattle.std.specs.Prelude.{flat_map}
use Rattle.std.specs.List.{list_all}
use Rattle.std.proofs.lemmas.Bool.{and_parts, and_from, false≢true}
use Rattle.nd_base.specs.declared.frame.FrameName.{FrameName}
use Rattle.flow_journal.specs.declared.entry.Entry.{Entry}
use Rattle.flow_journal.specs.declared.entry.Entry.TheVariants.{Load, LoadRefused, Tick, Emit, Put, Settle}
use Rattle.flow_journal.specs.Setting.{Setting, node, is_sorted, node_numbers}
use Rattle.flow_journal.specs.Turns.{offered_to}
use Rattle.flow_journal.specs.Pasts.{Past, frame}
use Rattle.flow_journal.specs.Waiting.{waiting, least_first}
use Rattle.flow_journal.specs.Following.{offer, look, calls_for, owed}
use Rattle.flow_journal.specs.Histories.{is_legal, is_nothing}
use Rattle.flow_journal.specs.Pushes.{is_nothing-true}
use Rattle.flow_journal.proofs.EntryCounts.{owed-first, owed-answered, answers-by_Tick}
use Rattle.flow_journal.proofs.Outs.{is_out_at, AllOutAt, all-append, result-at, flush-at, goes_out-at}

abbrev is_not_tick : Entry → Bool
is_not_tick (Tick t) = false
is_not_tick _ = true

abbrev ticks_end : List Entry → Bool
ticks_end [] = true
ticks_end (Tick t ∷ ds) = is_nothing ds
ticks_end (d ∷ ds) = ticks_end ds

ends-more : (xs ys : List Entry) → list_all is_not_tick xs ≡ true → ticks_end ys ≡ true → ticks_end (xs ++ ys) ≡ true
ends-more [] ys h e = e
ends-more (Tick t ∷ xs) ys h e = absurd (false≢true h)
ends-more (_ ∷ xs) ys h e = ends-more xs ys h e

ends-rest : (ds : List Entry) → ticks_end ds ≡ true → ticks_end (drop 1 ds) ≡ true
ends-rest [] e = refl
ends-rest (Tick t ∷ ds) e = ap ticks_end (is_nothing-true ds e)
ends-rest (_ ∷ ds) e = e

out_no_tick : (v : ℕ) (ds : List Entry) → AllOutAt v ds → list_all is_not_tick ds ≡ true
out_no_tick v [] h = refl
out_no_tick v (Tick t ∷ ds) h = absurd (false≢true h)
out_no_tick v (d ∷ ds) h = and_from _ _ (one d p.0) (out_no_tick v ds p.1)
  where
    p : (is_out_at v d ≡ true) × (list_all (is_out_at v) ds ≡ true)
    p = and_parts (is_out_at v d) (list_all (is_out_at v) ds) h

    one : (d : Entry) → is_out_at v d ≡ true → is_not_tick d ≡ true
    one (Tick t) q = absurd (false≢true q)
    one _ q = refl

offers_no_tick : (a : FrameName) (cs : List ℕ) → list_all is_not_tick (map (offer a) cs) ≡ true
offers_no_tick a [] = refl
offers_no_tick a (c ∷ cs) = offers_no_tick a cs

looks_no_tick : (s : Setting) (P : Past) (us : List ℕ) → list_all is_not_tick (flat_map (λ u. cond (is_sorted s u) (look s u P) []) us) ≡ true
looks_no_tick s P [] = refl
looks_no_tick s P (u ∷ us) =
    all-append is_not_tick (cond (is_sorted s u) (look s u P) []) (flat_map (λ w. cond (is_sorted s w) (look s w P) []) us)
    (one (is_sorted s u)) (looks_no_tick s P us)
  where
    one : (b : Bool) → list_all is_not_tick (cond b (look s u P) []) ≡ true
    one true = out_no_tick u (look s u P) (goes_out-at s u _ _ _)
    one false = refl

ticks : (s : Setting) (P : Past) → is_legal s P ≡ true → ticks_end (owed s P) ≡ true
ticks s [] h = refl
ticks s (Load r k b n f g x ∷ P) h = ap (λ (ds : List Entry). is_nothing (drop 1 ds)) (owed-first s (Load r k b n f g x) P (λ d. refl) h)
ticks s (LoadRefused r k n z ∷ P) h = ap (λ (ds : List Entry). is_nothing (drop 1 ds)) (owed-first s (LoadRefused r k n z) P (λ d. refl) h)
ticks s (Tick t ∷ P) h =
    ends-more (calls_for s P (Tick t)) (drop 1 (owed s P)) (looks_no_tick s (Tick t ∷ P) (node_numbers s))
    (ends-rest (owed s P) (ticks s P (and_parts _ _ h).0))
ticks s (Emit w m i why ∷ P) h =
    ends-more (calls_for s P (Emit w m i why)) (drop 1 (owed s P)) (offers_no_tick (frame m i) (offered_to s P w))
    (ends-rest (owed s P) (ticks s P (and_parts _ _ h).0))
ticks s (Put r w m i f ∷ P) h =
    ends-more (calls_for s P (Put r w m i f)) (drop 1 (owed s P))
    (out_no_tick w (calls_for s P (Put r w m i f)) (result-at s w (frame m i) f P (node s w).work)) (ends-rest (owed s P) (ticks s P (and_parts _ _ h).0))
ticks s (Settle r w ∷ P) h =
    ends-more (calls_for s P (Settle r w)) (drop 1 (owed s P)) (out_no_tick w (calls_for s P (Settle r w)) (flush-at w (least_first s (waiting s w P))))
    (ends-rest (owed s P) (ticks s P (and_parts _ _ h).0))
ticks s (_ ∷ P) h = ends-rest (owed s P) (ticks s P (and_parts _ _ h).0)

-- when a tick comes nothing else is owed
pub tick-alone : (s : Setting) (t : ℕ) (P : Past) → is_legal s (Tick t ∷ P) ≡ true → drop 1 (owed s P) ≡ []
tick-alone s t P h =
    let a = owed-answered s (Tick t) P refl h in
    let is = answers-by_Tick s P t a.head a.answer in
    let alone : is_nothing a.rest ≡ true =
    subst (λ (ds : List Entry). ticks_end ds ≡ true) (a.is ∙ ap (λ (d : Entry). d ∷ a.rest) is.1) (ticks s P (and_parts _ _ h).0) in
    ap (drop 1) a.is ∙ is_nothing-true a.rest alone
