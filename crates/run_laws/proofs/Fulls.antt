-- No Full is owed: what answers an offer that finds no room was owed as an Accept.
use Rattle.std.proofs.Common.{◌≡◌, ℕ, ◌+◌, ◌≤◌, Bool, true, false, ◌&&◌, cond, eqb, List, [], ◌∷◌, map, drop, refl, sym, ap, ◌∙◌, arith, inl, inr, ◌⊎◌}
use Rattle.std.specs.Prelude.{flat_map}
use Rattle.std.specs.List.{list_all}
use Rattle.std.proofs.lemmas.Bool.{and_parts, false≢true, true≢false, eqb-true, cases_Bool}
use Rattle.nd_base.specs.declared.frame.FrameName.{FrameName}
use Rattle.flow_journal.specs.declared.entry.Entry.{Entry}
use Rattle.flow_journal.specs.declared.entry.Entry.TheVariants.{Tick, Emit, Accept, Full, Put, Settle}
use Rattle.flow_journal.specs.Setting.{Setting, node, is_sorted, node_numbers}
use Rattle.flow_journal.specs.Turns.{offered_to}
use Rattle.flow_journal.specs.Pasts.{Past, frame}
use Rattle.flow_journal.specs.Queued.{has_room}
use Rattle.flow_journal.specs.Waiting.{waiting, least_first}
use Rattle.flow_journal.specs.Following.{offer, look, calls_for, owed}
use Rattle.flow_journal.specs.Histories.{answers}
use Rattle.flow_journal.proofs.EntryCounts.{count, bit, count-cons, count-append, count-drop}
use Rattle.flow_journal.proofs.Outs.{is_out_at, AllOutAt, result-at, flush-at, goes_out-at}

-- no more is owed than what the entry calls for and what was owed before
pub less-owed : (s : Setting) (p : Entry → Bool) (e : Entry) (P : Past) → count p (owed s (e ∷ P)) ≤ count p (calls_for s P e) + count p (owed s P)
less-owed s p e P = omega (arith, count-append p (calls_for s P e) (drop 1 (owed s P)), count-drop p (owed s P))

-- no Full is owed: an offer is owed as an Accept
abbrev pub is_any_full : Entry → Bool
is_any_full (Full w m k) = true
is_any_full _ = false

out_no_full : (w : ℕ) (e : Entry) → is_out_at w e ≡ true → is_any_full e ≡ false
out_no_full w (Full c m i) h = absurd (false≢true h)
out_no_full w _ h = refl

no_fulls : (w : ℕ) (ds : List Entry) → AllOutAt w ds → count is_any_full ds ≡ 0
no_fulls w [] h = refl
no_fulls w (d ∷ ds) h =
    let p = and_parts (is_out_at w d) (list_all (is_out_at w) ds) h in
    omega (arith, count-cons is_any_full d ds, ap bit (out_no_full w d p.0), no_fulls w ds p.1)

no_fulls-if : (s : Setting) (P : Past) (u : ℕ) (b : Bool) → count is_any_full (cond b (look s u P) []) ≡ 0
no_fulls-if s P u true = no_fulls u (look s u P) (goes_out-at s u _ _ _)
no_fulls-if s P u false = refl

no_fulls-looks : (s : Setting) (P : Past) (us : List ℕ) → count is_any_full (flat_map (λ u. cond (is_sorted s u) (look s u P) []) us) ≡ 0
no_fulls-looks s P [] = refl
no_fulls-looks s P (u ∷ us) =
    omega (
      arith,
      count-append is_any_full (cond (is_sorted s u) (look s u P) []) (flat_map (λ w. cond (is_sorted s w) (look s w P) []) us),
      no_fulls-if s P u (is_sorted s u),
      no_fulls-looks s P us,
    )

no_fulls-offers : (a : FrameName) (cs : List ℕ) → count is_any_full (map (offer a) cs) ≡ 0
no_fulls-offers a [] = refl
no_fulls-offers a (c ∷ cs) = no_fulls-offers a cs

pub no_full_owed : (s : Setting) (P : Past) → count is_any_full (owed s P) ≡ 0
no_full_owed s [] = refl
no_full_owed s (Tick t ∷ P) = omega (arith, no_full_owed s P, less-owed s is_any_full (Tick t) P, no_fulls-looks s (Tick t ∷ P) (node_numbers s))
no_full_owed s (Emit w m i why ∷ P) =
    omega (arith, no_full_owed s P, less-owed s is_any_full (Emit w m i why) P, no_fulls-offers (frame m i) (offered_to s P w))
no_full_owed s (Put r w m i f ∷ P) =
    omega (
      arith,
      no_full_owed s P,
      less-owed s is_any_full (Put r w m i f) P,
      no_fulls w (calls_for s P (Put r w m i f)) (result-at s w (frame m i) f P (node s w).work),
    )
no_full_owed s (Settle r w ∷ P) =
    omega (
      arith,
      no_full_owed s P,
      less-owed s is_any_full (Settle r w) P,
      no_fulls w (calls_for s P (Settle r w)) (flush-at w (least_first s (waiting s w P))),
    )
no_full_owed s (e ∷ P) = omega (arith, no_full_owed s P, count-drop is_any_full (owed s P))

-- what answers an offer that finds no room
pub full-answers : (s : Setting) (P : Past) (v m k : ℕ) (d : Entry) → answers s P (Full v m k) d ≡ true → is_any_full d ≡ false
    → (d ≡ Accept v m k) × (has_room s P v ≡ false)
full-answers s P v m k (Accept c n j) h owed_one = by (cases_Bool (has_room s P c))
  where
    by : (has_room s P c ≡ true) ⊎ (has_room s P c ≡ false) → (Accept c n j ≡ Accept v m k) × (has_room s P v ≡ false)
    by (inl room) = absurd (false≢true (rw room at h))
    by (inr full) =
        let all : (eqb c v && eqb n m && eqb j k) ≡ true = rw full at h in
        let p = and_parts (eqb c v && eqb n m) (eqb j k) all in
        let q = and_parts (eqb c v) (eqb n m) p.0 in
        let node_is : c ≡ v = eqb-true c v q.0 in
        let maker : n ≡ m = eqb-true n m q.1 in
        let index : j ≡ k = eqb-true j k p.1 in
        let same : Accept c n j ≡ Accept v m k = cc in
        (same, sym (ap (has_room s P) node_is) ∙ full)
full-answers s P v m k (Full c n j) h owed_one = absurd (true≢false owed_one)
full-answers s P v m k _ h owed_one = absurd (false≢true h)

pub head-no_full : (d : Entry) (ds : List Entry) → count is_any_full (d ∷ ds) ≡ 0 → is_any_full d ≡ false
head-no_full d ds h = elim (cases_Bool (is_any_full d)) [ inl full ↦ absurd (omega (arith, h, count-cons is_any_full d ds, ap bit full)) | inr other ↦ other ]
