-- The next index is the number of the frames that were offered.
use Rattle.std.proofs.Common.{◌≡◌, ◌≢◌, ℕ, zero, suc, ◌+◌, ◌<◌, true, eqb, List, [], ◌∷◌, length, refl, sym, ap, ◌∙◌, arith, Some, inl, inr}
use Rattle.std.specs.List.{list_any}
use Rattle.std.proofs.lemmas.Bool.{and_parts, eq-eqb, or_left, or_right, cases_Bool, true≢false, false≢true}
use Rattle.pool_ledger.specs.Grants.{above, missing_from, least_missing}
use Rattle.flow_journal.specs.declared.entry.Entry.{Entry}
use Rattle.flow_journal.specs.declared.entry.Entry.TheVariants.{Load, LoadRefused, Reclaim}
use Rattle.flow_journal.specs.Setting.{Setting}
use Rattle.flow_journal.specs.Pasts.{Past}
use Rattle.flow_journal.specs.Hands.{hand, is_loaded}
use Rattle.flow_journal.specs.Offered.{offered_frames, next_index}
use Rattle.flow_journal.specs.FirstEntries.{may_load, pool_grants, pool_refuses}
use Rattle.flow_journal.specs.Histories.{is_legal}
use Rattle.flow_journal.specs.IndexLaws.{below, IndexLaws}
use Rattle.flow_journal.proofs.Rows.{load-facts}
use Rattle.flow_journal.proofs.Hands.{row_of}
use Rattle.flow_journal.proofs.Jobs.{reclaim_hand}
use Rattle.flow_journal.proofs.Loads.{offered-Reclaim_other}
use Rattle.flow_journal.proofs.Changes.{offer_laws, frames_others}

-- NUMBERS BELOW

above-below : (n : ℕ) → above (below n) ≡ n
above-below zero = refl
above-below (suc n) = let rest = above-below n in omega (arith, rest)

has-below : (k n : ℕ) → k < n → list_any (λ j. eqb j k) (below n) ≡ true
has-below k zero h = absurd (omega (arith, h))
has-below k (suc n) h =
    elim (cases_Bool (eqb n k)) [
      | inl here ↦ or_left (eqb n k) _ here
      | inr away ↦ or_right (eqb n k) _ (has-below k n (below_rest k n h (λ e. true≢false (sym (eq-eqb n k e) ∙ away))))
    ]
  where
    below_rest : (k n : ℕ) → k < suc n → n ≢ k → k < n
    below_rest k n h ne = omega (arith, h, ne)

missing-below : (n steps k : ℕ) → k + steps ≡ n → missing_from steps k (below n) ≡ n
missing-below n zero k h = omega (arith, h)
missing-below n (suc steps) k h = rw (has-below k n (omega (arith, h))) (missing-below n steps (k + 1) (omega (arith, h)))

least-below : (n : ℕ) → least_missing (below n) ≡ n
least-below n = ap (λ (steps : ℕ). missing_from steps 0 (below n)) (above-below n) ∙ missing-below n n 0 (omega arith)

-- WHAT WAS OFFERED

offered_below : (s : Setting) (P : Past) → is_legal s P ≡ true → (n : ℕ) × (offered_frames P ≡ below n)
offered_below s [] h = (0, refl)
offered_below s (Load r k b n f g x ∷ P) h =
    let before = offered_below s P (and_parts _ _ h).0 in
    let may : may_load s r k P ≡ true = (and_parts (may_load s r k P) (pool_grants s 0 b n f g x P) (row_of s (Load r k b n f g x) P (λ d. refl) h)).0 in
    let turn : k ≡ before.0 = (load-facts s r k P may).in_turn ∙ (ap least_missing before.1 ∙ least-below before.0) in
    (suc before.0, ap (λ (j : ℕ). j ∷ offered_frames P) turn ∙ ap (λ (ks : List ℕ). before.0 ∷ ks) before.1)
offered_below s (LoadRefused r k n z ∷ P) h =
    let before = offered_below s P (and_parts _ _ h).0 in
    let may : may_load s r k P ≡ true = (and_parts (may_load s r k P) (pool_refuses s 0 n z P) (row_of s (LoadRefused r k n z) P (λ d. refl) h)).0 in
    let turn : k ≡ before.0 = (load-facts s r k P may).in_turn ∙ (ap least_missing before.1 ∙ least-below before.0) in
    (suc before.0, ap (λ (j : ℕ). j ∷ offered_frames P) turn ∙ ap (λ (ks : List ℕ). before.0 ∷ ks) before.1)
offered_below s (Reclaim r ∷ P) h =
    let legal : is_legal s P ≡ true = (and_parts _ _ h).0 in
    let before = offered_below s P legal in
    let e = reclaim_hand s r P h in
    elim (cases_Bool (is_loaded e.0)) [
      | inl loaded ↦ of_load s r e.0 P legal e.1 loaded before.0 before.1
      | inr other ↦ (before.0, offered-Reclaim_other s r e.0 P legal e.1 other ∙ before.1)
    ]
  where
    fewer : (k n : ℕ) (ks : List ℕ) → below n ≡ k ∷ ks → (m : ℕ) × (ks ≡ below m)
    fewer k zero ks e = cc
    fewer k (suc n) ks e = (n, (let same : n ∷ below n ≡ k ∷ ks = e in cc))

    of_load : (s : Setting) (r : ℕ) (e : Entry) (P : Past) → is_legal s P ≡ true → hand r P ≡ Some e → is_loaded e ≡ true → (n : ℕ) → offered_frames P ≡ below n
        → (m : ℕ) × (offered_frames (Reclaim r ∷ P) ≡ below m)
    of_load s r (Load q k b n f g x) P legal held loaded c is =
        fewer k c (offered_frames (Reclaim r ∷ P)) (sym is ∙ offer_laws.reclaim s r q k b n f g x P legal held)
    of_load s r _ P legal held loaded c is = absurd (false≢true loaded)
offered_below s (_ ∷ P) h = offered_below s P (and_parts _ _ h).0

next_of : (s : Setting) (P : Past) (h : is_legal s P ≡ true) → next_index P ≡ (offered_below s P h).0
next_of s P h = let b = offered_below s P h in ap least_missing b.1 ∙ least-below b.0

offered_all : (s : Setting) (P : Past) → is_legal s P ≡ true → offered_frames P ≡ below (next_index P)
offered_all s P h = (offered_below s P h).1 ∙ ap below (sym (next_of s P h))

-- one more frame is offered
next-more : (s : Setting) (k : ℕ) (P Q : Past) → is_legal s P ≡ true → k ≡ next_index P
    → offered_frames Q ≡ k ∷ offered_frames P → next_index Q ≡ next_index P + 1
next-more s k P Q h turn more =
    let whole : offered_frames Q ≡ below (suc (next_index P)) =
    more ∙ (ap (λ (j : ℕ). j ∷ offered_frames P) turn ∙ ap (λ (ks : List ℕ). next_index P ∷ ks) (offered_all s P h)) in
    ap least_missing whole ∙ (least-below (suc (next_index P)) ∙ omega arith)

-- one frame fewer
next-fewer : (s : Setting) (k : ℕ) (P Q : Past) → is_legal s P ≡ true → is_legal s Q ≡ true
    → offered_frames P ≡ k ∷ offered_frames Q → next_index P ≡ next_index Q + 1
next-fewer s k P Q h g fewer =
    let was : below (next_index P) ≡ k ∷ below (next_index Q) = sym (offered_all s P h) ∙ (fewer ∙ ap (λ (ks : List ℕ). k ∷ ks) (offered_all s Q g)) in
    let lengths : length (below (next_index P)) ≡ length (k ∷ below (next_index Q)) = ap length was in
    omega (arith, lengths, length-below (next_index P), length-below (next_index Q))
  where
    length-below : (n : ℕ) → length (below n) ≡ n
    length-below zero = refl
    length-below (suc n) = let rest = length-below n in omega (arith, rest)

pub index_laws : IndexLaws
index_laws = record {
  offered = offered_all;
  load = λ s r k b n f g x P h.
      let may : may_load s r k P ≡ true = (and_parts (may_load s r k P) (pool_grants s 0 b n f g x P) (row_of s (Load r k b n f g x) P (λ d. refl) h)).0 in
      next-more s k P (Load r k b n f g x ∷ P) (and_parts _ _ h).0 (load-facts s r k P may).in_turn (offer_laws.load r k b n f g x P);
  load_refused = λ s r k n z P h.
      let may : may_load s r k P ≡ true = (and_parts (may_load s r k P) (pool_refuses s 0 n z P) (row_of s (LoadRefused r k n z) P (λ d. refl) h)).0 in
      next-more s k P (LoadRefused r k n z ∷ P) (and_parts _ _ h).0 (load-facts s r k P may).in_turn (offer_laws.load_refused r k n z P);
  reclaim =
      λ s r q k b n f g x P h held. next-fewer s k P (Reclaim r ∷ P) (and_parts _ _ h).0 h (offer_laws.reclaim s r q k b n f g x P (and_parts _ _ h).0 held);
  reclaim_other = λ s r e P legal held other. ap least_missing (offer_laws.reclaim_other s r e P legal held other);
  others = λ e P none. ap least_missing (frames_others e P none);
}
