-- The frame of a loaded block is the one that was offered last.
use Rattle.std.proofs.Common.{◌≡◌, ◌≢◌, ℕ, Bool, true, false, eqb, List, [], ◌∷◌, refl, sym, ap, ◌∙◌, arith, Some, inl, inr, subst}
use Rattle.std.specs.Prelude.{flat_map}
use Rattle.std.specs.List.{find}
use Rattle.std.proofs.lemmas.Bool.{and_parts, false≢true, true≢false, cases_Bool}
use Rattle.flow_journal.specs.declared.entry.Entry.{Entry}
use Rattle.flow_journal.specs.declared.entry.Entry.TheVariants.{Load, LoadRefused, Issue, Take, TakeBlock, Put, Save, Saved, Reclaim}
use Rattle.flow_journal.specs.Setting.{Setting}
use Rattle.flow_journal.specs.Pasts.{Past}
use Rattle.flow_journal.specs.Hands.{takes_up, let_go, hands, hand, standing, is_loaded}
use Rattle.flow_journal.specs.Offered.{loads, offered_frames}
use Rattle.flow_journal.specs.FirstEntries.{may_load, pool_grants, pool_refuses}
use Rattle.flow_journal.specs.Histories.{is_legal}
use Rattle.flow_journal.proofs.Hands.{row_of, find-let_go, find-none_is, hands-Apart, one-loaded, flat-let_go, stood}
use Rattle.flow_journal.proofs.Counts.{hand-standing, still_held, still_other}
use Rattle.flow_journal.proofs.EntryCounts.{bit, count-let_go}
use Rattle.flow_journal.proofs.Jobs.{reclaim_hand}
use Rattle.flow_journal.proofs.Pieces.{let_go-swap}
use Rattle.flow_journal.proofs.Found.{found_up}
use Rattle.flow_journal.proofs.Rows.{load-facts}

loads-none : (r : ℕ) (e : Entry) → takes_up r e ≡ true → is_loaded e ≡ false → loads e ≡ []
loads-none r (Load q k b n f g x) up h = absurd (true≢false h)
loads-none r (LoadRefused q k n z) up h = absurd (false≢true up)
loads-none r _ up h = refl

loads-let_go : (r : ℕ) (e : Entry) (es : List Entry) → find (takes_up r) es ≡ Some e → is_loaded e ≡ false → flat_map loads (let_go r es) ≡ flat_map loads es
loads-let_go r e es h n = flat-let_go loads r e es h (loads-none r e (found_up (takes_up r) e es h) n)

-- who else has something has no loaded block
other_unloaded : (s : Setting) (P : Past) (r p : ℕ) (e d : Entry) → is_legal s P ≡ true → r ≢ p → hand r P ≡ Some e → hand p P ≡ Some d
    → is_loaded e ≡ true → is_loaded d ≡ false
other_unloaded s P r p e d h ne he hd le =
    let other : find (takes_up p) (let_go r (hands P)) ≡ Some d = find-let_go r p (hands P) ne ∙ hd in
    elim (cases_Bool (is_loaded d)) [
      | inl loaded ↦
          absurd (omega (
            arith,
            one-loaded s P h,
            count-let_go is_loaded r e (hands P) he,
            count-let_go is_loaded p d (let_go r (hands P)) other,
            ap bit le,
            ap bit loaded,
          ))
      | inr none ↦ none
    ]

pub loaded-last : (s : Setting) (P : Past) (r q k b n : ℕ) (f : Bool) (g : ℕ) (x : Bool) → is_legal s P ≡ true → hand r P ≡ Some (Load q k b n f g x)
    → offered_frames P ≡ k ∷ flat_map loads (let_go r (standing P))
loaded-last s [] r q k b n f g x l h = cc
loaded-last s (Load p i c m d e y ∷ P) r q k b n f g x l h =
    elim (cases_Bool (eqb p r)) [
      | inl here ↦
          let same : Some (Load p i c m d e y) ≡ Some (Load q k b n f g x) = rw here at h in
          let is : i ≡ k = cc in
          rw here (ap (λ (j : ℕ). j ∷ flat_map loads (standing P)) is)
      | inr away ↦
          let before : hand r P ≡ Some (Load q k b n f g x) = still_other r p (Load q k b n f g x) (hands P) away (rw away at h) in
          let may : may_load s p i P ≡ true = (and_parts (may_load s p i P) (pool_grants s 0 c m d e y P) (row_of s (Load p i c m d e y) P (λ z. refl) l)).0 in
          absurd (true≢false (find-none_is (takes_up r) is_loaded (Load q k b n f g x) (hands P) (load-facts s p i P may).unloaded before))
    ]
loaded-last s (LoadRefused p i m z ∷ P) r q k b n f g x l h =
    let may : may_load s p i P ≡ true = (and_parts (may_load s p i P) (pool_refuses s 0 m z P) (row_of s (LoadRefused p i m z) P (λ u. refl) l)).0 in
    absurd (true≢false (find-none_is (takes_up r) is_loaded (Load q k b n f g x) (hands P) (load-facts s p i P may).unloaded h))
loaded-last s (Take p w i j ∷ P) r q k b n f g x l h =
    elim (cases_Bool (eqb p r)) [
      | inl here ↦ let never : Some (Take p w i j) ≡ Some (Load q k b n f g x) = rw here at h in cc
      | inr away ↦ rw away (loaded-last s P r q k b n f g x (and_parts _ _ l).0 (still_other r p (Load q k b n f g x) (hands P) away (rw away at h)))
    ]
loaded-last s (TakeBlock d y p w i j c m e ∷ P) r q k b n f g x l h =
    elim (cases_Bool (eqb p r)) [
      | inl here ↦ let never : Some (TakeBlock d y p w i j c m e) ≡ Some (Load q k b n f g x) = rw here at h in cc
      | inr away ↦ rw away (loaded-last s P r q k b n f g x (and_parts _ _ l).0 (still_other r p (Load q k b n f g x) (hands P) away (rw away at h)))
    ]
loaded-last s (Save p w i j z ∷ P) r q k b n f g x l h =
    elim (cases_Bool (eqb p r)) [
      | inl here ↦ let never : Some (Save p w i j z) ≡ Some (Load q k b n f g x) = rw here at h in cc
      | inr away ↦ rw away (loaded-last s P r q k b n f g x (and_parts _ _ l).0 (still_other r p (Load q k b n f g x) (hands P) away (rw away at h)))
    ]
loaded-last s (Issue p i ∷ P) r q k b n f g x l h =
    loaded-last s P r q k b n f g x (and_parts _ _ l).0 (still_held r p (Load q k b n f g x) (hands P) (hands-Apart P) h).1
loaded-last s (Put p w i j d ∷ P) r q k b n f g x l h =
    loaded-last s P r q k b n f g x (and_parts _ _ l).0 (still_held r p (Load q k b n f g x) (hands P) (hands-Apart P) h).1
loaded-last s (Saved p w i j ∷ P) r q k b n f g x l h =
    loaded-last s P r q k b n f g x (and_parts _ _ l).0 (still_held r p (Load q k b n f g x) (hands P) (hands-Apart P) h).1
loaded-last s (Reclaim p ∷ P) r q k b n f g x l h =
    let legal : is_legal s P ≡ true = (and_parts _ _ l).0 in
    let still = still_held r p (Load q k b n f g x) (hands P) (hands-Apart P) h in
    let e = reclaim_hand s p P l in
    let none : is_loaded e.0 ≡ false = other_unloaded s P r p (Load q k b n f g x) e.0 legal (λ y. still.0 (sym y)) still.1 e.1 refl in
    let stands : find (takes_up p) (standing P) ≡ Some e.0 = hand-standing s P p e.0 legal e.1 in
    let rest = loaded-last s P r q k b n f g x legal still.1 in
    let front : flat_map loads (let_go p (let_go r (standing P))) ≡ flat_map loads (let_go r (standing P)) =
    loads-let_go p e.0 (let_go r (standing P)) (find-let_go r p (standing P) (λ y. still.0 (sym y)) ∙ stands) none in
    subst (λ (es : List Entry). flat_map loads es ≡ k ∷ flat_map loads (let_go r es)) (sym (stood p e.0 P e.1))
    (loads-let_go p e.0 (standing P) stands none
    ∙ (rest ∙ ap (λ (ks : List ℕ). k ∷ ks) (sym front ∙ ap (flat_map loads) (let_go-swap p r (standing P) still.0))))
loaded-last s (_ ∷ P) r q k b n f g x l h = loaded-last s P r q k b n f g x (and_parts _ _ l).0 h

-- a reclaim of another hand leaves what was offered
pub offered-Reclaim_other : (s : Setting) (r : ℕ) (e : Entry) (P : Past) → is_legal s P ≡ true → hand r P ≡ Some e → is_loaded e ≡ false
    → offered_frames (Reclaim r ∷ P) ≡ offered_frames P
offered-Reclaim_other s r e P legal held none = ap (flat_map loads) (stood r e P held) ∙ loads-let_go r e (standing P) (hand-standing s P r e legal held) none
