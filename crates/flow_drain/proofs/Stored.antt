-- Where all that was handed out for the roles' hands comes back, nothing stays away.
use Rattle.std.proofs.Common.{◌≡◌, ◌≢◌, ℕ, suc, ◌+◌, List, [], ◌∷◌, refl, sym, subst, arith, Option, Some, inl, inr}
use Rattle.std.specs.Prelude.{slice_get}
use Rattle.std.proofs.lemmas.Bool.{cases_Bool, ne_eqb}
use Rattle.nd_base.specs.Parts.{Parts}
use Rattle.nd_base.specs.declared.frame.FrameName.{FrameName}
use Rattle.flow_journal.specs.declared.entry.Entry.{Entry}
use Rattle.flow_journal.specs.declared.entry.Entry.TheVariants.{Reclaim}
use Rattle.flow_journal.specs.Setting.{Setting}
use Rattle.flow_journal.specs.Hands.{hand, is_free}
use Rattle.flow_journal.proofs.Changes.{hand_laws}
use Rattle.board_rules.specs.declared.answers.Left.{Left}
use Rattle.board_rules.specs.States.{BoardState, past, loses, lent_to}
use Rattle.board_rules.specs.Moving.{moved}
use Rattle.board_rules.specs.InHand.{IsOfHand}
use Rattle.board_rules.specs.Storage.{lost_of, HasAllStorage}
use Rattle.board_rules.proofs.Storage.{none-lost, move-keeps}
use Rattle.flow_drain.specs.Drains.{taken, taken_back}

module _ {F B O : Type 0} (name_of : F → FrameName) (parts : F → Option Parts) (bytes_of : B → ℕ) (s : Setting) where
  -- this is what was handed out for the hand of role r on the board
  abbrev pub Brings : BoardState → (r : ℕ) → Left F B O → Type 0
  Brings b r left = IsOfHand name_of parts bytes_of (lent_to r b) (hand r (past b)) left.input left.made left.blank

  taken-keeps : (r : ℕ) (left : Left F B O) (b : BoardState) → Brings b r left → HasAllStorage parts b → HasAllStorage parts (taken name_of s r left b)
  taken-keeps r left b all h =
      let t = loses r (lost_of name_of (past b) (hand r (past b)) left) in
      elim (cases_Bool (is_free r (past b))) [
        | inl free ↦ rw free h
        | inr held ↦
            rw held (move-keeps parts s 0 t b (moved s t b)
            (none-lost name_of parts bytes_of (past b) (lent_to r b) (hand r (past b)) left all, λ none. refl) refl h)
      ]

  -- what is taken back of one role changes no other hand
  others-bring : (q r : ℕ) (left other : Left F B O) (b : BoardState) → q ≢ r → Brings b q other → Brings (taken name_of s r left b) q other
  others-bring q r left other b apart all =
      elim (cases_Bool (is_free r (past b))) [
        | inl free ↦ rw free all
        | inr held ↦
            rw held (subst (λ (o : Option Entry). IsOfHand name_of parts bytes_of (lent_to q b) o other.input other.made other.blank)
            (sym (hand_laws.others q (Reclaim r) (past b) refl (ne_eqb r q (λ is. apart (sym is))))) all)
      ]

  pub back-keeps : (r : ℕ) (ends : List (Left F B O)) (b : BoardState)
      → ((k : ℕ) (left : Left F B O) → slice_get ends k ≡ Some left → Brings b (r + k) left)
      → HasAllStorage parts b → HasAllStorage parts (taken_back name_of s r ends b)
  back-keeps r [] b all h = h
  back-keeps r (left ∷ ends) b all h =
      let first : Brings b r left = subst (λ (q : ℕ). Brings b q left) (let e : r + 0 ≡ r = omega arith in e) (all 0 left refl) in
      back-keeps (suc r) ends (taken name_of s r left b)
      (λ k l at. others-bring (suc r + k) r left l b (λ is. omega (arith, is))
      (subst (λ (q : ℕ). Brings b q l) (let e : r + suc k ≡ suc r + k = omega arith in e) (all (suc k) l at)))
      (taken-keeps r left b first h)
