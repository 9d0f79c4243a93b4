-- What a save and a saved answer, by the log.
use Rattle.std.proofs.Common.{◌≡◌, ◌⊎◌, ℕ, Bool, true, false, not, ◌&&◌, ◌||◌, ◌∷◌, length, refl, sym, ◌∙◌, inl, inr, Option, Some, None}
use Rattle.std.specs.Prelude.{if◌then◌else◌}
use Rattle.std.specs.List.{list_any}
use Rattle.std.proofs.lemmas.Bool.{cases_Bool, false≢true, true≢false}
use Rattle.frame_store.specs.Sealed.{Sealed}
use Rattle.flow_journal.specs.declared.entry.Entry.TheVariants as entry
use Rattle.flow_journal.specs.Setting.{Setting, node}
use Rattle.flow_journal.specs.Hands.{hands, is_free, is_piece}
use Rattle.flow_journal.specs.Ended.{is_settled}
use Rattle.flow_journal.specs.Finished.{none_left}
use Rattle.flow_journal.specs.FirstEntries.{is_next}
use Rattle.flow_journal.specs.Puts.{puts}
use Rattle.flow_journal.specs.Unsaved.{unsaved, standing_saves, is_due, group_of}
use Rattle.board_rules.specs.declared.answers.Save.{Save}
use Rattle.board_rules.specs.declared.answers.Save.TheVariants.{Busy, NotYet, OutOfMemory, Piece}
use Rattle.board_rules.specs.States.{BoardState, past, lends}
use Rattle.board_rules.specs.Saving.{has_due, save_refusal, SaveAnswers, SaveGives, place_of, group_size}
use Rattle.flow_roles.specs.Feeder.{name_of, parts_of}

-- what a refusal says
refused : (b c : Bool) (a : Save Sealed) → (if b then Some Busy else if c then Some NotYet else None) ≡ Some a → ((b ≡ true) × (a ≡ Busy)) ⊎ (a ≡ NotYet)
refused true c a h = let same : Busy ≡ a = cc in inl (refl, sym same)
refused false true a h = let same : NotYet ≡ a = cc in inr (sym same)
refused false false a h = let none_ : ◌≡◌ {A = Option (Save Sealed)} None (Some a) = h in absurd (cc)

not_refused : (b c : Bool) → ◌≡◌ {A = Option (Save Sealed)} (if b then Some Busy else if c then Some NotYet else None) None → (b ≡ false) × (c ≡ false)
not_refused true c h = let some_ : ◌≡◌ {A = Option (Save Sealed)} (Some Busy) None = h in absurd (cc)
not_refused false true h = let some_ : ◌≡◌ {A = Option (Save Sealed)} (Some NotYet) None = h in absurd (cc)
not_refused false false h = (refl, refl)

-- what a piece says
pub record Given (s : Setting) (old : BoardState) (r v : ℕ) (input : Sealed) (group place : ℕ) (of : Option ℕ) (new : BoardState) : Type 0 where
  pub due : has_due s v (past old) ≡ true
  pub next : is_next (name_of input) (unsaved s v (past old)) ≡ true
  pub group_is : group ≡ group_of (node s v).work (length (standing_saves v (past old)))
  pub place_is : place ≡ place_of (node s v).work (length (standing_saves v (past old)))
  pub of_is : of ≡ group_size (node s v).work (length (standing_saves v (past old))) (is_settled v (past old)) (length (puts v (past old)))
  pub logged : new ≡ lends (entry.Save r v (name_of input).maker (name_of input).index group) (parts_of input) ∷ old

due-of : (a b c : Bool) → (not (a && b) || c) ≡ false → (a && b) ≡ true
due-of true true c h = refl
due-of true false c h = absurd (true≢false h)
due-of false b c h = absurd (true≢false h)

module _ (s : Setting) (old new : BoardState) (r v : ℕ) where
  abbrev busy : Bool
  busy = not (is_free r (past old))

  abbrev early : Bool
  early = not (has_due s v (past old)) || list_any (is_piece v) (hands (past old))

  piece-by : (input : Sealed) (group place : ℕ) (of : Option ℕ) (o : Option (Save Sealed)) → save_refusal {F = Sealed} s r v (past old) ≡ o
      → SaveAnswers name_of parts_of s old r v o (Piece input group place of) new → Given s old r v input group place of new
  piece-by input group place of (Some a) is c =
      absurd (elim (refused busy early a is) [
        | inl b ↦ let e : ◌≡◌ {A = Save Sealed} (Piece input group place of) Busy = c.0 ∙ b.1 in cc
        | inr n ↦ let e : ◌≡◌ {A = Save Sealed} (Piece input group place of) NotYet = c.0 ∙ n in cc
      ])
  piece-by input group place of None is c =
      record {
        due =
            due-of (not (none_left (unsaved s v (past old)))) (is_due (node s v).work v (past old))
            (list_any (is_piece v) (hands (past old))) (not_refused busy early is).1;
        next = c.0;
        group_is = c.2;
        place_is = c.3;
        of_is = c.4;
        logged = c.5;
      }

  pub piece-given : (input : Sealed) (group place : ℕ) (of : Option ℕ) → SaveGives name_of parts_of s old r v (Piece input group place of) new
      → Given s old r v input group place of new
  piece-given input group place of c = piece-by input group place of (save_refusal {F = Sealed} s r v (past old)) refl c

  not_yet-by : (o : Option (Save Sealed)) → SaveAnswers name_of parts_of s old r v o NotYet new → new ≡ old
  not_yet-by (Some a) c = c.1
  not_yet-by None c = absurd c

  pub not_yet-still : SaveGives name_of parts_of s old r v NotYet new → new ≡ old
  not_yet-still c = not_yet-by (save_refusal {F = Sealed} s r v (past old)) c

  busy-by : (o : Option (Save Sealed)) → save_refusal {F = Sealed} s r v (past old) ≡ o
      → SaveAnswers name_of parts_of s old r v o Busy new → is_free r (past old) ≡ false
  busy-by (Some a) is c =
      elim (refused busy early a is) [
        | inl b ↦ not_free b.0
        | inr n ↦ let e : ◌≡◌ {A = Save Sealed} Busy NotYet = c.0 ∙ n in absurd (cc)
      ]
    where
      not_free : busy ≡ true → is_free r (past old) ≡ false
      not_free h = elim (cases_Bool (is_free r (past old))) [ inl yes_ ↦ absurd (false≢true (rw yes_ at h)) | inr no_ ↦ no_ ]
  busy-by None is c = absurd c

  pub busy-held : SaveGives name_of parts_of s old r v Busy new → is_free r (past old) ≡ false
  busy-held c = busy-by (save_refusal {F = Sealed} s r v (past old)) refl c

  memory-by : (o : Option (Save Sealed)) → save_refusal {F = Sealed} s r v (past old) ≡ o → SaveAnswers name_of parts_of s old r v o OutOfMemory new → ⊥
  memory-by (Some a) is c =
      elim (refused busy early a is) [
        | inl b ↦ let e : ◌≡◌ {A = Save Sealed} OutOfMemory Busy = c.0 ∙ b.1 in cc
        | inr n ↦ let e : ◌≡◌ {A = Save Sealed} OutOfMemory NotYet = c.0 ∙ n in cc
      ]
  memory-by None is c = c.0 (λ f. refl)

  -- frames that tell their parts want no memory
  pub memory-never : SaveGives name_of parts_of s old r v OutOfMemory new → ⊥
  memory-never c = memory-by (save_refusal {F = Sealed} s r v (past old)) refl c
