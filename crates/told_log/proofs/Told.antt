-- What is told of a log: its past, and what a push adds.
use Rattle.std.proofs.Common.{◌≡◌, ℕ, ◌++◌, true, List, [], ◌∷◌, length, reverse, drop, refl, suc, sym, ap, ◌∙◌, Option, inl, inr}
use Rattle.std.proofs.lemmas.Bool.{cases_Bool, false≢true}
use Rattle.std.proofs.lemmas.List.{reverse-append, length-reverse}
use Rattle.nd_base.specs.Parts.{Parts}
use Rattle.flow_journal.specs.declared.entry.Entry.{Entry}
use Rattle.flow_journal.specs.Pasts.{Past}
use Rattle.board_rules.specs.States.{BoardState, past, plain, lends}
use Rattle.told_log.specs.ToldLogs.{gives_part, is_plain}
use Rattle.flow_journal.specs.EntryTests.{is_reclaim}
use Rattle.told_log.specs.Inside.{told_with}

pub past-told_with : (P : Past) (parts : List (Option Parts)) (lost : List (List ℕ)) → past (told_with P parts lost) ≡ P
past-told_with [] parts lost = refl
past-told_with (e ∷ P) parts lost =
    elim (cases_Bool (gives_part e)) [
      | inl gives ↦ rw gives (ap (λ (Q : Past). e ∷ Q) (past-told_with P (drop 1 parts) lost))
      | inr other ↦ rw other (elim (cases_Bool (is_reclaim e)) [
        | inl reclaim ↦ rw reclaim (ap (λ (Q : Past). e ∷ Q) (past-told_with P parts (drop 1 lost)))
        | inr alone ↦ rw alone (ap (λ (Q : Past). e ∷ Q) (past-told_with P parts lost))
      ])
    ]

pub length-past : (b : BoardState) → length (past b) ≡ length b
length-past [] = refl
length-past (t ∷ b) = ap (λ (n : ℕ). suc n) (length-past b)

pub length-told_with : (P : Past) (parts : List (Option Parts)) (lost : List (List ℕ)) → length (told_with P parts lost) ≡ length P
length-told_with P parts lost = sym (length-past (told_with P parts lost)) ∙ ap length (past-told_with P parts lost)

pub told_plain : (e : Entry) (P : Past) (parts : List (Option Parts)) (lost : List (List ℕ)) → is_plain e ≡ true
    → told_with (e ∷ P) parts lost ≡ plain e ∷ told_with P parts lost
told_plain e P parts lost alone =
    elim (cases_Bool (gives_part e)) [
      | inl gives ↦ absurd (false≢true (rw gives at alone))
      | inr other ↦ rw other (elim (cases_Bool (is_reclaim e)) [
        | inl reclaim ↦ absurd (false≢true (rw (other, reclaim) at alone))
        | inr neither ↦ rw neither refl
      ])
    ]

pub told_lent : (e : Entry) (P : Past) (p : Option Parts) (parts : List (Option Parts)) (lost : List (List ℕ)) → gives_part e ≡ true
    → told_with (e ∷ P) (p ∷ parts) lost ≡ lends e p ∷ told_with P parts lost
told_lent e P p parts lost gives = rw gives refl

pub reverse-push : {X : Type 0} (xs : List X) (x : X) → reverse (xs ++ x ∷ []) ≡ x ∷ reverse xs
reverse-push xs x = reverse-append xs (x ∷ [])

pub ruleset pushes = (past-told_with, length-told_with, told_plain, told_lent, reverse-push)

pub ruleset lengths = (length-past, length-reverse)
