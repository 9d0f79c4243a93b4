-- What is found in a list, and that a test counts nothing where no item passes it.
use Rattle.std.proofs.Common.{◌≡◌, Bool, true, false, List, [], ◌∷◌, refl, subst, ap, arith, Option, Some, None, inl, inr}
use Rattle.std.specs.Prelude.{is_none}
use Rattle.std.specs.List.{list_any, find}
use Rattle.std.proofs.lemmas.Bool.{true≢false, false≢true, cases_Bool, or_parts, or_from}
use Rattle.flow_journal.specs.declared.entry.Entry.{Entry}
use Rattle.flow_journal.specs.Finished.{none_left}
use Rattle.flow_journal.proofs.EntryCounts.{bit, count, count-cons}

-- what is found passes the test
pub found_up : (p : Entry → Bool) (e : Entry) (hs : List Entry) → find p hs ≡ Some e → p e ≡ true
found_up p e [] h = cc
found_up p e (x ∷ hs) h =
    elim (cases_Bool (p x)) [
      | inl here ↦ let is : Some x ≡ Some e = rw here at h in let same : x ≡ e = cc in subst (λ (y : Entry). p y ≡ true) same here
      | inr away ↦ found_up p e hs (rw away at h)
    ]

pub some_hand : (o : Option Entry) → is_none o ≡ false → (e : Entry) × (o ≡ Some e)
some_hand None h = absurd (true≢false h)
some_hand (Some e) h = (e, refl)

pub none_counted : {X : Type 0} (p : X → Bool) (xs : List X) → list_any p xs ≡ false → count p xs ≡ 0
none_counted p [] h = refl
none_counted p (x ∷ xs) h = let q = or_parts (p x) (list_any p xs) h in omega (arith, count-cons p x xs, ap bit q.0, none_counted p xs q.1)

pub none_any : {X : Type 0} (p : X → Bool) (xs : List X) → count p xs ≡ 0 → list_any p xs ≡ false
none_any p [] h = refl
none_any p (x ∷ xs) h =
    elim (cases_Bool (p x)) [
      | inl here ↦ absurd (omega (arith, count-cons p x xs, ap bit here, h))
      | inr away ↦ or_from (p x) (list_any p xs) away (none_any p xs (omega (arith, count-cons p x xs, h)))
    ]

pub none_left-nil : {X : Type 0} (xs : List X) → none_left xs ≡ true → xs ≡ []
none_left-nil [] h = refl
none_left-nil (x ∷ xs) h = absurd (false≢true h)
