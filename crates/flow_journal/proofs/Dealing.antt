-- What is offered of an emission goes to children of the node, and to each once at most.
use Rattle.std.proofs.Common.{◌≡◌, ℕ, ◌+◌, ◌≤◌, Bool, List, [], ◌∷◌, ◌++◌, drop, take, sym, ap, ◌∙◌, arith, inl, inr}
use Rattle.std.specs.Prelude.{filter}
use Rattle.std.proofs.lemmas.Bool.{cases_Bool}
use Rattle.std.proofs.lemmas.List.{take-append-drop}
use Rattle.flow_journal.specs.Setting.{Setting, children}
use Rattle.flow_journal.specs.Pasts.{Past}
use Rattle.flow_journal.specs.Queued.{has_room}
use Rattle.flow_journal.specs.Turns.{deals, turn, round_from, in_turn, offered_to}
use Rattle.flow_journal.proofs.EntryCounts.{count, count-cons, count-append}

count-first : (p : ℕ → Bool) (xs : List ℕ) → count p (take 1 xs) ≤ count p xs
count-first p [] = omega arith
count-first p (x ∷ xs) = omega (arith, count-cons p x xs, count-cons p x [])

count-chosen : (p q : ℕ → Bool) (xs : List ℕ) → count p (filter q xs) ≤ count p xs
count-chosen p q [] = omega arith
count-chosen p q (x ∷ xs) =
    elim (cases_Bool (q x)) [
      | inl here ↦ rw here (omega (arith, count-chosen p q xs, count-cons p x (filter q xs), count-cons p x xs))
      | inr away ↦ rw away (omega (arith, count-chosen p q xs, count-cons p x xs))
    ]

-- of two lists the first of the first, or else the first of the second
count-either : (p : ℕ → Bool) (xs ys : List ℕ) → count p xs ≤ count p ys → count p (take 1 (xs ++ ys)) ≤ count p ys
count-either p [] ys h = count-first p ys
count-either p (x ∷ xs) ys h = omega (arith, h, count-cons p x xs, count-cons p x [])

count-round : (p : ℕ → Bool) (n : ℕ) (cs : List ℕ) → count p (round_from n cs) ≡ count p cs
count-round p n cs =
    let apart : count p cs ≡ count p (take n cs) + count p (drop n cs) = ap (count p) (sym (take-append-drop n cs)) ∙ count-append p (take n cs) (drop n cs) in
    omega (arith, apart, count-append p (drop n cs) (take n cs))

pub count-offered : (p : ℕ → Bool) (s : Setting) (P : Past) (v : ℕ) → count p (offered_to s P v) ≤ count p (children s v)
count-offered p s P v =
    elim (cases_Bool (deals s v)) [
      | inl dealt ↦
          let cs : List ℕ = in_turn s P v in
          rw dealt (omega (arith, count-either p (filter (has_room s P) cs) cs (count-chosen p (has_room s P) cs), count-round p (turn s v P) (children s v)))
      | inr all ↦ rw all (omega arith)
    ]
