-- To each list of entries there is one right verdict.
use Rattle.std.proofs.Common.{◌≡◌, ◌≢◌, ℕ, zero, suc, ◌-◌, ◌≤◌, ◌<◌, true, false, ltb, not, List, ◌++◌, length, reverse, take}
use Rattle.std.proofs.Common.{drop, refl, sym, ap, ◌∙◌, subst, inl, inr, arith, Result, Ok, Err}
use Rattle.std.proofs.lemmas.Bool.{and_parts, and_from, true≢false, cases_Bool, ltb-true, ltb-false, not-true, not_from_false}
use Rattle.std.proofs.lemmas.List.{reverse-append, take-append-drop, take-take, take_all}
use Rattle.flow_journal.specs.declared.entry.Entry.{Entry}
use Rattle.flow_journal.specs.Setting.{Setting}
use Rattle.flow_journal.specs.Following.{owed}
use Rattle.flow_journal.specs.Histories.{is_legal, is_history, is_nothing}
use Rattle.flow_journal.specs.Finished.{is_finished}
use Rattle.flow_journal.specs.FirstBad.{is_first_bad}
use Rattle.flow_journal.proofs.Histories.{legal-front}
use Rattle.flow_journal.proofs.Goings.{logs_go_on}
use Rattle.journal_check.specs.declared.fault.CheckFault.{CheckFault}
use Rattle.journal_check.specs.declared.fault.CheckFault.TheVariants as faults
use Rattle.journal_check.specs.Verdicts.{is_whole, is_unfinished, Checks}
use Rattle.journal_check.specs.VerdictLaws.{IsFront, IsNoFrontFrom, FrontsAreLegalLogs, FirstBadEndsFronts, OneVerdict, SomeVerdict}

-- FRONTS

front-legal : (s : Setting) (es : List Entry) → IsFront s es → is_legal s (reverse es) ≡ true
front-legal s es f = legal-front s f.0 (reverse es) (and_parts (is_legal s (f.0 ++ reverse es)) (is_nothing (owed s (f.0 ++ reverse es))) f.1).0

legal-is-front : (s : Setting) (es : List Entry) → is_legal s (reverse es) ≡ true → IsFront s es
legal-is-front s es h = logs_go_on s (reverse es) h

pub fronts : FrontsAreLegalLogs
fronts s es = (front-legal s es, legal-is-front s es)

-- what a log whose entries are in their places begins with is one, too
shorter : (s : Setting) (xs ys : List Entry) → is_legal s (reverse (xs ++ ys)) ≡ true → is_legal s (reverse xs) ≡ true
shorter s xs ys h = legal-front s (reverse ys) (reverse xs) (subst (λ (P : List Entry). is_legal s P ≡ true) (reverse-append xs ys) h)

legal-take : (s : Setting) (n : ℕ) (es : List Entry) → is_legal s (reverse es) ≡ true → is_legal s (reverse (take n es)) ≡ true
legal-take s n es h = shorter s (take n es) (drop n es) (subst (λ (xs : List Entry). is_legal s (reverse xs) ≡ true) (sym (take-append-drop n es)) h)

legal-fewer : (s : Setting) (n k : ℕ) (es : List Entry) → n ≤ k → is_legal s (reverse (take k es)) ≡ true → is_legal s (reverse (take n es)) ≡ true
legal-fewer s n k es h f = subst (λ (xs : List Entry). is_legal s (reverse xs) ≡ true) (take-take n k es h) (legal-take s n (take k es) f)

-- THE FIRST BAD ENTRY

pub bad-parts : (s : Setting) (es : List Entry) (n : ℕ) → is_first_bad s es n ≡ true
    → (is_legal s (reverse (take (n - 1) es)) ≡ true) × (is_legal s (reverse (take n es)) ≡ false)
bad-parts s es n h =
    let p = and_parts (is_legal s (reverse (take (n - 1) es))) (not (is_legal s (reverse (take n es)))) h in
    (p.0, not-true _ p.1)

pub bad-from : (s : Setting) (es : List Entry) (n : ℕ) → is_legal s (reverse (take (n - 1) es)) ≡ true → is_legal s (reverse (take n es)) ≡ false
    → is_first_bad s es n ≡ true
bad-from s es n before after = and_from _ _ before (not_from_false _ after)

not-later : (s : Setting) (es : List Entry) (n m : ℕ) → is_first_bad s es n ≡ true → is_first_bad s es m ≡ true → n < m → ⊥
not-later s es n m a b less =
    true≢false (sym (legal-fewer s n (m - 1) es (omega (arith, less)) (bad-parts s es m b).0) ∙ (bad-parts s es n a).1)

one-bad : (s : Setting) (es : List Entry) (n m : ℕ) → is_first_bad s es n ≡ true → is_first_bad s es m ≡ true → n ≡ m
one-bad s es n m a b =
    elim (cases_Bool (ltb n m)) [
      | inl less ↦ absurd (not-later s es n m a b (ltb-true n m less))
      | inr rest ↦ elim (cases_Bool (ltb m n)) [
        | inl more ↦ absurd (not-later s es m n b a (ltb-true m n more))
        | inr other ↦
            let low : m ≤ n = ltb-false n m rest in
            let high : n ≤ m = ltb-false m n other in
            omega (arith, low, high)
      ]
    ]

bad-some : (s : Setting) (es : List Entry) (n : ℕ) → is_first_bad s es n ≡ true → 1 ≤ n
bad-some s es zero h = absurd (true≢false (bad-parts s es zero h).1)
bad-some s es (suc n) h = omega arith

-- there is none behind the last entry
bad-within : (s : Setting) (es : List Entry) (n : ℕ) → is_first_bad s es n ≡ true → n ≤ length es
bad-within s es n h =
    elim (cases_Bool (ltb (length es) n)) [
      | inl past ↦
          let p = bad-parts s es n h in
          let over : length es < n = ltb-true (length es) n past in
          let all : is_legal s (reverse es) ≡ true =
          subst (λ (xs : List Entry). is_legal s (reverse xs) ≡ true) (take_all (n - 1) es (omega (arith, over))) p.0 in
          let none : is_legal s (reverse es) ≡ false = subst (λ (xs : List Entry). is_legal s (reverse xs) ≡ false) (take_all n es (omega (arith, over))) p.1 in
          absurd (true≢false (sym all ∙ none))
      | inr inside ↦ ltb-false (length es) n inside
    ]

no-front : (s : Setting) (es : List Entry) (n : ℕ) → is_first_bad s es n ≡ true → IsNoFrontFrom s es n
no-front s es n h =
    let p = bad-parts s es n h in
    record {
      some = bad-some s es n h;
      within = bad-within s es n h;
      before = λ m few. legal-is-front s (take m es) (legal-fewer s m (n - 1) es few p.0);
      after = λ f. true≢false (sym (front-legal s (take n es) f) ∙ p.1);
    }

front-ends : (s : Setting) (es : List Entry) (n : ℕ) → IsNoFrontFrom s es n → is_first_bad s es n ≡ true
front-ends s es n f =
    bad-from s es n (front-legal s (take (n - 1) es) (f.before (n - 1) (omega arith)))
    (elim (cases_Bool (is_legal s (reverse (take n es)))) [
      | inl good ↦ absurd (f.after (legal-is-front s (take n es) good))
      | inr bad ↦ bad
    ])

pub first_bad : FirstBadEndsFronts
first_bad s es n = (no-front s es n, front-ends s es n)

-- RIGHT ANSWERS

-- the answer is right; want of memory says nothing
abbrev pub IsRight : Setting → List Entry → Result (Unit {0}) CheckFault → Type 0
IsRight s es (Ok _) = is_whole s es ≡ true
IsRight s es (Err (faults.Entry n)) = is_first_bad s es n ≡ true
IsRight s es (Err faults.Unfinished) = is_unfinished s es ≡ true
IsRight s es (Err faults.OutOfMemory) = Unit {0}

whole-legal : (s : Setting) (es : List Entry) → is_whole s es ≡ true → is_legal s (reverse es) ≡ true
whole-legal s es h =
    let p = and_parts (is_history s (reverse es)) (is_finished s (reverse es)) h in
    (and_parts (is_legal s (reverse es)) (is_nothing (owed s (reverse es))) p.0).0

no-bad : (s : Setting) (es : List Entry) (n : ℕ) → is_legal s (reverse es) ≡ true → is_first_bad s es n ≡ true → ⊥
no-bad s es n h b = true≢false (sym (legal-take s n es h) ∙ (bad-parts s es n b).1)

open-parts : (s : Setting) (es : List Entry) → is_unfinished s es ≡ true → (is_legal s (reverse es) ≡ true) × (is_whole s es ≡ false)
open-parts s es h = let p = and_parts (is_legal s (reverse es)) (not (is_whole s es)) h in (p.0, not-true _ p.1)

right-one : (s : Setting) (es : List Entry) (a b : Result (Unit {0}) CheckFault) → a ≢ Err faults.OutOfMemory → b ≢ Err faults.OutOfMemory
    → IsRight s es a → IsRight s es b → a ≡ b
right-one s es (Ok _) (Ok _) p q a b = refl
right-one s es (Ok _) (Err (faults.Entry n)) p q a b = absurd (no-bad s es n (whole-legal s es a) b)
right-one s es (Ok _) (Err faults.Unfinished) p q a b = absurd (true≢false (sym a ∙ (open-parts s es b).1))
right-one s es (Err (faults.Entry n)) (Ok _) p q a b = absurd (no-bad s es n (whole-legal s es b) a)
right-one s es (Err (faults.Entry n)) (Err (faults.Entry m)) p q a b = ap (λ (i : ℕ). Err (faults.Entry i)) (one-bad s es n m a b)
right-one s es (Err (faults.Entry n)) (Err faults.Unfinished) p q a b = absurd (no-bad s es n (open-parts s es b).0 a)
right-one s es (Err faults.Unfinished) (Ok _) p q a b = absurd (true≢false (sym b ∙ (open-parts s es a).1))
right-one s es (Err faults.Unfinished) (Err (faults.Entry n)) p q a b = absurd (no-bad s es n (open-parts s es a).0 b)
right-one s es (Err faults.Unfinished) (Err faults.Unfinished) p q a b = refl
right-one s es (Err faults.OutOfMemory) b p q a c = absurd (p refl)
right-one s es a (Err faults.OutOfMemory) p q c b = absurd (q refl)

right-by : (s : Setting) (es : List Entry) (a b : Result (Unit {0}) CheckFault) → IsRight s es a → a ≡ b → IsRight s es b
right-by s es a b h e = subst (λ (x : Result (Unit {0}) CheckFault). IsRight s es x) e h

pub checks : (s : Setting) (es : List Entry) (a : Result (Unit {0}) CheckFault) → a ≢ Err faults.OutOfMemory → IsRight s es a → Checks s es a
checks s es a some h =
    record {
      whole = ((λ e. right-by s es a (Ok tt) h e), (λ w. right-one s es a (Ok tt) some (λ e. cc) h w));
      bad = λ n. ((λ e. right-by s es a (Err (faults.Entry n)) h e), (λ b. right-one s es a (Err (faults.Entry n)) some (λ e. cc) h b));
      unfinished = ((λ e. right-by s es a (Err faults.Unfinished) h e), (λ o. right-one s es a (Err faults.Unfinished) some (λ e. cc) h o));
    }

right : (s : Setting) (es : List Entry) (a : Result (Unit {0}) CheckFault) → Checks s es a → IsRight s es a
right s es (Ok _) c = c.whole.0 refl
right s es (Err (faults.Entry n)) c = (c.bad n).0 refl
right s es (Err faults.Unfinished) c = c.unfinished.0 refl
right s es (Err faults.OutOfMemory) c = tt

-- the first n hold a first bad one, unless they are all in their places
find-bad : (s : Setting) (es : List Entry) (n : ℕ) → is_legal s (reverse (take n es)) ≡ false → (m : ℕ) × (is_first_bad s es m ≡ true)
find-bad s es zero bad = absurd (true≢false bad)
find-bad s es (suc n) bad =
    elim (cases_Bool (is_legal s (reverse (take n es)))) [
      | inl good ↦
          let e : suc n - 1 ≡ n = omega arith in
          (suc n, bad-from s es (suc n) (subst (λ (i : ℕ). is_legal s (reverse (take i es)) ≡ true) (sym e) good) bad)
      | inr worse ↦ find-bad s es n worse
    ]

right-some : (s : Setting) (es : List Entry) → (a : Result (Unit {0}) CheckFault) × (a ≢ Err faults.OutOfMemory) × IsRight s es a
right-some s es =
    elim (cases_Bool (is_legal s (reverse es))) [
      | inl good ↦ elim (cases_Bool (is_whole s es)) [
        | inl whole ↦ (Ok tt, (λ e. cc), whole)
        | inr not_whole ↦ (Err faults.Unfinished, (λ e. cc), and_from _ _ good (not_from_false _ not_whole))
      ]
      | inr bad ↦
          let all : take (length es) es ≡ es = take_all (length es) es (omega arith) in
          let m = find-bad s es (length es) (subst (λ (xs : List Entry). is_legal s (reverse xs) ≡ false) (sym all) bad) in
          (Err (faults.Entry m.0), (λ e. cc), m.1)
    ]

pub some-verdict : SomeVerdict
some-verdict s es = let a = right-some s es in (a.0, a.1, checks s es a.0 a.1 a.2)

-- what is checked was checked by some answer, which is the other one
pub one-verdict : OneVerdict
one-verdict s es (Ok _) b p a c = sym (c.whole.1 (right s es (Ok tt) a))
one-verdict s es (Err (faults.Entry n)) b p a c = sym ((c.bad n).1 (right s es (Err (faults.Entry n)) a))
one-verdict s es (Err faults.Unfinished) b p a c = sym (c.unfinished.1 (right s es (Err faults.Unfinished) a))
one-verdict s es (Err faults.OutOfMemory) b p a c = absurd (p refl)
