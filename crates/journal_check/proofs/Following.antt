-- Entries that are compared with a legal move.
use Rattle.std.proofs.Common.{◌≡◌, ◌≢◌, ℕ, zero, suc, ◌+◌, ◌<◌, true, false, not, ◌&&◌, List, [], ◌∷◌, ◌++◌, length, take, drop}
use Rattle.std.proofs.Common.{refl, sym, ap, ◌∙◌, subst, inl, inr, arith, Some}
use Rattle.std.specs.Prelude.{slice_get}
use Rattle.std.proofs.lemmas.Bool.{and_parts, cases_Bool, not-true}
use Rattle.std.proofs.lemmas.List.{take-append-drop}
use Rattle.std.proofs.Math.Seq.{take-add}
use Rattle.flow_journal.specs.declared.entry.Entry.{Entry}
use Rattle.flow_journal.specs.declared.entry.Entry.TheVariants.{Tick}
use Rattle.flow_journal.specs.Setting.{Setting}
use Rattle.flow_journal.specs.Pasts.{Past}
use Rattle.flow_journal.specs.EntryTests.{is_tick}
use Rattle.flow_journal.specs.Following.{owed}
use Rattle.flow_journal.specs.Histories.{answers, is_legal, is_history, is_nothing, next}
use Rattle.flow_journal.specs.Moves.{onto, follow}
use Rattle.flow_journal.proofs.EntryCounts.{count}
use Rattle.flow_journal.proofs.Emissions.{TickAlone, tick_alone}
use Rattle.flow_journal.proofs.Goings.{some_owed, quietly, comes_as, is_Tick, ticked}
use Rattle.flow_journal.proofs.Histories.{legal-more, onto-append}
use Rattle.journal_check.specs.Steps.{AreAlike, IsMade, OneTick, SameTicks, IsBegun, IsStep}
use Rattle.journal_check.specs.declared.step.Step.TheVariants.{Bad, Ends}

-- WHAT ELSE COULD COME

-- what follows first, and what follows then
pub follow-parts : (s : Setting) (P : Past) (a : Entry) (ys : List Entry) → follow s P (a ∷ ys) ≡ true
    → ((not (is_nothing (owed s P)) && next s P a (owed s P)) ≡ true) × (follow s (a ∷ P) ys ≡ true)
follow-parts s P a ys f = and_parts (not (is_nothing (owed s P)) && next s P a (owed s P)) (follow s (a ∷ P) ys) f

-- where no tick is owed, one entry alone can come
only-one : (s : Setting) (P : Past) (a x : Entry) (ys : List Entry) → count is_tick (owed s P) ≡ 0 → follow s P (a ∷ ys) ≡ true
    → next s P x (owed s P) ≡ true → a ≡ x
only-one s P a x ys none f nx =
    let d = some_owed s P a (owed s P) (follow-parts s P a ys f).0 in
    let quiet = (quietly s P a d.0 d.1 none d.2 d.3).0 in
    let other : answers s P x d.0 ≡ true = subst (λ (ds : List Entry). next s P x ds ≡ true) d.2 nx in
    sym (comes_as s P a d.0 quiet d.3) ∙ comes_as s P x d.0 quiet other

-- and none is owed later on
reach : (s : Setting) (P : Past) (xs ys : List Entry) → count is_tick (owed s P) ≡ 0 → follow s P (xs ++ ys) ≡ true
    → (count is_tick (owed s (onto xs P)) ≡ 0) × (follow s (onto xs P) ys ≡ true)
reach s P [] ys none f = (none, f)
reach s P (x ∷ xs) ys none f =
    let p = follow-parts s P x (xs ++ ys) f in
    let d = some_owed s P x (owed s P) p.0 in
    reach s (x ∷ P) xs ys (quietly s P x d.0 d.1 none d.2 d.3).1.after p.1

quiet-apart : (s : Setting) (P : Past) (xs : List Entry) (a x : Entry) (ys : List Entry) → count is_tick (owed s P) ≡ 0 → follow s P (xs ++ a ∷ ys) ≡ true
    → next s (onto xs P) x (owed s (onto xs P)) ≡ true → a ≡ x
quiet-apart s P xs a x ys none f nx = let r = reach s P xs (a ∷ ys) none f in only-one s (onto xs P) a x ys r.0 r.1 nx

same-tick : (s : Setting) (P : Past) (a x : Entry) (t u : ℕ) → a ≡ Tick t → x ≡ Tick u → OneTick s P [] a x → next s P x (owed s P) ≡ true → a ≡ x
same-tick s P (Tick v) (Tick w) t u e d one nx = ap Tick (one nx)
same-tick s P _ (Tick w) t u e d one nx = e ∙ absurd (cc)
same-tick s P _ _ t u e d one nx = cc

tick-apart : (s : Setting) (P : Past) (u : ℕ) (xs : List Entry) (a x : Entry) (ys : List Entry) → owed s P ≡ Tick u ∷ [] → follow s P (xs ++ a ∷ ys) ≡ true
    → OneTick s P xs a x → next s (onto xs P) x (owed s (onto xs P)) ≡ true → a ≡ x
tick-apart s P u [] a x ys is f one nx =
    let t = ticked s P u (a ∷ ys) is f in
    let heads : a ∷ ys ≡ Tick t.0 ∷ t.1 = t.2 in
    let head : a ≡ Tick t.0 = cc in
    let w = is_Tick s P x u (subst (λ (ds : List Entry). next s P x ds ≡ true) is nx) in
    same-tick s P a x t.0 w.0 head w.1 one nx
tick-apart s P u (y ∷ xs) a x ys is f one nx =
    let t = ticked s P u (y ∷ xs ++ a ∷ ys) is f in
    let heads : y ∷ xs ++ a ∷ ys ≡ Tick t.0 ∷ t.1 = t.2 in
    let head : y ≡ Tick t.0 = cc in
    let rest : xs ++ a ∷ ys ≡ t.1 = cc in
    let on : follow s (y ∷ P) (xs ++ a ∷ ys) ≡ true = (follow-parts s P y (xs ++ a ∷ ys) f).1 in
    let none : count is_tick (owed s (y ∷ P)) ≡ 0 = subst (λ (e : Entry). count is_tick (owed s (e ∷ P)) ≡ 0) (sym head) t.5 in
    quiet-apart s (y ∷ P) xs a x ys none on nx

-- of what follows, no other entry could come in the place of one, but for another tick
apart : (s : Setting) (P : Past) (owing xs : List Entry) (a x : Entry) (ys : List Entry) → owed s P ≡ owing → TickAlone owing → follow s P (xs ++ a ∷ ys) ≡ true
    → OneTick s P xs a x → next s (onto xs P) x (owed s (onto xs P)) ≡ true → a ≡ x
apart s P owing xs a x ys is (inl none) f one nx = quiet-apart s P xs a x ys (ap (count is_tick) is ∙ none) f nx
apart s P [] xs a x ys is (inr few) f one nx = quiet-apart s P xs a x ys (ap (count is_tick) is) f nx
apart s P (Tick u ∷ []) xs a x ys is (inr few) f one nx = tick-apart s P u xs a x ys is f one nx
apart s P (d ∷ []) xs a x ys is (inr few) f one nx = quiet-apart s P xs a x ys (ap (count is_tick) is) f nx
apart s P (d ∷ e ∷ ds) xs a x ys is (inr few) f one nx = absurd (omega (arith, few))

-- ON THE WAY

-- before what follows each entry is in its place, and something is owed
on-the-way : (s : Setting) (P : Past) (xs : List Entry) (a : Entry) (ys : List Entry) → is_legal s P ≡ true → follow s P (xs ++ a ∷ ys) ≡ true
    → (is_legal s (onto xs P) ≡ true) × (is_nothing (owed s (onto xs P)) ≡ false)
on-the-way s P [] a ys h f =
    let p = (follow-parts s P a ys f).0 in
    (h, not-true _ (and_parts (not (is_nothing (owed s P))) (next s P a (owed s P)) p).0)
on-the-way s P (x ∷ xs) a ys h f =
    let p = follow-parts s P x (xs ++ a ∷ ys) f in
    on-the-way s (x ∷ P) xs a ys (legal-more s P x h (and_parts (not (is_nothing (owed s P))) (next s P x (owed s P)) p.0).1) p.1

-- A MOVE THAT WAS MADE

ended : (s : Setting) (P : Past) (e a : Entry) (xs ys : List Entry) (Q : Past) → IsMade s P e (xs ++ a ∷ ys) Q
    → (is_legal s (onto xs (e ∷ P)) ≡ true) × (is_history s (onto xs (e ∷ P)) ≡ false)
ended s P e a xs ys Q m =
    let w = on-the-way s (e ∷ P) xs a ys m.legal m.follows in
    (w.0, rw (w.0, w.1) refl)

bad : (s : Setting) (P : Past) (e a x : Entry) (xs ys : List Entry) (Q : Past) → IsMade s P e (xs ++ a ∷ ys) Q → a ≢ x → OneTick s (e ∷ P) xs a x
    → (is_legal s (onto xs (e ∷ P)) ≡ true) × (is_legal s (x ∷ onto xs (e ∷ P)) ≡ false)
bad s P e a x xs ys Q m ne one =
    let R : Past = onto xs (e ∷ P) in
    let w = on-the-way s (e ∷ P) xs a ys m.legal m.follows in (
      w.0,
      elim (cases_Bool (next s R x (owed s R))) [
        | inl yes_ ↦ absurd (ne (apart s (e ∷ P) (owed s (e ∷ P)) xs a x ys refl (tick_alone s (e ∷ P) m.legal) m.follows one yes_))
        | inr no_ ↦ rw (w.0, no_) refl
      ],
    )

-- PLACES IN LISTS

-- the entry at a place, and those behind it
cut-at : (xs : List Entry) (n : ℕ) → n < length xs → (a : Entry) × (ys : List Entry) × (drop n xs ≡ a ∷ ys) × (slice_get xs n ≡ Some a)
cut-at [] n h = absurd (omega (arith, h))
cut-at (x ∷ xs) zero h = (x, xs, refl, refl)
cut-at (x ∷ xs) (suc n) h = cut-at xs n (omega (arith, h))

joined-at : (xs : List Entry) (n : ℕ) (a : Entry) (ys : List Entry) → drop n xs ≡ a ∷ ys → xs ≡ take n xs ++ a ∷ ys
joined-at xs n a ys e = sym (take-append-drop n xs) ∙ ap (λ (zs : List Entry). take n xs ++ zs) e

one-more : (xs : List Entry) (n : ℕ) (a : Entry) (ys : List Entry) → drop n xs ≡ a ∷ ys → take (n + 1) xs ≡ take n xs ++ a ∷ []
one-more xs n a ys e = take-add n 1 xs ∙ ap (λ (zs : List Entry). take n xs ++ take 1 zs) e

all-of : (xs : List Entry) (n : ℕ) → n ≡ length xs → take n xs ≡ xs
all-of [] zero e = refl
all-of (x ∷ xs) zero e = absurd (omega (arith, e))
all-of [] (suc n) e = refl
all-of (x ∷ xs) (suc n) e = ap (λ (zs : List Entry). x ∷ zs) (all-of xs n (omega (arith, e)))

-- WHAT THE ENTRIES COME TO

tails : {a b : Entry} {xs ys : List Entry} → a ∷ xs ≡ b ∷ ys → xs ≡ ys
tails h = cc

ended-step : (s : Setting) (P : Past) (e : Entry) (rest others : List Entry) (Q : Past) (k : ℕ) → IsMade s P e rest Q
    → AreAlike (e ∷ rest) (e ∷ others) (suc k) → k < length rest → k ≡ length others → IsStep s P (e ∷ others) Ends Q
ended-step s P e rest others Q k m a more all =
    let c = cut-at rest k more in
    let front : take k rest ≡ others = tails a.same ∙ all-of others k all in
    let made : IsMade s P e (take k rest ++ c.0 ∷ c.1) Q = subst (λ (xs : List Entry). IsMade s P e xs Q) (joined-at rest k c.0 c.1 c.2) m in
    let w = ended s P e c.0 (take k rest) c.1 Q made in (
      subst (λ (xs : List Entry). is_legal s (onto xs (e ∷ P)) ≡ true) front w.0,
      subst (λ (xs : List Entry). is_history s (onto xs (e ∷ P)) ≡ false) front w.1,
    )

bad-step : (s : Setting) (P : Past) (e : Entry) (rest others : List Entry) (Q : Past) (k : ℕ) → IsMade s P e rest Q
    → AreAlike (e ∷ rest) (e ∷ others) (suc k) → k < length rest → k < length others → SameTicks s (e ∷ P) rest others → IsStep s P (e ∷ others) (Bad (suc k)) Q
bad-step s P e rest others Q k m a more there ticks =
    let c = cut-at rest k more in
    let d = cut-at others k there in
    let made : IsMade s P e (take k rest ++ c.0 ∷ c.1) Q = subst (λ (xs : List Entry). IsMade s P e xs Q) (joined-at rest k c.0 c.1 c.2) m in
    let w = bad s P e c.0 d.0 (take k rest) c.1 Q made (a.apart c.0 d.0 c.3 d.3) (ticks k c.0 d.0 c.3 d.3) in
    let front : take k rest ≡ take k others = tails a.same in
    let more_is : take (k + 1) others ≡ take k rest ++ d.0 ∷ [] =
    one-more others k d.0 d.1 d.2 ∙ ap (λ (xs : List Entry). xs ++ d.0 ∷ []) (sym front) in
    let last : onto (take (k + 1) others) (e ∷ P) ≡ d.0 ∷ onto (take k rest) (e ∷ P) =
    ap (λ (xs : List Entry). onto xs (e ∷ P)) more_is ∙ onto-append (take k rest) (d.0 ∷ []) (e ∷ P) in
    let next_place : suc k + 1 ≡ suc (k + 1) = omega arith in (
      omega (arith, there),
      subst (λ (xs : List Entry). is_legal s (onto xs (e ∷ P)) ≡ true) front w.0,
      subst (λ (i : ℕ). is_legal s (onto (take i (e ∷ others)) P) ≡ false) (sym next_place)
          (subst (λ (R : Past). is_legal s R ≡ false) (sym last) w.1),
    )

alike-at : (e : Entry) (rest others : List Entry) (n : ℕ) → AreAlike (e ∷ rest) (e ∷ others) n → (k : ℕ) × (n ≡ suc k)
alike-at e rest others zero a = absurd (a.apart e e refl refl refl)
alike-at e rest others (suc k) a = (k, refl)

alike-begun : (s : Setting) (P : Past) (made es : List Entry) (Q : Past) (n : ℕ) → (b : IsBegun s P made es Q) → AreAlike made es n
    → (k : ℕ) × (n ≡ suc k) × AreAlike (b.e ∷ b.rest) (b.e ∷ b.others) (suc k)
alike-begun s P made es Q n b a =
    let here : AreAlike (b.e ∷ b.rest) (b.e ∷ b.others) n =
    subst (λ (xs : List Entry). AreAlike (b.e ∷ b.rest) xs n) b.log (subst (λ (xs : List Entry). AreAlike xs es n) b.move a) in
    let k = alike-at b.e b.rest b.others n here in
    (k.0, k.1, subst (λ (i : ℕ). AreAlike (b.e ∷ b.rest) (b.e ∷ b.others) i) k.1 here)

pub comes-ended : (s : Setting) (P : Past) (made es : List Entry) (Q : Past) (n : ℕ) → IsBegun s P made es Q → AreAlike made es n
    → n ≢ length made → n ≡ length es → IsStep s P es Ends Q
comes-ended s P made es Q n b a less all =
    let k = alike-begun s P made es Q n b a in
    let len : length made ≡ suc (length b.rest) = ap (λ (xs : List Entry). length xs) b.move in
    let log_len : length es ≡ suc (length b.others) = ap (λ (xs : List Entry). length xs) b.log in
    subst (λ (xs : List Entry). IsStep s P xs Ends Q) (sym b.log)
    (ended-step s P b.e b.rest b.others Q k.0 b.made_is k.2 (omega (arith, less, a.in_made, len, k.1)) (omega (arith, all, log_len, k.1)))

pub comes-bad : (s : Setting) (P : Past) (made es : List Entry) (Q : Past) (n : ℕ) → IsBegun s P made es Q → AreAlike made es n
    → n ≢ length made → n ≢ length es → IsStep s P es (Bad n) Q
comes-bad s P made es Q n b a less inside =
    let k = alike-begun s P made es Q n b a in
    let len : length made ≡ suc (length b.rest) = ap (λ (xs : List Entry). length xs) b.move in
    let log_len : length es ≡ suc (length b.others) = ap (λ (xs : List Entry). length xs) b.log in
    subst (λ (i : ℕ). IsStep s P es (Bad i) Q) (sym k.1)
    (subst (λ (xs : List Entry). IsStep s P xs (Bad (suc k.0)) Q) (sym b.log)
    (bad-step s P b.e b.rest b.others Q k.0 b.made_is k.2 (omega (arith, less, a.in_made, len, k.1)) (omega (arith, inside, a.in_es, log_len, k.1)) b.ticks))
