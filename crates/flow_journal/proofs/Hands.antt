-- Each role has one hand at most, and in a legal history one block at most is loaded.
use Rattle.std.proofs.Common.{◌≡◌, ◌≢◌, ℕ, ◌≤◌, arith, Bool, true, false, cond, ◌||◌, List, [], ◌∷◌, ◌++◌, refl, sym, ap, ◌∙◌, subst, eqb, length, suc}
use Rattle.std.proofs.Common.{Option, Some, None, inl, inr}
use Rattle.std.specs.Prelude.{is_none, filter, flat_map}
use Rattle.std.specs.List.{list_any, find}
use Rattle.std.proofs.lemmas.Bool.{and_parts, not-true, false≢true, true≢false, eq-eqb, ne_eqb, eqb-true, cases_Bool, or_parts, or_from}
use Rattle.nd_base.specs.declared.frame.FrameName.{FrameName}
use Rattle.flow_journal.specs.declared.entry.Entry.{Entry}
use Rattle.flow_journal.specs.declared.entry.Entry.TheVariants.{Load, Issue, Take, TakeBlock, Put, Save, Saved, Reclaim}
use Rattle.flow_journal.specs.FirstEntries.{first, may_load, may_take}
use Rattle.flow_journal.specs.Following.{owed}
use Rattle.flow_journal.specs.Hands.{takes_up, let_go, hands, hand, standing, is_loaded, is_job, is_free}
use Rattle.flow_journal.specs.Histories.{next, answers, is_legal}
use Rattle.flow_journal.specs.Pasts.{Past, frame}
use Rattle.flow_journal.specs.Setting.{Setting}
use Rattle.flow_journal.proofs.Rows.{none-free, load-facts, take-facts}

-- an entry that gives a hand to r gives it to no other
pub takes_up-one : (r q : ℕ) (e : Entry) → takes_up r e ≡ true → takes_up q e ≡ eqb r q
takes_up-one r q (Load p k b n f g x) h = ap (λ i. eqb i q) (eqb-true p r h)
takes_up-one r q (Take p v m k) h = ap (λ i. eqb i q) (eqb-true p r h)
takes_up-one r q (TakeBlock f x p v m k b n g) h = ap (λ i. eqb i q) (eqb-true p r h)
takes_up-one r q (Save p v m k g) h = ap (λ i. eqb i q) (eqb-true p r h)
takes_up-one r q _ h = absurd (false≢true h)

-- no role has two of these hands
abbrev pub Apart : List Entry → Type 0
Apart [] = Unit {0}
Apart (e ∷ hs) = ((r : ℕ) → takes_up r e ≡ true → list_any (takes_up r) hs ≡ false) × Apart hs

pub none-let_go : (p : Entry → Bool) (r : ℕ) (hs : List Entry) → list_any p hs ≡ false → list_any p (let_go r hs) ≡ false
none-let_go p r [] h = refl
none-let_go p r (e ∷ hs) h =
    let both = or_parts (p e) (list_any p hs) h in
    elim (takes_up r e) as (λ b. list_any p (cond b hs (e ∷ let_go r hs)) ≡ false) [
      | true ↦ both.1
      | false ↦ or_from (p e) (list_any p (let_go r hs)) both.0 (none-let_go p r hs both.1)
    ]

pub Apart-let_go : (r : ℕ) (hs : List Entry) → Apart hs → Apart (let_go r hs)
Apart-let_go r [] h = tt
Apart-let_go r (e ∷ hs) h =
    elim (takes_up r e) as (λ b. Apart (cond b hs (e ∷ let_go r hs))) [
      | true ↦ h.1
      | false ↦ (λ q u. none-let_go (takes_up q) r hs (h.0 q u), Apart-let_go r hs h.1)
    ]

-- who lets go has nothing
pub free-let_go : (r : ℕ) (hs : List Entry) → Apart hs → list_any (takes_up r) (let_go r hs) ≡ false
free-let_go r [] h = refl
free-let_go r (e ∷ hs) h =
    elim (cases_Bool (takes_up r e)) [
      | inl here ↦ rw here (h.0 r here)
      | inr away ↦ rw (away, away) (free-let_go r hs h.1)
    ]

pub find-none : (p : Entry → Bool) (hs : List Entry) → list_any p hs ≡ false → find p hs ≡ None
find-none p [] h = refl
find-none p (e ∷ hs) h = let both = or_parts (p e) (list_any p hs) h in rw both.0 (find-none p hs both.1)

pub none-find : (p : Entry → Bool) (hs : List Entry) → is_none (find p hs) ≡ true → list_any p hs ≡ false
none-find p [] h = refl
none-find p (e ∷ hs) h =
    elim (cases_Bool (p e)) [
      | inl here ↦ absurd (false≢true (rw here at h))
      | inr away ↦ rw away (none-find p hs (rw away at h))
    ]

-- nobody else's hand changes
pub find-let_go : (r q : ℕ) (hs : List Entry) → r ≢ q → find (takes_up q) (let_go r hs) ≡ find (takes_up q) hs
find-let_go r q [] ne = refl
find-let_go r q (e ∷ hs) ne =
    elim (cases_Bool (takes_up r e)) [
      | inl here ↦ rw (here, takes_up-one r q e here, ne_eqb r q ne) refl
      | inr away ↦ rw away (ap (cond (takes_up q e) (Some e)) (find-let_go r q hs ne))
    ]

-- what was owed isn't of this kind, so the entry came first
pub next-first : (s : Setting) (P : Past) (e : Entry) → ((d : Entry) → answers s P e d ≡ false) → (ds : List Entry) → next s P e ds ≡ true → first s P e ≡ true
next-first s P e never [] h = h
next-first s P e never (d ∷ ds) h = absurd (true≢false (sym h ∙ never d))

-- the new hand takes the place of the old one
Apart-more : (r : ℕ) (e : Entry) (P : Past) → takes_up r e ≡ true → Apart (hands P) → Apart (e ∷ let_go r (hands P))
Apart-more r e P up apart = (
  λ q u. subst (λ i. list_any (takes_up i) (let_go r (hands P)) ≡ false) (eqb-true r q (sym (takes_up-one r q e up) ∙ u)) (free-let_go r (hands P) apart),
  Apart-let_go r (hands P) apart,
)

load-free : (s : Setting) (r k : ℕ) (P : Past) → may_load s r k P ≡ true → is_free r P ≡ true
load-free s r k P h = none-free r P (load-facts s r k P h).acts.free

take-free : (s : Setting) (r v : ℕ) (a : FrameName) (P : Past) → may_take s r v a P ≡ true → is_free r P ≡ true
take-free s r v a P h = none-free r P (take-facts s r v a P h).acts.free

-- the row of the newest entry, where it can't have been owed
pub row_of : (s : Setting) (e : Entry) (P : Past) → ((d : Entry) → answers s P e d ≡ false) → is_legal s (e ∷ P) ≡ true → first s P e ≡ true
row_of s e P never h = next-first s P e never (owed s P) (and_parts _ _ h).1

-- who takes something up was free
pub was_free : (s : Setting) (r : ℕ) (e : Entry) (P : Past) → takes_up r e ≡ true → is_legal s (e ∷ P) ≡ true → is_free r P ≡ true
was_free s r (Load q k b n f g x) P u h =
    rw (sym (eqb-true q r u)) (load-free s q k P (and_parts _ _ (row_of s (Load q k b n f g x) P (λ d. refl) h)).0)
was_free s r (Take q v m k) P u h =
    rw (sym (eqb-true q r u)) (take-free s q v (frame m k) P (and_parts _ _ (row_of s (Take q v m k) P (λ d. refl) h)).0)
was_free s r (TakeBlock f x q v m k b n g) P u h =
    rw (sym (eqb-true q r u)) (take-free s q v (frame m k) P (and_parts _ _ (and_parts _ _ (row_of s (TakeBlock f x q v m k b n g) P (λ d. refl) h)).0).0)
was_free s r (Save q v m k g) P u h =
    rw (sym (eqb-true q r u)) (and_parts _ _ (and_parts _ _ (and_parts _ _ (row_of s (Save q v m k g) P (λ d. refl) h)).0).0).1
was_free s r _ P u h = absurd (false≢true u)

-- who has no hand lets none go
let_go-none : (r : ℕ) (hs : List Entry) → list_any (takes_up r) hs ≡ false → let_go r hs ≡ hs
let_go-none r [] h = refl
let_go-none r (e ∷ hs) h =
    let both = or_parts (takes_up r e) (list_any (takes_up r) hs) h in rw both.0 (ap (λ (es : List Entry). e ∷ es) (let_go-none r hs both.1))

hands-up : (r : ℕ) (e : Entry) (P : Past) → takes_up r e ≡ true → hands (e ∷ P) ≡ e ∷ let_go r (hands P)
hands-up r (Load q k b n f g x) P u = ap (λ (i : ℕ). Load q k b n f g x ∷ let_go i (hands P)) (eqb-true q r u)
hands-up r (Take q v m k) P u = ap (λ (i : ℕ). Take q v m k ∷ let_go i (hands P)) (eqb-true q r u)
hands-up r (TakeBlock f x q v m k b n g) P u = ap (λ (i : ℕ). TakeBlock f x q v m k b n g ∷ let_go i (hands P)) (eqb-true q r u)
hands-up r (Save q v m k g) P u = ap (λ (i : ℕ). Save q v m k g ∷ let_go i (hands P)) (eqb-true q r u)
hands-up r _ P u = absurd (false≢true u)

-- whoever takes something up in a legal history has nothing to let go
pub takes-alone : (s : Setting) (r : ℕ) (e : Entry) (P : Past) → takes_up r e ≡ true → is_legal s (e ∷ P) ≡ true → let_go r (hands P) ≡ hands P
takes-alone s r e P u h = let_go-none r (hands P) (none-find (takes_up r) (hands P) (was_free s r e P u h))

-- whoever had no hand has one more
pub hands-first : (r : ℕ) (e : Entry) (P : Past) → takes_up r e ≡ true → is_free r P ≡ true → hands (e ∷ P) ≡ e ∷ hands P
hands-first r e P u free = hands-up r e P u ∙ ap (λ (hs : List Entry). e ∷ hs) (let_go-none r (hands P) (none-find (takes_up r) (hands P) free))

-- as has whoever takes something up in a legal history
pub hands-more : (s : Setting) (r : ℕ) (e : Entry) (P : Past) → takes_up r e ≡ true → is_legal s (e ∷ P) ≡ true → hands (e ∷ P) ≡ e ∷ hands P
hands-more s r e P u h = hands-first r e P u (was_free s r e P u h)

-- and whose hand is taken back had one
pub reclaim-held : (s : Setting) (r : ℕ) (P : Past) → is_legal s (Reclaim r ∷ P) ≡ true → is_free r P ≡ false
reclaim-held s r P h = not-true (is_free r P) (and_parts _ _ (and_parts _ _ (row_of s (Reclaim r) P (λ d. refl) h)).0).0

-- then it stands no more
pub stood : (r : ℕ) (e : Entry) (P : Past) → hand r P ≡ Some e → standing (Reclaim r ∷ P) ≡ Reclaim r ∷ let_go r (standing P)
stood r e P held = ap (λ (o : Option Entry). Reclaim r ∷ cond (is_none o) (standing P) (let_go r (standing P))) held

pub stands-less : (s : Setting) (r : ℕ) (P : Past) → is_legal s (Reclaim r ∷ P) ≡ true → standing (Reclaim r ∷ P) ≡ Reclaim r ∷ let_go r (standing P)
stands-less s r P h = rw (reclaim-held s r P h) refl

-- no role has two hands
pub hands-Apart : (P : Past) → Apart (hands P)
hands-Apart [] = tt
hands-Apart (Load r k b n f g x ∷ P) = Apart-more r (Load r k b n f g x) P (eq-eqb r r refl) (hands-Apart P)
hands-Apart (Take r v m k ∷ P) = Apart-more r (Take r v m k) P (eq-eqb r r refl) (hands-Apart P)
hands-Apart (TakeBlock f x r v m k b n g ∷ P) = Apart-more r (TakeBlock f x r v m k b n g) P (eq-eqb r r refl) (hands-Apart P)
hands-Apart (Save r v m k g ∷ P) = Apart-more r (Save r v m k g) P (eq-eqb r r refl) (hands-Apart P)
hands-Apart (Issue r k ∷ P) = Apart-let_go r (hands P) (hands-Apart P)
hands-Apart (Put r v m k f ∷ P) = Apart-let_go r (hands P) (hands-Apart P)
hands-Apart (Saved r v m k ∷ P) = Apart-let_go r (hands P) (hands-Apart P)
hands-Apart (Reclaim r ∷ P) = Apart-let_go r (hands P) (hands-Apart P)
hands-Apart (_ ∷ P) = hands-Apart P

-- at most one of these hands is a loaded block
abbrev pub OneLoaded : List Entry → Type 0
OneLoaded [] = Unit {0}
OneLoaded (e ∷ hs) = (is_loaded e ≡ true → list_any is_loaded hs ≡ false) × OneLoaded hs

OneLoaded-let_go : (r : ℕ) (hs : List Entry) → OneLoaded hs → OneLoaded (let_go r hs)
OneLoaded-let_go r [] h = tt
OneLoaded-let_go r (e ∷ hs) h =
    elim (takes_up r e) as (λ b. OneLoaded (cond b hs (e ∷ let_go r hs))) [
      | true ↦ h.1
      | false ↦ (λ u. none-let_go is_loaded r hs (h.0 u), OneLoaded-let_go r hs h.1)
    ]

-- in a legal history one block at most is loaded
pub hands-OneLoaded : (s : Setting) (P : Past) → is_legal s P ≡ true → OneLoaded (hands P)
hands-OneLoaded s [] h = tt
hands-OneLoaded s (Load r k b n f g x ∷ P) h =
    let f = row_of s (Load r k b n f g x) P (λ d. refl) h in
    let m : may_load s r k P ≡ true = (and_parts _ _ f).0 in
    (λ u. none-let_go is_loaded r (hands P) (load-facts s r k P m).unloaded, OneLoaded-let_go r (hands P) (hands-OneLoaded s P (and_parts _ _ h).0))
hands-OneLoaded s (Take r v m k ∷ P) h = (λ u. absurd (false≢true u), OneLoaded-let_go r (hands P) (hands-OneLoaded s P (and_parts _ _ h).0))
hands-OneLoaded s (TakeBlock f x r v m k b n g ∷ P) h = (λ u. absurd (false≢true u), OneLoaded-let_go r (hands P) (hands-OneLoaded s P (and_parts _ _ h).0))
hands-OneLoaded s (Save r v m k g ∷ P) h = (λ u. absurd (false≢true u), OneLoaded-let_go r (hands P) (hands-OneLoaded s P (and_parts _ _ h).0))
hands-OneLoaded s (Issue r k ∷ P) h = OneLoaded-let_go r (hands P) (hands-OneLoaded s P (and_parts _ _ h).0)
hands-OneLoaded s (Put r v m k f ∷ P) h = OneLoaded-let_go r (hands P) (hands-OneLoaded s P (and_parts _ _ h).0)
hands-OneLoaded s (Saved r v m k ∷ P) h = OneLoaded-let_go r (hands P) (hands-OneLoaded s P (and_parts _ _ h).0)
hands-OneLoaded s (Reclaim r ∷ P) h = OneLoaded-let_go r (hands P) (hands-OneLoaded s P (and_parts _ _ h).0)
hands-OneLoaded s (_ ∷ P) h = hands-OneLoaded s P (and_parts _ _ h).0

pub find-none_is : (p q : Entry → Bool) (e : Entry) (hs : List Entry) → list_any q hs ≡ false → find p hs ≡ Some e → q e ≡ false
find-none_is p q e [] h f = cc
find-none_is p q e (x ∷ hs) h f =
    let both = or_parts (q x) (list_any q hs) h in
    elim (cases_Bool (p x)) [
      | inl here ↦ let same : Some x ≡ Some e = rw here at f in let is : x ≡ e = cc in rw (← is) both.0
      | inr away ↦ find-none_is p q e hs both.1 (rw away at f)
    ]

-- once the loaded block is let go, none is
pub unloaded-let_go : (r : ℕ) (e : Entry) (hs : List Entry) → OneLoaded hs → find (takes_up r) hs ≡ Some e → is_loaded e ≡ true
    → list_any is_loaded (let_go r hs) ≡ false
unloaded-let_go r e [] o f l = cc
unloaded-let_go r e (x ∷ hs) o f l =
    elim (cases_Bool (takes_up r x)) [
      | inl here ↦ let same : Some x ≡ Some e = rw here at f in let is : x ≡ e = cc in rw here (o.0 (rw is l))
      | inr away ↦
          let rest : find (takes_up r) hs ≡ Some e = rw away at f in
          elim (cases_Bool (is_loaded x)) [
            | inl full ↦ absurd (false≢true (sym (find-none_is (takes_up r) is_loaded e hs (o.0 full) rest) ∙ l))
            | inr empty ↦ rw (away, empty) (unloaded-let_go r e hs o.1 rest l)
          ]
    ]

-- one job less, where the hand that is let go is a job of v
pub jobs-let_go : (v r : ℕ) (e : Entry) (hs : List Entry) → find (takes_up r) hs ≡ Some e → is_job v e ≡ true
    → length (filter (is_job v) hs) ≡ suc (length (filter (is_job v) (let_go r hs)))
jobs-let_go v r e [] f j = cc
jobs-let_go v r e (x ∷ hs) f j =
    elim (cases_Bool (takes_up r x)) [
      | inl here ↦ let same : Some x ≡ Some e = rw here at f in let is : x ≡ e = cc in rw (here, is, j) refl
      | inr away ↦
          let rest = jobs-let_go v r e hs (rw away at f) j in
          elim (cases_Bool (is_job v x)) [
            | inl job ↦ rw (away, job) (ap suc rest)
            | inr other ↦ rw (away, other) rest
          ]
    ]

-- as many jobs, where it is none
pub same_jobs-let_go : (v r : ℕ) (e : Entry) (hs : List Entry) → find (takes_up r) hs ≡ Some e → is_job v e ≡ false
    → length (filter (is_job v) hs) ≡ length (filter (is_job v) (let_go r hs))
same_jobs-let_go v r e [] f j = refl
same_jobs-let_go v r e (x ∷ hs) f j =
    elim (cases_Bool (takes_up r x)) [
      | inl here ↦ let same : Some x ≡ Some e = rw here at f in let is : x ≡ e = cc in rw (here, is, j) refl
      | inr away ↦
          let rest = same_jobs-let_go v r e hs (rw away at f) j in
          elim (cases_Bool (is_job v x)) [
            | inl job ↦ rw (away, job) (ap suc rest)
            | inr other ↦ rw (away, other) rest
          ]
    ]

-- whoever has a job in hand has no loaded block
pub same_loaded-let_go : (r : ℕ) (e : Entry) (hs : List Entry) → find (takes_up r) hs ≡ Some e → is_loaded e ≡ false
    → list_any is_loaded (let_go r hs) ≡ list_any is_loaded hs
same_loaded-let_go r e [] f j = refl
same_loaded-let_go r e (x ∷ hs) f j =
    elim (cases_Bool (takes_up r x)) [
      | inl here ↦ let same : Some x ≡ Some e = rw here at f in let is : x ≡ e = cc in rw (here, is, j) refl
      | inr away ↦ rw away (ap (λ b. is_loaded x || b) (same_loaded-let_go r e hs (rw away at f) j))
    ]

none_filtered : (p : Entry → Bool) (hs : List Entry) → list_any p hs ≡ false → length (filter p hs) ≡ 0
none_filtered p [] h = refl
none_filtered p (e ∷ hs) h = let both = or_parts (p e) (list_any p hs) h in rw both.0 (none_filtered p hs both.1)

few_apart : (r : ℕ) (hs : List Entry) → Apart hs → length (filter (takes_up r) hs) ≤ 1
few_apart r [] h = omega arith
few_apart r (e ∷ hs) h =
    elim (cases_Bool (takes_up r e)) [
      | inl here ↦ rw here (let none = none_filtered (takes_up r) hs (h.0 r here) in omega (arith, none))
      | inr away ↦ rw away (few_apart r hs h.1)
    ]

pub one-hand : (P : Past) (r : ℕ) → length (filter (takes_up r) (hands P)) ≤ 1
one-hand P r = few_apart r (hands P) (hands-Apart P)

-- a role that takes something up has this alone
pub takes-this : (r : ℕ) (e : Entry) (P : Past) → takes_up r e ≡ true → hand r (e ∷ P) ≡ Some e
takes-this r e P u = ap (find (takes_up r)) (hands-up r e P u) ∙ rw u refl

-- a reclaim without a hand takes nothing back
pub stands-all : (r : ℕ) (P : Past) → is_free r P ≡ true → standing (Reclaim r ∷ P) ≡ Reclaim r ∷ standing P
stands-all r P free = rw free refl

few_loaded : (hs : List Entry) → OneLoaded hs → length (filter is_loaded hs) ≤ 1
few_loaded [] h = omega arith
few_loaded (e ∷ hs) h =
    elim (cases_Bool (is_loaded e)) [
      | inl here ↦ rw here (let none = none_filtered is_loaded hs (h.0 here) in omega (arith, none))
      | inr away ↦ rw away (few_loaded hs h.1)
    ]

pub one-loaded : (s : Setting) (P : Past) → is_legal s P ≡ true → length (filter is_loaded (hands P)) ≤ 1
one-loaded s P h = few_loaded (hands P) (hands-OneLoaded s P h)

-- a hand that gives nothing leaves what the others give
pub flat-let_go : {X : Type 0} (f : Entry → List X) (r : ℕ) (e : Entry) (hs : List Entry) → find (takes_up r) hs ≡ Some e → f e ≡ []
    → flat_map f (let_go r hs) ≡ flat_map f hs
flat-let_go f r e [] h none = refl
flat-let_go f r e (x ∷ hs) h none =
    elim (cases_Bool (takes_up r x)) [
      | inl here ↦
          let same : Some x ≡ Some e = rw here at h in
          let is : x ≡ e = cc in
          let gives : f x ≡ [] = ap f is ∙ none in
          rw here (sym (ap (λ ys. ys ++ flat_map f hs) gives))
      | inr away ↦ rw away (ap (λ ys. f x ++ ys) (flat-let_go f r e hs (rw away at h) none))
    ]
