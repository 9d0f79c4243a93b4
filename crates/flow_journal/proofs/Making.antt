-- A frame that is being made is at no place but the hand of its maker.
use Rattle.std.proofs.Common.{◌≡◌, ◌≢◌, ℕ, ◌+◌, ◌≤◌, Bool, true, false, ◌||◌, cond, eqb, List, [], ◌∷◌, refl, sym, ap, ◌∙◌, subst, arith, Some, inl, inr}
use Rattle.std.proofs.lemmas.Bool.{and_parts, and_from, eq-eqb, eqb-true, cases_Bool}
use Rattle.nd_base.specs.declared.frame.FrameName.{FrameName}
use Rattle.flow_journal.specs.declared.entry.Entry.{Entry}
use Rattle.flow_journal.specs.declared.entry.Entry.TheVariants.{Load, Issue, Take, TakeBlock, Put, Save, Reclaim}
use Rattle.flow_journal.specs.Setting.{Setting}
use Rattle.flow_journal.specs.Pasts.{Past, frame, same}
use Rattle.flow_journal.specs.Hands.{hands, hand, standing}
use Rattle.flow_journal.specs.Histories.{is_legal}
use Rattle.flow_journal.proofs.Rows.{row_laws}
use Rattle.flow_journal.proofs.Hands.{row_of}
use Rattle.flow_journal.proofs.EntryCounts.{count, bit, count-cons, count-let_go, accepts_at, puts_at, takes_at, loads_at}
use Rattle.flow_journal.proofs.Jobs.{puts-taken}
use Rattle.flow_journal.proofs.Offers.{none_at_driver}
use Rattle.flow_journal.proofs.FrameBlocks.{loads-cons}
use Rattle.flow_journal.proofs.Issues.{takes-accepted, puts_at_node}
use Rattle.flow_journal.proofs.Driver.{issues_at, issues-loads}
use Rattle.flow_journal.proofs.Once.{load-once, accepts-once}
use Rattle.flow_journal.proofs.Travels.{holds_by, holds, issued_by, made_by, ClearBy, Clear, clear-start, clear_by-more, hand-clear}

-- the frame a itself
abbrev pub is_frame : FrameName → FrameName → Bool
is_frame a x = same x a

-- none at all
abbrev pub no_frame : FrameName → Bool
no_frame x = false

-- NO PLACE ELSEWHERE

-- how often the frame was let out of the hand in which it was made
abbrev let_out : FrameName → Past → ℕ
let_out a P = cond (eqb a.maker 0) (count (issues_at a.index) P) (count (puts_at a.maker a.index) P)

let_out-before : (a : FrameName) (e : Entry) (P : Past) → let_out a (e ∷ P) ≡ 0 → let_out a P ≡ 0
let_out-before a e P h =
    elim (cases_Bool (eqb a.maker 0)) [
      | inl driver ↦
          let all : count (issues_at a.index) (e ∷ P) ≡ 0 = rw driver at h in
          let none : count (issues_at a.index) P ≡ 0 = omega (arith, all, count-cons (issues_at a.index) e P) in rw driver none
      | inr maker ↦
          let all : count (puts_at a.maker a.index) (e ∷ P) ≡ 0 = rw maker at h in
          let none : count (puts_at a.maker a.index) P ≡ 0 = omega (arith, all, count-cons (puts_at a.maker a.index) e P) in rw maker none
    ]

none_passes : (xs : List FrameName) → count no_frame xs ≡ 0
none_passes [] = refl
none_passes (x ∷ xs) = none_passes xs

pub one_fails : (t : FrameName → Bool) (a : FrameName) → t a ≡ false → count t (a ∷ []) ≡ 0
one_fails t a h = omega (arith, count-cons t a [], ap bit h)

no_issue : (a : FrameName) (r i : ℕ) (P : Past) → let_out a (Issue r i ∷ P) ≡ 0 → is_frame a (frame 0 i) ≡ false
no_issue a r i P h =
    elim (cases_Bool (is_frame a (frame 0 i))) [
      | inr other ↦ other
      | inl is ↦
          let p = and_parts (eqb 0 a.maker) (eqb i a.index) is in
          let driver : eqb a.maker 0 ≡ true = eq-eqb a.maker 0 (sym (eqb-true 0 a.maker p.0)) in
          let none : count (issues_at a.index) (Issue r i ∷ P) ≡ 0 = rw driver at h in
          absurd (omega (arith, none, count-cons (issues_at a.index) (Issue r i) P, ap bit p.1))
    ]

no_put : (s : Setting) (a : FrameName) (r v m i : ℕ) (f : Bool) (P : Past) → is_legal s (Put r v m i f ∷ P) ≡ true → ClearBy no_frame (is_frame a) s P
    → let_out a (Put r v m i f ∷ P) ≡ 0 → is_frame a (frame m i) ≡ false
no_put s a r v m i f P h c none =
    elim ((row_laws.put s P r v m i f).0 (row_of s (Put r v m i f) P (λ d. refl) h)).0 [
      | inl job ↦ hand-clear (holds_by no_frame (is_frame a)) r (Take r v m i) P job c.roles
      | inr making ↦ elim (cases_Bool (is_frame a (frame m i))) [
        | inr other ↦ other
        | inl is ↦
            let p = and_parts (eqb m a.maker) (eqb i a.index) is in
            let maker : v ≡ a.maker = sym making.0 ∙ eqb-true m a.maker p.0 in
            let at_node : eqb a.maker 0 ≡ false = ne_from a.maker (λ e. puts_at_node s r v m i f P h (maker ∙ e)) in
            let all : count (puts_at a.maker a.index) (Put r v m i f ∷ P) ≡ 0 = rw at_node at none in
            let one : puts_at a.maker a.index (Put r v m i f) ≡ true = and_from _ _ (eq-eqb v a.maker maker) p.1 in
            absurd (omega (arith, all, count-cons (puts_at a.maker a.index) (Put r v m i f) P, ap bit one))
      ]
    ]
  where
    ne_from : (n : ℕ) → n ≢ 0 → eqb n 0 ≡ false
    ne_from n ne = elim (cases_Bool (eqb n 0)) [ inl is ↦ absurd (ne (eqb-true n 0 is)) | inr other ↦ other ]

-- until then no other place has it
unmade-clear : (s : Setting) (P : Past) (a : FrameName) → is_legal s P ≡ true → let_out a P ≡ 0 → ClearBy no_frame (is_frame a) s P
unmade-clear s [] a h none = clear-start no_frame (is_frame a) s
unmade-clear s (e ∷ P) a h none =
    let c : ClearBy no_frame (is_frame a) s P = unmade-clear s P a (and_parts _ _ h).0 (let_out-before a e P none) in
    clear_by-more no_frame (is_frame a) s e P h (none_passes (made_by e)) (not_issued e h none c) c
  where
    not_issued : (e : Entry) → is_legal s (e ∷ P) ≡ true → let_out a (e ∷ P) ≡ 0 → ClearBy no_frame (is_frame a) s P → count (is_frame a) (issued_by e) ≡ 0
    not_issued (Issue r i) h none c = one_fails (is_frame a) (frame 0 i) (no_issue a r i P none)
    not_issued (Put r v m i f) h none c = one_fails (is_frame a) (frame m i) (no_put s a r v m i f P h c none)
    not_issued _ h none c = refl

-- NO PLACE AT ALL

-- the frame is made in the hand
abbrev made_in_hand : FrameName → Entry → Bool
made_in_hand a (Load r k b n f g x) = is_frame a (frame 0 k)
made_in_hand a (TakeBlock f x r v m k b n g) = is_frame a (frame v k)
made_in_hand a _ = false

-- in how many hands it may be
abbrev in_making : FrameName → List Entry → ℕ
in_making a hs = cond (eqb a.maker 0) (count (loads_at a.index) hs) 0 + count (takes_at a.maker a.index) hs

held-split : (a : FrameName) (e : Entry) → bit (holds (is_frame a) e) ≤ bit (holds_by no_frame (is_frame a) e) + bit (made_in_hand a e)
held-split a (Load r k b n f g x) = omega arith
held-split a (Take r v m k) = omega arith
held-split a (TakeBlock f x r v m k b n g) = either (is_frame a (frame v k)) (is_frame a (frame m k))
  where
    either : (x y : Bool) → bit (x || y) ≤ bit (false || y) + bit x
    either true y = omega arith
    either false y = omega arith
held-split a (Save r v m k g) = omega arith
held-split a _ = omega arith

made-most : (a : FrameName) (e : Entry) → bit (made_in_hand a e) ≤ cond (eqb a.maker 0) (bit (loads_at a.index e)) 0 + bit (takes_at a.maker a.index e)
made-most a (Load r k b n f g x) =
    elim (cases_Bool (is_frame a (frame 0 k))) [
      | inl is ↦
          let p = and_parts (eqb 0 a.maker) (eqb k a.index) is in
          let driver : eqb a.maker 0 ≡ true = eq-eqb a.maker 0 (sym (eqb-true 0 a.maker p.0)) in
          let one : cond (eqb a.maker 0) (bit (loads_at a.index (Load r k b n f g x))) 0 ≡ 1 =
          ap (λ (c : Bool). cond c (bit (loads_at a.index (Load r k b n f g x))) 0) driver ∙ ap bit p.1 in
          omega (arith, ap bit is, one)
      | inr other ↦ omega (arith, ap bit other)
    ]
made-most a (TakeBlock f x r v m k b n g) = omega arith
made-most a _ = omega arith

making-cons : (a : FrameName) (e : Entry) (hs : List Entry)
    → in_making a (e ∷ hs) ≡ cond (eqb a.maker 0) (bit (loads_at a.index e)) 0 + bit (takes_at a.maker a.index e) + in_making a hs
making-cons a e hs = omega (arith, loads-cons a e hs, count-cons (takes_at a.maker a.index) e hs)

hands-held : (a : FrameName) (hs : List Entry) → count (holds (is_frame a)) hs ≤ count (holds_by no_frame (is_frame a)) hs + in_making a hs
hands-held a [] = omega arith
hands-held a (e ∷ hs) =
    omega (
      arith,
      hands-held a hs,
      held-split a e,
      made-most a e,
      making-cons a e hs,
      count-cons (holds (is_frame a)) e hs,
      count-cons (holds_by no_frame (is_frame a)) e hs,
    )

nowhere : (s : Setting) (P : Past) (a : FrameName) → is_legal s P ≡ true → let_out a P ≡ 0 → in_making a (hands P) ≡ 0 → Clear (is_frame a) s P
nowhere s P a h none idle =
    let c = unmade-clear s P a h none in
    record {
      queues = c.queues;
      lists = c.lists;
      rings = c.rings;
      files = c.files;
      roles = omega (arith, hands-held a (hands P), c.roles, idle);
      calls = c.calls;
    }

-- nobody takes from the driver
none_taken : (s : Setting) (P : Past) (k : ℕ) → is_legal s P ≡ true → count (takes_at 0 k) (standing P) ≡ 0
none_taken s P k h = omega (arith, takes-accepted s P 0 k h, none_at_driver s P k h)

-- before its load a frame has no place
pub unloaded-nowhere : (s : Setting) (r k b n : ℕ) (f : Bool) (g : ℕ) (x : Bool) (P : Past)
    → is_legal s (Load r k b n f g x ∷ P) ≡ true → Clear (is_frame (frame 0 k)) s P
unloaded-nowhere s r k b n f g x P h =
    let e : Entry = Load r k b n f g x in
    let legal : is_legal s P ≡ true = (and_parts _ _ h).0 in
    let none : count (loads_at k) (standing P) ≡ 0 = omega (arith, load-once s (e ∷ P) k h, count-cons (loads_at k) e (standing P), ap bit (eq-eqb k k refl)) in
    let issued = issues-loads s P k legal in
    let takes = puts-taken s P 0 k legal in
    nowhere s P (frame 0 k) legal (omega (arith, none, issued)) (omega (arith, none, issued, takes, none_taken s P k legal))

-- nor has it after its load is reclaimed
pub reclaimed-nowhere : (s : Setting) (r q k b n : ℕ) (f : Bool) (g : ℕ) (x : Bool) (P : Past) → is_legal s (Reclaim r ∷ P) ≡ true
    → hand r P ≡ Some (Load q k b n f g x) → Clear (is_frame (frame 0 k)) s (Reclaim r ∷ P)
reclaimed-nowhere s r q k b n f g x P h held =
    let e : Entry = Load q k b n f g x in
    let legal : is_legal s P ≡ true = (and_parts _ _ h).0 in
    let fewer = count-let_go (loads_at k) r e (hands P) held in
    let one : bit (loads_at k e) ≡ 1 = ap bit (eq-eqb k k refl) in
    let issued = issues-loads s P k legal in
    let most = load-once s P k legal in
    let takes = puts-taken s (Reclaim r ∷ P) 0 k h in
    let same_issues : count (issues_at k) (Reclaim r ∷ P) ≡ count (issues_at k) P = refl in
    nowhere s (Reclaim r ∷ P) (frame 0 k) h
    (omega (arith, fewer, one, issued, most, same_issues)) (omega (arith, fewer, one, issued, most, takes, none_taken s (Reclaim r ∷ P) k h))

away_from_driver : (s : Setting) (P : Past) (v k : ℕ) → is_legal s P ≡ true → 1 ≤ count (takes_at v k) (standing P) → eqb v 0 ≡ false
away_from_driver s P v k h some =
    elim (cases_Bool (eqb v 0)) [
      | inl driver ↦ absurd (omega (arith, none_taken s P k h, subst (λ (u : ℕ). 1 ≤ count (takes_at u k) (standing P)) (eqb-true v 0 driver) some))
      | inr away ↦ away
    ]

let_out-put : (v k : ℕ) (P : Past) → eqb v 0 ≡ false → let_out (frame v k) P ≡ count (puts_at v k) P
let_out-put v k P away = ap (λ (c : Bool). cond c (count (issues_at k) P) (count (puts_at v k) P)) away

in_making-take : (v k : ℕ) (hs : List Entry) → eqb v 0 ≡ false → in_making (frame v k) hs ≡ count (takes_at v k) hs
in_making-take v k hs away =
    let none : cond (eqb v 0) (count (loads_at k) hs) 0 ≡ 0 = ap (λ (c : Bool). cond c (count (loads_at k) hs) 0) away in
    omega (arith, none)

-- before its take a maker's frame has no place
pub untaken-nowhere : (s : Setting) (r v m k b n : ℕ) (f : Bool) (g : ℕ) (x : Bool) (P : Past)
    → is_legal s (TakeBlock f x r v m k b n g ∷ P) ≡ true → Clear (is_frame (frame v k)) s P
untaken-nowhere s r v m k b n f g x P h =
    let e : Entry = TakeBlock f x r v m k b n g in
    let legal : is_legal s P ≡ true = (and_parts _ _ h).0 in
    let one : bit (takes_at v k e) ≡ 1 = ap bit (and_from _ _ (eq-eqb v v refl) (eq-eqb k k refl)) in
    let more = count-cons (takes_at v k) e (standing P) in
    let away : eqb v 0 ≡ false = away_from_driver s (e ∷ P) v k h (omega (arith, one, more)) in
    let once : count (accepts_at v k) (e ∷ P) ≤ 1 = accepts-once s (e ∷ P) v k h in
    let none : count (takes_at v k) (standing P) ≡ 0 = omega (arith, one, more, takes-accepted s (e ∷ P) v k h, once) in
    let taken = puts-taken s P v k legal in
    nowhere s P (frame v k) legal (let_out-put v k P away ∙ omega (arith, none, taken)) (in_making-take v k (hands P) away ∙ omega (arith, none, taken))

-- nor has it after its take is reclaimed
pub untaken-again : (s : Setting) (r q v m k b n : ℕ) (f : Bool) (g : ℕ) (x : Bool) (P : Past) → is_legal s (Reclaim r ∷ P) ≡ true
    → hand r P ≡ Some (TakeBlock f x q v m k b n g) → Clear (is_frame (frame v k)) s (Reclaim r ∷ P)
untaken-again s r q v m k b n f g x P h held =
    let e : Entry = TakeBlock f x q v m k b n g in
    let legal : is_legal s P ≡ true = (and_parts _ _ h).0 in
    let one : bit (takes_at v k e) ≡ 1 = ap bit (and_from _ _ (eq-eqb v v refl) (eq-eqb k k refl)) in
    let fewer = count-let_go (takes_at v k) r e (hands P) held in
    let taken = puts-taken s P v k legal in
    let away : eqb v 0 ≡ false = away_from_driver s P v k legal (omega (arith, one, fewer, taken)) in
    let most : count (takes_at v k) (standing P) ≤ 1 = omega (arith, takes-accepted s P v k legal, accepts-once s P v k legal) in
    let same_puts : count (puts_at v k) (Reclaim r ∷ P) ≡ count (puts_at v k) P = refl in
    nowhere s (Reclaim r ∷ P) (frame v k) h (let_out-put v k (Reclaim r ∷ P) away
    ∙ omega (arith, one, fewer, taken, most, same_puts)) (in_making-take v k (hands (Reclaim r ∷ P)) away ∙ omega (arith, one, fewer, taken, most))
