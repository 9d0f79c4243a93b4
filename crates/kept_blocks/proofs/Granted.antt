-- What a legal log says of the last grants of blocks.
use Rattle.std.proofs.Common.{◌≡◌, ◌⊎◌, ℕ, Bool, true, false, ◌||◌, cond, eqb, List, [], ◌∷◌, refl, sym, ap, ◌∙◌, subst, arith, Some, None, inl, inr}
use Rattle.std.specs.Prelude.{is_none}
use Rattle.std.proofs.lemmas.Bool.{and_parts, true≢false, eq-eqb, ne_eqb, eqb-true, eqb-false, cases_Bool, or_parts}
use Rattle.nd_base.specs.declared.frame.FrameName.{FrameName}
use Rattle.flow_journal.specs.declared.entry.Entry.{Entry}
use Rattle.flow_journal.specs.declared.entry.Entry.TheVariants.{Load, Issue, Take, TakeBlock, Put, Save, Saved, Reclaim}
use Rattle.flow_journal.specs.Setting.{Setting}
use Rattle.flow_journal.specs.Pasts.{Past, frame, same}
use Rattle.flow_journal.specs.Hands.{takes_up, hands, hand}
use Rattle.flow_journal.specs.Accounts.{block_of, refs}
use Rattle.flow_journal.specs.EntryLaws.{lets_go}
use Rattle.flow_journal.specs.Histories.{answers, is_legal}
use Rattle.flow_journal.proofs.Steps.{same_refl, same-true}
use Rattle.flow_journal.proofs.EntryCounts.{count, bit, count-cons, owed-first}
use Rattle.flow_journal.proofs.Rows.{row_laws}
use Rattle.flow_journal.proofs.Hands.{row_of, was_free}
use Rattle.flow_journal.proofs.Changes.{hand_laws}
use Rattle.flow_journal.proofs.AccountChanges.{block_laws}
use Rattle.flow_journal.proofs.Places.{load-unplaced, take-unplaced}
use Rattle.flow_journal.proofs.Travels.{holds, holds_by, ClearBy, Clear, clear_by-more, hand-clear, bit-none}
use Rattle.flow_journal.proofs.Making.{is_frame, no_frame, unloaded-nowhere, untaken-nowhere}
use Rattle.board_rules.specs.LastGrants.{LastGrant, Never, InMaking, Made, TakenBack, once_done, once_taken_back, last_grant}
use Rattle.kept_blocks.proofs.Unplaced.{unplaced-clear}

pub legal-before : (s : Setting) (e : Entry) (P : Past) → is_legal s (e ∷ P) ≡ true → is_legal s P ≡ true
legal-before s e P h = (and_parts _ _ h).0

-- ENDS OF HANDS

once_done-making : (q r : ℕ) (g : LastGrant) (a : FrameName) (n : ℕ) → once_done q g ≡ InMaking r a n → (g ≡ InMaking r a n) × (eqb r q ≡ false)
once_done-making q r (InMaking p c z) a n h =
    elim (cases_Bool (eqb p q)) [
      | inl done ↦ let never : Made c z ≡ InMaking r a n = rw done at h in cc
      | inr other ↦
          let is : InMaking p c z ≡ InMaking r a n = rw other at h in
          let role : p ≡ r = cc in
          (is, subst (λ (i : ℕ). eqb i q ≡ false) role other)
    ]
once_done-making q r Never a n h = cc
once_done-making q r (Made c z) a n h = cc
once_done-making q r (TakenBack z) a n h = cc

once_taken_back-making : (q r : ℕ) (g : LastGrant) (a : FrameName) (n : ℕ) → once_taken_back q g ≡ InMaking r a n → (g ≡ InMaking r a n) × (eqb r q ≡ false)
once_taken_back-making q r (InMaking p c z) a n h =
    elim (cases_Bool (eqb p q)) [
      | inl done ↦ let never : TakenBack z ≡ InMaking r a n = rw done at h in cc
      | inr other ↦
          let is : InMaking p c z ≡ InMaking r a n = rw other at h in
          let role : p ≡ r = cc in
          (is, subst (λ (i : ℕ). eqb i q ≡ false) role other)
    ]
once_taken_back-making q r Never a n h = cc
once_taken_back-making q r (Made c z) a n h = cc
once_taken_back-making q r (TakenBack z) a n h = cc

-- where it was made by then, it was before, or it was in the making there
pub once_done-made : (q : ℕ) (g : LastGrant) (a : FrameName) (n : ℕ) → once_done q g ≡ Made a n → (g ≡ Made a n) ⊎ (g ≡ InMaking q a n)
once_done-made q (InMaking p c z) a n h =
    elim (cases_Bool (eqb p q)) [
      | inl done ↦
          let is : Made c z ≡ Made a n = rw done at h in
          let array : c ≡ a = cc in
          let size : z ≡ n = cc in
          let role : p ≡ q = eqb-true p q done in
          inr (cc)
      | inr other ↦ let never : InMaking p c z ≡ Made a n = rw other at h in cc
    ]
once_done-made q Never a n h = cc
once_done-made q (Made c z) a n h = inl h
once_done-made q (TakenBack z) a n h = cc

pub once_taken_back-made : (q : ℕ) (g : LastGrant) (a : FrameName) (n : ℕ) → once_taken_back q g ≡ Made a n → g ≡ Made a n
once_taken_back-made q (InMaking p c z) a n h =
    elim (cases_Bool (eqb p q)) [
      | inl done ↦ let never : TakenBack z ≡ Made a n = rw done at h in cc
      | inr other ↦ let never : InMaking p c z ≡ Made a n = rw other at h in cc
    ]
once_taken_back-made q Never a n h = cc
once_taken_back-made q (Made c z) a n h = h
once_taken_back-made q (TakenBack z) a n h = cc

-- HANDS BEFORE

-- whoever has a hand takes up nothing
pub not-up : (s : Setting) (r : ℕ) (d e : Entry) (P : Past) → is_legal s (e ∷ P) ≡ true → hand r P ≡ Some d → takes_up r e ≡ false
not-up s r d e P h held =
    elim (cases_Bool (takes_up r e)) [
      | inl up ↦ absurd (true≢false (sym (was_free s r e P up h) ∙ ap is_none held))
      | inr other ↦ other
    ]

-- a hand that the entry didn't give was there before, and isn't let go
pub hand-before : (s : Setting) (r : ℕ) (d e : Entry) (P : Past) → is_legal s (e ∷ P) ≡ true → takes_up r e ≡ false → hand r (e ∷ P) ≡ Some d
    → (hand r P ≡ Some d) × (lets_go r e ≡ false)
hand-before s r d e P h up held =
    elim (cases_Bool (lets_go r e)) [
      | inl down ↦ let never : None ≡ Some d = sym (hand_laws.down s r e P h down) ∙ held in cc
      | inr other ↦ (sym (hand_laws.others r e P up other) ∙ held, other)
    ]

-- MAKING

-- the hand makes this array on this block, of this size
abbrev pub Makes : ℕ → FrameName → ℕ → Entry → Type 0
Makes b a n (Load r k c z f g x) = (c ≡ b) × (frame 0 k ≡ a) × (z ≡ n)
Makes b a n (TakeBlock f x r v m k c z g) = (c ≡ b) × (frame v k ≡ a) × (z ≡ n)
Makes b a n _ = ⊥

abbrev pub MakesIn : ℕ → ℕ → FrameName → ℕ → Past → Type 0
MakesIn r b a n P = (e : Entry) × (hand r P ≡ Some e) × Makes b a n e

stays-in : (s : Setting) (r b n : ℕ) (a : FrameName) (e : Entry) (P : Past) → is_legal s (e ∷ P) ≡ true → lets_go r e ≡ false
    → MakesIn r b a n P → MakesIn r b a n (e ∷ P)
stays-in s r b n a e P h down m = (m.0, hand_laws.others r e P (not-up s r m.0 e P h m.1) down ∙ m.1, m.2)

-- a hand that makes an array isn't saved
not-saved : (s : Setting) (q v m k : ℕ) (P : Past) (r b n : ℕ) (a : FrameName) → is_legal s (Saved q v m k ∷ P) ≡ true → MakesIn r b a n P → eqb q r ≡ false
not-saved s q v m k P r b n a h makes =
    let piece = (row_laws.saved s P q v m k).0 (row_of s (Saved q v m k) P (λ d. refl) h) in
    elim (cases_Bool (eqb q r)) [
      | inl here ↦
          let held : hand r P ≡ Some (Save q v m k piece.0) = subst (λ (i : ℕ). hand i P ≡ Some (Save q v m k piece.0)) (eqb-true q r here) piece.1 in
          absurd (no_piece makes.0 (sym makes.1 ∙ held) makes.2)
      | inr other ↦ other
    ]
  where
    no_piece : {g : ℕ} (e : Entry) → Some e ≡ Some (Save q v m k g) → Makes b a n e → ⊥
    no_piece (Load i j c z f g x) is made = cc
    no_piece (TakeBlock f x i w l j c z g) is made = cc
    no_piece _ is made = made

-- what is in the making is made in the hand of its role
pub held-making : (s : Setting) (P : Past) (r b n : ℕ) (a : FrameName) → is_legal s P ≡ true → last_grant b P ≡ InMaking r a n → MakesIn r b a n P
held-making s [] r b n a h is = cc
held-making s (Load q k c z f g x ∷ P) r b n a h is =
    elim (cases_Bool (eqb c b)) [
      | inl here ↦
          let new : InMaking q (frame 0 k) z ≡ InMaking r a n = rw here at is in
          let role : q ≡ r = cc in
          let array : frame 0 k ≡ a = cc in
          let size : z ≡ n = cc in
          (Load q k c z f g x, hand_laws.up r (Load q k c z f g x) P (eq-eqb q r role), (eqb-true c b here, array, size))
      | inr other ↦
          stays-in s r b n a (Load q k c z f g x) P h refl (held-making s P r b n a (legal-before s (Load q k c z f g x) P h) (rw other at is))
    ]
held-making s (TakeBlock f x q v m k c z g ∷ P) r b n a h is =
    elim (cases_Bool (eqb c b)) [
      | inl here ↦
          let new : InMaking q (frame v k) z ≡ InMaking r a n = rw here at is in
          let role : q ≡ r = cc in
          let array : frame v k ≡ a = cc in
          let size : z ≡ n = cc in
          (TakeBlock f x q v m k c z g, hand_laws.up r (TakeBlock f x q v m k c z g) P (eq-eqb q r role), (eqb-true c b here, array, size))
      | inr other ↦
          stays-in s r b n a (TakeBlock f x q v m k c z g) P h refl
          (held-making s P r b n a (legal-before s (TakeBlock f x q v m k c z g) P h) (rw other at is))
    ]
held-making s (Issue q k ∷ P) r b n a h is =
    let before = once_done-making q r (last_grant b P) a n is in
    stays-in s r b n a (Issue q k) P h (turned q r before.1) (held-making s P r b n a (legal-before s (Issue q k) P h) before.0)
  where
    turned : (q r : ℕ) → eqb r q ≡ false → eqb q r ≡ false
    turned q r ne = ne_eqb q r (λ e. eqb-false r q ne (sym e))
held-making s (Put q v m k f ∷ P) r b n a h is =
    let before = once_done-making q r (last_grant b P) a n is in
    stays-in s r b n a (Put q v m k f) P h (ne_eqb q r (λ e. eqb-false r q before.1 (sym e)))
    (held-making s P r b n a (legal-before s (Put q v m k f) P h) before.0)
held-making s (Reclaim q ∷ P) r b n a h is =
    let before = once_taken_back-making q r (last_grant b P) a n is in
    stays-in s r b n a (Reclaim q) P h (ne_eqb q r (λ e. eqb-false r q before.1 (sym e))) (held-making s P r b n a (legal-before s (Reclaim q) P h) before.0)
held-making s (Saved q v m k ∷ P) r b n a h is =
    let before = held-making s P r b n a (legal-before s (Saved q v m k) P h) is in
    stays-in s r b n a (Saved q v m k) P h (not-saved s q v m k P r b n a h before) before
held-making s (e ∷ P) r b n a h is = stays-in s r b n a e P h refl (held-making s P r b n a (legal-before s e P h) is)

-- THE BLOCK OF WHAT IS MADE

-- what is made in a hand stands on its block
pub makes-block : (s : Setting) (P : Past) (r b n : ℕ) (a : FrameName) (e : Entry) → is_legal s P ≡ true → hand r P ≡ Some e
    → Makes b a n e → block_of P a ≡ b ∷ []
makes-block s P r b n a (Load q k c z f g x) h held m =
    ap (block_of P) (sym m.1) ∙ (block_laws.in_hand_load s r q k c z f g x P h held ∙ ap (λ (i : ℕ). i ∷ []) m.0)
makes-block s P r b n a (TakeBlock f x q v i k c z g) h held m =
    ap (block_of P) (sym m.1) ∙ (block_laws.in_hand_block s r q v i k c z f g x P h held ∙ ap (λ (i : ℕ). i ∷ []) m.0)
makes-block s P r b n a _ h held m = absurd m

-- and has a place
makes-holds : (b n : ℕ) (a : FrameName) (e : Entry) → Makes b a n e → holds (is_frame a) e ≡ true
makes-holds b n a (Load q k c z f g x) m = ap (λ (y : FrameName). same y a) m.1 ∙ same_refl a
makes-holds b n a (TakeBlock f x q v i k c z g) m = ap (λ (d : Bool). d || is_frame a (frame i k)) (ap (λ (y : FrameName). same y a) m.1 ∙ same_refl a)
makes-holds b n a _ m = absurd m

pub makes-placed : (s : Setting) (P : Past) (r b n : ℕ) (a : FrameName) (e : Entry) → is_legal s P ≡ true → hand r P ≡ Some e
    → Makes b a n e → Clear (is_frame a) s P → ⊥
makes-placed s P r b n a e h held m c = true≢false (sym (makes-holds b n a e m) ∙ hand-clear (holds (is_frame a)) r e P held c.roles)

-- a block in whose making a hand is isn't granted
not-granted : (s : Setting) (P : Past) (r b n c : ℕ) (a : FrameName) (d e : Entry) → is_legal s (e ∷ P) ≡ true → ((i : Entry) → answers s P e i ≡ false)
    → refs s P c ≡ 0 → hand r P ≡ Some d → Makes b a n d → eqb c b ≡ false
not-granted s P r b n c a d e h first none held m =
    let legal = legal-before s e P h in
    ne_eqb c b (λ is. makes-placed s P r b n a d legal held m
    (unplaced-clear s P b a legal (owed-first s e P first h) (subst (λ (i : ℕ). refs s P i ≡ 0) is none) (makes-block s P r b n a d legal held m)))

pub load-none : (s : Setting) (P : Past) (r k b n : ℕ) (f : Bool) (g : ℕ) (x : Bool) → s.pooled ≡ true
    → is_legal s (Load r k b n f g x ∷ P) ≡ true → refs s P b ≡ 0
load-none s P r k b n f g x pooled h =
    load-unplaced s P r k b n f g x pooled (legal-before s (Load r k b n f g x) P h) (row_of s (Load r k b n f g x) P (λ d. refl) h)

pub take-none : (s : Setting) (P : Past) (r v m k b n : ℕ) (f : Bool) (g : ℕ) (x : Bool) → s.pooled ≡ true
    → is_legal s (TakeBlock f x r v m k b n g ∷ P) ≡ true → refs s P b ≡ 0
take-none s P r v m k b n f g x pooled h =
    take-unplaced s P r v m k b n f g x pooled (legal-before s (TakeBlock f x r v m k b n g) P h) (row_of s (TakeBlock f x r v m k b n g) P (λ d. refl) h)

turned : (q r : ℕ) → eqb r q ≡ false → eqb q r ≡ false
turned q r ne = ne_eqb q r (λ e. eqb-false r q ne (sym e))

-- a grant to another
grant-stays : (s : Setting) (P : Past) (r b n c : ℕ) (a : FrameName) (d e : Entry) (g : LastGrant) → is_legal s (e ∷ P) ≡ true
    → ((i : Entry) → answers s P e i ≡ false) → refs s P c ≡ 0 → hand r P ≡ Some d → Makes b a n d
    → last_grant b P ≡ InMaking r a n → cond (eqb c b) g (last_grant b P) ≡ InMaking r a n
grant-stays s P r b n c a d e g h first none held m is =
    ap (λ (x : Bool). cond x g (last_grant b P)) (not-granted s P r b n c a d e h first none held m) ∙ is

-- what is made in a hand is in the making there
pub making-granted : (s : Setting) (P : Past) (r b n : ℕ) (a : FrameName) (d : Entry) → s.pooled ≡ true → is_legal s P ≡ true → hand r P ≡ Some d
    → Makes b a n d → last_grant b P ≡ InMaking r a n
making-granted s [] r b n a d pooled h held m = cc
making-granted s (Load q k c z f g x ∷ P) r b n a d pooled h held m =
    let e : Entry = Load q k c z f g x in
    elim (cases_Bool (takes_up r e)) [
      | inl up ↦
          let new : Some e ≡ Some d = sym (hand_laws.up r e P up) ∙ held in
          let it : e ≡ d = cc in
          let made : Makes b a n e = subst (λ (i : Entry). Makes b a n i) (sym it) m in
          let here : eqb c b ≡ true = eq-eqb c b made.0 in
          ap (λ (y : Bool). cond y (InMaking q (frame 0 k) z) (last_grant b P)) here ∙ making q r (frame 0 k) a z n (eqb-true q r up) made.1 made.2
      | inr other ↦
          let was = (hand-before s r d e P h other held).0 in
          grant-stays s P r b n c a d e (InMaking q (frame 0 k) z) h (λ i. refl) (load-none s P q k c z f g x pooled h) was m
          (making-granted s P r b n a d pooled (legal-before s e P h) was m)
    ]
  where
    making : (q r : ℕ) (y a : FrameName) (z n : ℕ) → q ≡ r → y ≡ a → z ≡ n → InMaking q y z ≡ InMaking r a n
    making q r y a z n i j k = cc
making-granted s (TakeBlock f x q v l k c z g ∷ P) r b n a d pooled h held m =
    let e : Entry = TakeBlock f x q v l k c z g in
    elim (cases_Bool (takes_up r e)) [
      | inl up ↦
          let new : Some e ≡ Some d = sym (hand_laws.up r e P up) ∙ held in
          let it : e ≡ d = cc in
          let made : Makes b a n e = subst (λ (i : Entry). Makes b a n i) (sym it) m in
          let here : eqb c b ≡ true = eq-eqb c b made.0 in
          ap (λ (y : Bool). cond y (InMaking q (frame v k) z) (last_grant b P)) here ∙ making q r (frame v k) a z n (eqb-true q r up) made.1 made.2
      | inr other ↦
          let was = (hand-before s r d e P h other held).0 in
          grant-stays s P r b n c a d e (InMaking q (frame v k) z) h (λ i. refl) (take-none s P q v l k c z f g x pooled h) was m
          (making-granted s P r b n a d pooled (legal-before s e P h) was m)
    ]
  where
    making : (q r : ℕ) (y a : FrameName) (z n : ℕ) → q ≡ r → y ≡ a → z ≡ n → InMaking q y z ≡ InMaking r a n
    making q r y a z n i j k = cc
making-granted s (Take q v l k ∷ P) r b n a d pooled h held m =
    let e : Entry = Take q v l k in
    elim (cases_Bool (takes_up r e)) [
      | inl up ↦
          let new : Some e ≡ Some d = sym (hand_laws.up r e P up) ∙ held in
          let it : e ≡ d = cc in
          absurd (subst (λ (i : Entry). Makes b a n i) (sym it) m)
      | inr other ↦ making-granted s P r b n a d pooled (legal-before s e P h) (hand-before s r d e P h other held).0 m
    ]
making-granted s (Save q v l k g ∷ P) r b n a d pooled h held m =
    let e : Entry = Save q v l k g in
    elim (cases_Bool (takes_up r e)) [
      | inl up ↦
          let new : Some e ≡ Some d = sym (hand_laws.up r e P up) ∙ held in
          let it : e ≡ d = cc in
          absurd (subst (λ (i : Entry). Makes b a n i) (sym it) m)
      | inr other ↦ making-granted s P r b n a d pooled (legal-before s e P h) (hand-before s r d e P h other held).0 m
    ]
making-granted s (Issue q k ∷ P) r b n a d pooled h held m =
    let before = hand-before s r d (Issue q k) P h refl held in
    ap (once_done q) (making-granted s P r b n a d pooled (legal-before s (Issue q k) P h) before.0 m)
    ∙ ap (λ (y : Bool). cond y (Made a n) (InMaking r a n)) (turned r q before.1)
making-granted s (Put q v l k f ∷ P) r b n a d pooled h held m =
    let before = hand-before s r d (Put q v l k f) P h refl held in
    ap (once_done q) (making-granted s P r b n a d pooled (legal-before s (Put q v l k f) P h) before.0 m)
    ∙ ap (λ (y : Bool). cond y (Made a n) (InMaking r a n)) (turned r q before.1)
making-granted s (Reclaim q ∷ P) r b n a d pooled h held m =
    let before = hand-before s r d (Reclaim q) P h refl held in
    ap (once_taken_back q) (making-granted s P r b n a d pooled (legal-before s (Reclaim q) P h) before.0 m)
    ∙ ap (λ (y : Bool). cond y (TakenBack n) (InMaking r a n)) (turned r q before.1)
making-granted s (e ∷ P) r b n a d pooled h held m =
    making-granted s P r b n a d pooled (legal-before s e P h) (hand-before s r d e P h refl held).0 m

-- WHAT IS IN THE MAKING HAS NO OTHER PLACE

some-same : {X : Type 0} {x y : X} → Some x ≡ Some y → x ≡ y
some-same h = cc

-- two hands don't make one array
one-maker : (s : Setting) (P : Past) (q r b c n z : ℕ) (a : FrameName) (e : Entry) → s.pooled ≡ true → is_legal s P ≡ true → last_grant b P ≡ InMaking r a n
    → hand q P ≡ Some e → Makes c a z e → q ≡ r
one-maker s P q r b c n z a e pooled h making held m =
    let mine = held-making s P r b n a h making in
    let on_b : block_of P a ≡ b ∷ [] = makes-block s P r b n a mine.0 h mine.1 mine.2 in
    let on_c : block_of P a ≡ c ∷ [] = makes-block s P q c z a e h held m in
    let same_blocks : c ∷ [] ≡ b ∷ [] = sym on_c ∙ on_b in
    let one : c ≡ b = cc in
    let theirs : last_grant c P ≡ InMaking q a z = making-granted s P q c z a e pooled h held m in
    let both : InMaking q a z ≡ InMaking r a n = sym theirs ∙ (ap (λ (i : ℕ). last_grant i P) one ∙ making) in
    cc

only-made : (a : FrameName) (e : Entry) → holds (is_frame a) e ≡ false → holds_by no_frame (is_frame a) e ≡ false
only-made a (Load r k b n f g x) h = refl
only-made a (Take r v m k) h = h
only-made a (TakeBlock f x r v m k b n g) h = (or_parts (is_frame a (frame v k)) (is_frame a (frame m k)) h).1
only-made a (Save r v m k g) h = h
only-made a _ h = refl

fewer-hands : (a : FrameName) (hs : List Entry) → count (holds (is_frame a)) hs ≡ 0 → count (holds_by no_frame (is_frame a)) hs ≡ 0
fewer-hands a [] h = refl
fewer-hands a (e ∷ hs) h =
    let n = bit-none (holds (is_frame a) e) (omega (arith, count-cons (holds (is_frame a)) e hs, h)) in
    omega (
      arith,
      count-cons (holds_by no_frame (is_frame a)) e hs,
      ap bit (only-made a e n),
      fewer-hands a hs (omega (arith, count-cons (holds (is_frame a)) e hs, h)),
    )

pub alone-from : (s : Setting) (P : Past) (a : FrameName) → Clear (is_frame a) s P → ClearBy no_frame (is_frame a) s P
alone-from s P a c = record { queues = c.queues; lists = c.lists; rings = c.rings; files = c.files; roles = fewer-hands a (hands P) c.roles; calls = c.calls }

one-off : (a x : FrameName) → is_frame a x ≡ false → count (is_frame a) (x ∷ []) ≡ 0
one-off a x h = omega (arith, count-cons (is_frame a) x [], ap bit h)

-- what another role lets out of its hand isn't what is in the making
let-out-other : (s : Setting) (P : Past) (q r b c n z : ℕ) (a x : FrameName) (e : Entry) → s.pooled ≡ true → is_legal s P ≡ true
    → last_grant b P ≡ InMaking r a n → eqb r q ≡ false → hand q P ≡ Some e → Makes c x z e → is_frame a x ≡ false
let-out-other s P q r b c n z a x e pooled h making ne held m =
    elim (cases_Bool (is_frame a x)) [
      | inl is ↦
          let it : x ≡ a = same-true x a is in
          let role : q ≡ r = one-maker s P q r b c n z a e pooled h making held (subst (λ (y : FrameName). Makes c y z e) it m) in
          absurd (eqb-false r q ne (sym role))
      | inr other ↦ other
    ]

pub alone-making : (s : Setting) (P : Past) (r b n : ℕ) (a : FrameName) → s.pooled ≡ true → is_legal s P ≡ true → last_grant b P ≡ InMaking r a n
    → ClearBy no_frame (is_frame a) s P
alone-making s [] r b n a pooled h is = cc
alone-making s (Load q k c z f g x ∷ P) r b n a pooled h is =
    let e : Entry = Load q k c z f g x in
    let before : ClearBy no_frame (is_frame a) s P = elim (cases_Bool (eqb c b)) [
      | inl here ↦
          let new : InMaking q (frame 0 k) z ≡ InMaking r a n = rw here at is in
          let array : frame 0 k ≡ a = cc in
          alone-from s P a (subst (λ (y : FrameName). Clear (is_frame y) s P) array (unloaded-nowhere s q k c z f g x P h))
      | inr other ↦ alone-making s P r b n a pooled (legal-before s e P h) (rw other at is)
    ] in
    clear_by-more no_frame (is_frame a) s e P h refl refl before
alone-making s (TakeBlock f x q v m k c z g ∷ P) r b n a pooled h is =
    let e : Entry = TakeBlock f x q v m k c z g in
    let before : ClearBy no_frame (is_frame a) s P = elim (cases_Bool (eqb c b)) [
      | inl here ↦
          let new : InMaking q (frame v k) z ≡ InMaking r a n = rw here at is in
          let array : frame v k ≡ a = cc in
          alone-from s P a (subst (λ (y : FrameName). Clear (is_frame y) s P) array (untaken-nowhere s q v m k c z f g x P h))
      | inr other ↦ alone-making s P r b n a pooled (legal-before s e P h) (rw other at is)
    ] in
    clear_by-more no_frame (is_frame a) s e P h refl refl before
alone-making s (Issue q k ∷ P) r b n a pooled h is =
    let e : Entry = Issue q k in
    let legal = legal-before s e P h in
    let was = once_done-making q r (last_grant b P) a n is in
    let hand_of = (row_laws.issue s P q k).0 (row_of s e P (λ d. refl) h) in
    let loaded : Entry = Load q k hand_of.0 hand_of.1 hand_of.2 hand_of.3 hand_of.4 in
    let off : is_frame a (frame 0 k) ≡ false =
    let-out-other s P q r b hand_of.0 n hand_of.1 a (frame 0 k) loaded pooled legal was.0 was.1 hand_of.5 (refl, refl, refl) in
    clear_by-more no_frame (is_frame a) s e P h refl (one-off a (frame 0 k) off) (alone-making s P r b n a pooled legal was.0)
alone-making s (Put q v m k f ∷ P) r b n a pooled h is =
    let e : Entry = Put q v m k f in
    let legal = legal-before s e P h in
    let was = once_done-making q r (last_grant b P) a n is in
    let before = alone-making s P r b n a pooled legal was.0 in
    let off : is_frame a (frame m k) ≡ false = elim ((row_laws.put s P q v m k f).0 (row_of s e P (λ d. refl) h)).0 [
      | inl job ↦ hand-clear (holds_by no_frame (is_frame a)) q (Take q v m k) P job before.roles
      | inr making ↦
          let t = making.1 in
          let taken : Entry = TakeBlock t.3 t.5 q v t.0 k t.1 t.2 t.4 in
          let named : frame v k ≡ frame m k = ap (λ (i : ℕ). frame i k) (sym making.0) in
          let-out-other s P q r b t.1 n t.2 a (frame m k) taken pooled legal was.0 was.1 t.6 (refl, named, refl)
    ] in
    clear_by-more no_frame (is_frame a) s e P h refl (one-off a (frame m k) off) before
alone-making s (Reclaim q ∷ P) r b n a pooled h is =
    let was = once_taken_back-making q r (last_grant b P) a n is in
    clear_by-more no_frame (is_frame a) s (Reclaim q) P h refl refl (alone-making s P r b n a pooled (legal-before s (Reclaim q) P h) was.0)
alone-making s (e ∷ P) r b n a pooled h is =
    clear_by-more no_frame (is_frame a) s e P h refl refl (alone-making s P r b n a pooled (legal-before s e P h) is)
