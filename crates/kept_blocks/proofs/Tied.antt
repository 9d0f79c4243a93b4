-- A frame on a block is that of the block's last grant, or it is nowhere.
use Rattle.std.proofs.Common.{◌≡◌, ◌≢◌, ◌⊎◌, ℕ, suc, ◌+◌, ◌≤◌, Bool, true, false, not, ◌&&◌, cond, eqb, leb, List, [], ◌∷◌, ◌++◌, length, refl, sym, ap}
use Rattle.std.proofs.Common.{◌∙◌, subst, arith, Option, Some, None, inl, inr, length-append}
use Rattle.std.specs.Prelude.{filter, map}
use Rattle.std.specs.List.{list_all}
use Rattle.std.proofs.lemmas.Bool.{and_parts, and_from, false≢true, true≢false, eq-eqb, ne_eqb, eqb-true, eqb-false, cases_Bool, or_parts}
use Rattle.nd_base.specs.declared.frame.FrameName.{FrameName}
use Rattle.pool_ledger.specs.Grants.{Block, has_number, Granted, Refused, granted, fit_or_fresh, smallest_fit, free_in_order, left_after, largest_free}
use Rattle.pool_ledger.specs.Grants.{passes, given_up, new_number, known_after}
use Rattle.flow_journal.specs.declared.entry.Entry.{Entry}
use Rattle.flow_journal.specs.declared.entry.Entry.TheVariants.{Load, Issue, TakeBlock, Put, Reclaim}
use Rattle.flow_journal.specs.Setting.{Setting, is_maker}
use Rattle.flow_journal.specs.Pasts.{Past, frame, same}
use Rattle.flow_journal.specs.Hands.{hand, standing}
use Rattle.flow_journal.specs.Accounts.{block_of, refs, known, held, is_unplaced}
use Rattle.flow_journal.specs.FirstEntries.{may_load, may_take, pool_grants}
use Rattle.flow_journal.specs.Histories.{is_legal}
use Rattle.flow_journal.proofs.Steps.{same_refl, same-true}
use Rattle.flow_journal.proofs.EntryCounts.{count, bit, count-cons, owed-first}
use Rattle.flow_journal.proofs.Hands.{row_of}
use Rattle.flow_journal.proofs.Jobs.{reclaim_hand}
use Rattle.flow_journal.proofs.FrameBlocks.{grants_of, grant-once, block-granted}
use Rattle.flow_journal.proofs.AccountChanges.{block_laws}
use Rattle.flow_journal.proofs.Travels.{Clear, clear-more}
use Rattle.flow_journal.proofs.Making.{is_frame, reclaimed-nowhere, untaken-again}
use Rattle.flow_journal.proofs.Once.{is_among, least_missing-not_among}
use Rattle.flow_journal.proofs.Grants.{all_in_order, all_found, all_filtered, granted-is, number-among}
use Rattle.board_rules.proofs.Legal.{names_role}
use Rattle.board_rules.specs.LastGrants.{LastGrant, Never, InMaking, Made, TakenBack, once_done, once_taken_back, last_grant}
use Rattle.kept_blocks.proofs.Unplaced.{unplaced-clear}
use Rattle.kept_blocks.proofs.Granted.{legal-before, once_done-made, once_taken_back-made, Makes, held-making, making-granted, makes-block, load-none}
use Rattle.kept_blocks.proofs.Granted.{take-none}

same-turned : (a c : FrameName) → same a c ≡ false → same c a ≡ false
same-turned a c h =
    elim (cases_Bool (same c a)) [
      | inl is ↦ absurd (true≢false (sym (ap (λ (y : FrameName). same a y) (same-true c a is) ∙ same_refl a) ∙ h))
      | inr other ↦ other
    ]

-- THE BLOCK OF WHAT WAS MADE

none-more : (bs cs : List ℕ) (c : ℕ) → length ((c ∷ bs) ++ cs) ≤ 1 → cs ≡ []
none-more bs [] c h = refl
none-more bs (d ∷ cs) c h = absurd (omega (arith, h, length-append (c ∷ bs) (d ∷ cs)))

-- what has a block isn't granted one again
pub not-again : (s : Setting) (P : Past) (e : Entry) (a : FrameName) (b c : ℕ) → is_legal s (e ∷ P) ≡ true
    → grants_of a (standing (e ∷ P)) ≡ (c ∷ []) ++ grants_of a (standing P) → block_of P a ≡ b ∷ [] → ⊥
not-again s P e a b c h is on =
    let few : length ((c ∷ []) ++ grants_of a (standing P)) ≤ 1 = subst (λ (bs : List ℕ). length bs ≤ 1) is (grant-once s (e ∷ P) a h) in
    let none : grants_of a (standing P) ≡ [] = none-more [] (grants_of a (standing P)) c few in
    let same_blocks : b ∷ [] ≡ [] = sym on ∙ (block-granted s P a (legal-before s e P h) ∙ none) in
    cc

pub made-block : (s : Setting) (P : Past) (b n : ℕ) (a : FrameName) → s.pooled ≡ true → is_legal s P ≡ true → last_grant b P ≡ Made a n → block_of P a ≡ b ∷ []
made-block s [] b n a pooled h is = cc
made-block s (Load q k c z f g x ∷ P) b n a pooled h is =
    let e : Entry = Load q k c z f g x in
    elim (cases_Bool (eqb c b)) [
      | inl here ↦ let never : InMaking q (frame 0 k) z ≡ Made a n = rw here at is in cc
      | inr other ↦
          let was = made-block s P b n a pooled (legal-before s e P h) (rw other at is) in
          elim (cases_Bool (same a (frame 0 k))) [
            | inl this ↦ absurd (not-again s P e a b c h (ap (λ (y : Bool). cond y (c ∷ []) [] ++ grants_of a (standing P)) this) was)
            | inr apart ↦ block_laws.load_other q k c z f g x P a apart ∙ was
          ]
    ]
made-block s (TakeBlock f x q v m k c z g ∷ P) b n a pooled h is =
    let e : Entry = TakeBlock f x q v m k c z g in
    elim (cases_Bool (eqb c b)) [
      | inl here ↦ let never : InMaking q (frame v k) z ≡ Made a n = rw here at is in cc
      | inr other ↦
          let was = made-block s P b n a pooled (legal-before s e P h) (rw other at is) in
          elim (cases_Bool (same a (frame v k))) [
            | inl this ↦ absurd (not-again s P e a b c h (ap (λ (y : Bool). cond y (c ∷ []) [] ++ grants_of a (standing P)) this) was)
            | inr apart ↦ block_laws.take_block_other q v m k c z f g x P a apart ∙ was
          ]
    ]
made-block s (Issue q k ∷ P) b n a pooled h is =
    let e : Entry = Issue q k in
    let legal = legal-before s e P h in
    elim (once_done-made q (last_grant b P) a n is) [
      | inl was ↦ made-block s P b n a pooled legal was
      | inr making ↦ let m = held-making s P q b n a legal making in makes-block s P q b n a m.0 legal m.1 m.2
    ]
made-block s (Put q v m k f ∷ P) b n a pooled h is =
    let e : Entry = Put q v m k f in
    let legal = legal-before s e P h in
    elim (once_done-made q (last_grant b P) a n is) [
      | inl was ↦ made-block s P b n a pooled legal was
      | inr making ↦ let w = held-making s P q b n a legal making in makes-block s P q b n a w.0 legal w.1 w.2
    ]
made-block s (Reclaim q ∷ P) b n a pooled h is =
    let legal = legal-before s (Reclaim q) P h in
    let made : last_grant b P ≡ Made a n = once_taken_back-made q (last_grant b P) a n is in
    let was = made-block s P b n a pooled legal made in
    let held = reclaim_hand s q P h in
    by held.0 held.1 made was
  where
    by : (e : Entry) → hand q P ≡ Some e → last_grant b P ≡ Made a n → block_of P a ≡ b ∷ [] → block_of (Reclaim q ∷ P) a ≡ b ∷ []
    by (Load r k c z f g x) held made was =
        let legal = legal-before s (Reclaim q) P h in
        elim (cases_Bool (same a (frame 0 k))) [
          | inl this ↦
              let it : frame 0 k ≡ a = sym (same-true a (frame 0 k) this) in
              let on : block_of P a ≡ c ∷ [] = makes-block s P q c z a (Load r k c z f g x) legal held (refl, it, refl) in
              let blocks : c ∷ [] ≡ b ∷ [] = sym on ∙ was in
              let one : c ≡ b = cc in
              let making : last_grant b P ≡ InMaking q a z = making-granted s P q b z a (Load r k c z f g x) pooled legal held (one, it, refl) in
              let never : InMaking q a z ≡ Made a n = sym making ∙ made in
              cc
          | inr apart ↦ block_laws.reclaim_load s q r k c z f g x P a legal held apart ∙ was
        ]
    by (TakeBlock f x r v m k c z g) held made was =
        let legal = legal-before s (Reclaim q) P h in
        elim (cases_Bool (same a (frame v k))) [
          | inl this ↦
              let it : frame v k ≡ a = sym (same-true a (frame v k) this) in
              let on : block_of P a ≡ c ∷ [] = makes-block s P q c z a (TakeBlock f x r v m k c z g) legal held (refl, it, refl) in
              let blocks : c ∷ [] ≡ b ∷ [] = sym on ∙ was in
              let one : c ≡ b = cc in
              let making : last_grant b P ≡ InMaking q a z = making-granted s P q b z a (TakeBlock f x r v m k c z g) pooled legal held (one, it, refl) in
              let never : InMaking q a z ≡ Made a n = sym making ∙ made in
              cc
          | inr apart ↦ block_laws.reclaim_block s q r v m k c z f g x P a legal held apart ∙ was
        ]
    by (Reclaim r) held made was = absurd (false≢true (names_role q P (Reclaim r) held))
    by e held made was = block_laws.reclaim_other s q e P a (legal-before s (Reclaim q) P h) held refl ∙ was
made-block s (e ∷ P) b n a pooled h is = made-block s P b n a pooled (legal-before s e P h) is

-- WHICH FRAME

-- the array of the last grant, while that stands
abbrev pub is_array_of : FrameName → LastGrant → Bool
is_array_of a (InMaking r c n) = same c a
is_array_of a (Made c n) = same c a
is_array_of a _ = false

abbrev pub Tied : Setting → Past → ℕ → FrameName → Type 0
Tied s P b a = (is_array_of a (last_grant b P) ≡ true) ⊎ Clear (is_frame a) s P

done-array : (q : ℕ) (a : FrameName) (g : LastGrant) → is_array_of a (once_done q g) ≡ is_array_of a g
done-array q a (InMaking r c n) = elim (eqb r q) as (λ y. is_array_of a (cond y (Made c n) (InMaking r c n)) ≡ same c a) [ true ↦ refl | false ↦ refl ]
done-array q a Never = refl
done-array q a (Made c n) = refl
done-array q a (TakenBack n) = refl

-- whose hand isn't taken back keeps its array
back-array : (q : ℕ) (a : FrameName) (g : LastGrant) → ((c : FrameName) (n : ℕ) → g ≡ InMaking q c n → ⊥)
    → is_array_of a (once_taken_back q g) ≡ is_array_of a g
back-array q a (InMaking r c n) no_ =
    elim (cases_Bool (eqb r q)) [
      | inl here ↦ absurd (no_ c n (ap (λ (i : ℕ). InMaking i c n) (eqb-true r q here)))
      | inr other ↦ rw other refl
    ]
back-array q a Never no_ = refl
back-array q a (Made c n) no_ = refl
back-array q a (TakenBack n) no_ = refl

one-off : (a x : FrameName) → same a x ≡ false → count (is_frame a) (x ∷ []) ≡ 0
one-off a x h = omega (arith, count-cons (is_frame a) x [], ap bit (same-turned a x h))

some-same : {X : Type 0} {x y : X} → Some x ≡ Some y → x ≡ y
some-same h = cc

pub tied : (s : Setting) (P : Past) (b : ℕ) (a : FrameName) → s.pooled ≡ true → is_legal s P ≡ true → block_of P a ≡ b ∷ [] → Tied s P b a
tied s [] b a pooled h on = cc
tied s (Load q k c z f g x ∷ P) b a pooled h on =
    let e : Entry = Load q k c z f g x in
    let legal = legal-before s e P h in
    elim (cases_Bool (same a (frame 0 k))) [
      | inl this ↦
          let it : a ≡ frame 0 k = same-true a (frame 0 k) this in
          let blocks : c ∷ [] ≡ b ∷ [] = sym (block_laws.load s q k c z f g x P h) ∙ (ap (block_of (e ∷ P)) (sym it) ∙ on) in
          let here : eqb c b ≡ true = eq-eqb c b (cc) in
          inl (ap (λ (y : Bool). is_array_of a (cond y (InMaking q (frame 0 k) z) (last_grant b P))) here
          ∙ (ap (λ (y : FrameName). same y a) (sym it) ∙ same_refl a))
      | inr apart ↦
          let was : block_of P a ≡ b ∷ [] = sym (block_laws.load_other q k c z f g x P a apart) ∙ on in
          elim (cases_Bool (eqb c b)) [
            | inl here ↦
                inr (clear-more (is_frame a) s e P h (one-off a (frame 0 k) apart) (unplaced-clear s P b a legal (owed-first s e P (λ d. refl) h)
                (subst (λ (i : ℕ). refs s P i ≡ 0) (eqb-true c b here) (load-none s P q k c z f g x pooled h)) was))
            | inr other ↦ elim (tied s P b a pooled legal was) [
              | inl mine ↦ inl (ap (λ (y : Bool). is_array_of a (cond y (InMaking q (frame 0 k) z) (last_grant b P))) other ∙ mine)
              | inr gone ↦ inr (clear-more (is_frame a) s e P h (one-off a (frame 0 k) apart) gone)
            ]
          ]
    ]
tied s (TakeBlock f x q v m k c z g ∷ P) b a pooled h on =
    let e : Entry = TakeBlock f x q v m k c z g in
    let legal = legal-before s e P h in
    elim (cases_Bool (same a (frame v k))) [
      | inl this ↦
          let it : a ≡ frame v k = same-true a (frame v k) this in
          let blocks : c ∷ [] ≡ b ∷ [] = sym (block_laws.take_block s q v m k c z f g x P h) ∙ (ap (block_of (e ∷ P)) (sym it) ∙ on) in
          let here : eqb c b ≡ true = eq-eqb c b (cc) in
          inl (ap (λ (y : Bool). is_array_of a (cond y (InMaking q (frame v k) z) (last_grant b P))) here
          ∙ (ap (λ (y : FrameName). same y a) (sym it) ∙ same_refl a))
      | inr apart ↦
          let was : block_of P a ≡ b ∷ [] = sym (block_laws.take_block_other q v m k c z f g x P a apart) ∙ on in
          elim (cases_Bool (eqb c b)) [
            | inl here ↦
                inr (clear-more (is_frame a) s e P h (one-off a (frame v k) apart) (unplaced-clear s P b a legal (owed-first s e P (λ d. refl) h)
                (subst (λ (i : ℕ). refs s P i ≡ 0) (eqb-true c b here) (take-none s P q v m k c z f g x pooled h)) was))
            | inr other ↦ elim (tied s P b a pooled legal was) [
              | inl mine ↦ inl (ap (λ (y : Bool). is_array_of a (cond y (InMaking q (frame v k) z) (last_grant b P))) other ∙ mine)
              | inr gone ↦ inr (clear-more (is_frame a) s e P h (one-off a (frame v k) apart) gone)
            ]
          ]
    ]
tied s (Issue q k ∷ P) b a pooled h on =
    elim (tied s P b a pooled (legal-before s (Issue q k) P h) on) [
      | inl mine ↦ inl (done-array q a (last_grant b P) ∙ mine)
      | inr gone ↦ inr (clear-more (is_frame a) s (Issue q k) P h refl gone)
    ]
tied s (Put q v m k f ∷ P) b a pooled h on =
    elim (tied s P b a pooled (legal-before s (Put q v m k f) P h) on) [
      | inl mine ↦ inl (done-array q a (last_grant b P) ∙ mine)
      | inr gone ↦ inr (clear-more (is_frame a) s (Put q v m k f) P h refl gone)
    ]
tied s (Reclaim q ∷ P) b a pooled h on =
    let hand_of = reclaim_hand s q P h in
    by (tied s P b a pooled (legal-before s (Reclaim q) P h)) hand_of.0 hand_of.1
  where
    legal : is_legal s P ≡ true
    legal = legal-before s (Reclaim q) P h

    kept : (block_of P a ≡ b ∷ [] → Tied s P b a) → (e : Entry) → hand q P ≡ Some e → ((c : ℕ) (z : ℕ) → Makes c a z e → ⊥)
        → block_of P a ≡ b ∷ [] → Tied s (Reclaim q ∷ P) b a
    kept again e held none was =
        elim (again was) [
          | inr gone ↦ inr (clear-more (is_frame a) s (Reclaim q) P h refl gone)
          | inl mine ↦ inl (back-array q a (last_grant b P) (λ c n is.
              let m = held-making s P q b n c legal is in
              let it : m.0 ≡ e = some-same (sym m.1 ∙ held) in
              let array : c ≡ a = same-true c a (sym (ap (is_array_of a) is) ∙ mine) in
              none b n (subst (λ (d : Entry). Makes b a n d) it (subst (λ (y : FrameName). Makes b y n m.0) array m.2))) ∙ mine)
        ]

    by : (block_of P a ≡ b ∷ [] → Tied s P b a) → (e : Entry) → hand q P ≡ Some e → Tied s (Reclaim q ∷ P) b a
    by again (Load r k c z f g x) held =
        elim (cases_Bool (same a (frame 0 k))) [
          | inl this ↦
              inr (subst (λ (y : FrameName). Clear (is_frame y) s (Reclaim q ∷ P)) (sym (same-true a (frame 0 k) this))
              (reclaimed-nowhere s q r k c z f g x P h held))
          | inr apart ↦
              kept again (Load r k c z f g x) held (λ d w m. true≢false (sym (ap (λ (y : FrameName). same a y) m.1 ∙ same_refl a) ∙ apart))
              (sym (block_laws.reclaim_load s q r k c z f g x P a legal held apart) ∙ on)
        ]
    by again (TakeBlock f x r v m k c z g) held =
        elim (cases_Bool (same a (frame v k))) [
          | inl this ↦
              inr (subst (λ (y : FrameName). Clear (is_frame y) s (Reclaim q ∷ P)) (sym (same-true a (frame v k) this))
              (untaken-again s q r v m k c z f g x P h held))
          | inr apart ↦
              kept again (TakeBlock f x r v m k c z g) held (λ d w i. true≢false (sym (ap (λ (y : FrameName). same a y) i.1 ∙ same_refl a) ∙ apart))
              (sym (block_laws.reclaim_block s q r v m k c z f g x P a legal held apart) ∙ on)
        ]
    by again (Reclaim r) held = absurd (false≢true (names_role q P (Reclaim r) held))
    by again e held = kept again e held (λ c z m. m) (sym (block_laws.reclaim_other s q e P a legal held refl) ∙ on)
tied s (e ∷ P) b a pooled h on =
    elim (tied s P b a pooled (legal-before s e P h) on) [
      | inl mine ↦ inl mine
      | inr gone ↦ inr (clear-more (is_frame a) s e P h refl gone)
    ]

-- SIZES

-- one more than the size, or 0 where nobody was granted the block
abbrev pub size_in : LastGrant → ℕ
size_in (InMaking r a n) = suc n
size_in (Made a n) = suc n
size_in (TakenBack n) = suc n
size_in Never = 0

done-size : (q : ℕ) (g : LastGrant) → size_in (once_done q g) ≡ size_in g
done-size q (InMaking r c n) = elim (eqb r q) as (λ y. size_in (cond y (Made c n) (InMaking r c n)) ≡ suc n) [ true ↦ refl | false ↦ refl ]
done-size q Never = refl
done-size q (Made c n) = refl
done-size q (TakenBack n) = refl

back-size : (q : ℕ) (g : LastGrant) → size_in (once_taken_back q g) ≡ size_in g
back-size q (InMaking r c n) = elim (eqb r q) as (λ y. size_in (cond y (TakenBack n) (InMaking r c n)) ≡ suc n) [ true ↦ refl | false ↦ refl ]
back-size q Never = refl
back-size q (Made c n) = refl
back-size q (TakenBack n) = refl

-- the block has the size of its last grant
abbrev pub is_sized : Past → Block → Bool
is_sized P c = eqb (size_in (last_grant c.number P)) (suc c.size)

all-same : (t u : Block → Bool) → ((c : Block) → t c ≡ u c) → (bs : List Block) → list_all t bs ≡ true → list_all u bs ≡ true
all-same t u same_ bs h = ap (λ (w : Block → Bool). list_all w bs) (λ i c. sym (same_ c) i) ∙ h

all-but : (t u : Block → Bool) (b : ℕ) → ((c : Block) → c.number ≢ b → t c ≡ true → u c ≡ true) → (bs : List Block) → has_number b bs ≡ false
    → list_all t bs ≡ true → list_all u bs ≡ true
all-but t u b more [] none h = refl
all-but t u b more (c ∷ bs) none h =
    let p = and_parts (t c) (list_all t bs) h in
    let q = or_parts (eqb c.number b) (has_number b bs) none in
    and_from _ _ (more c (eqb-false c.number b q.0) p.0) (all-but t u b more bs q.1 p.1)

pub missing-left : (limit n held_ b z given : ℕ) (is_free : ℕ → Bool) (bs : List Block) → granted limit n held_ is_free bs ≡ Granted b z true given
    → (has_number b (left_after given is_free bs) ≡ false) × (z ≡ n) × (b ≡ new_number (left_after given is_free bs))
missing-left limit n held_ b z given is_free bs h =
    elim (cases_Bool (passes limit (held_ + n))) [
      | inl over ↦ let never : Refused ≡ Granted b z true given = rw over at h in cc
      | inr within ↦ of_fit (smallest_fit n is_free bs) (rw within at h)
    ]
  where
    of_fit : (o : Option Block) → fit_or_fresh limit n is_free bs o ≡ Granted b z true given
        → (has_number b (left_after given is_free bs) ≡ false) × (z ≡ n) × (b ≡ new_number (left_after given is_free bs))
    of_fit (Some c) e = cc
    of_fit None e =
        let number : new_number (left_after (given_up limit n is_free bs) is_free bs) ≡ b = cc in
        let size : n ≡ z = cc in
        let gone : given_up limit n is_free bs ≡ given = cc in
        let left : new_number (left_after given is_free bs) ≡ b = subst (λ (k : ℕ). new_number (left_after k is_free bs) ≡ b) gone number in (
          sym (number-among b (left_after given is_free bs)) ∙ subst (λ (k : ℕ). is_among k (map (λ (c : Block). c.number) (left_after given is_free bs))
              ≡ false) left (least_missing-not_among (map (λ (c : Block). c.number) (left_after given is_free bs))),
          sym size,
          sym left,
        )

pub fit-there : (limit n held_ b z given : ℕ) (is_free : ℕ → Bool) (bs : List Block) → granted limit n held_ is_free bs ≡ Granted b z false given
    → (c : Block) × (smallest_fit n is_free bs ≡ Some c) × (c.number ≡ b) × (c.size ≡ z)
fit-there limit n held_ b z given is_free bs h =
    elim (cases_Bool (passes limit (held_ + n))) [
      | inl over ↦ let never : Refused ≡ Granted b z false given = rw over at h in cc
      | inr within ↦ of_fit (smallest_fit n is_free bs) refl (rw within at h)
    ]
  where
    of_fit : (o : Option Block) → smallest_fit n is_free bs ≡ o → fit_or_fresh limit n is_free bs o ≡ Granted b z false given
        → (c : Block) × (smallest_fit n is_free bs ≡ Some c) × (c.number ≡ b) × (c.size ≡ z)
    of_fit (Some c) is e = (c, is, cc, cc)
    of_fit None is e = cc

-- the block that fits has what all known ones have
pub fit-has : (t : Block → Bool) (n : ℕ) (is_free : ℕ → Bool) (bs : List Block) (c : Block) → list_all t bs ≡ true
    → smallest_fit n is_free bs ≡ Some c → t c ≡ true
fit-has t n is_free bs c all is =
    all_found t (λ d. leb n d.size) (free_in_order is_free bs) c
    (all_in_order t (filter (λ b. is_free b.number) bs) (all_filtered t (λ b. is_free b.number) bs all)) is

sized-grant : (s : Setting) (m b z : ℕ) (f : Bool) (g : ℕ) (x : Bool) (e : Entry) (P : Past) (r : ℕ) (a : FrameName) → s.pooled ≡ true
    → pool_grants s m b z f g x P ≡ true
    → ((k : ℕ) → last_grant k (e ∷ P) ≡ cond (eqb b k) (InMaking r a z) (last_grant k P)) → list_all (is_sized P) (known s P) ≡ true
    → list_all (is_sized (e ∷ P)) (known_after (is_unplaced s P) (Granted b z f g) (known s P)) ≡ true
sized-grant s m b z false g x e P r a pooled grants turn all =
    let c = fit-there s.limit (s.need m) (held s P) b z g (is_unplaced s P) (known s P) (granted-is s m b z false g x P pooled grants) in
    let size : size_in (last_grant b P) ≡ suc z =
    subst (λ (k : ℕ). size_in (last_grant k P) ≡ suc z) c.2
    (eqb-true (size_in (last_grant c.0.number P)) (suc c.0.size) (fit-has (is_sized P) (s.need m) (is_unplaced s P) (known s P) c.0 all c.1) ∙ ap suc c.3) in
    all-same (is_sized P) (is_sized (e ∷ P)) (λ d. ap (λ (k : ℕ). eqb k (suc d.size)) (same-size d.number size)) (known s P) all
  where
    same-size : (k : ℕ) → size_in (last_grant b P) ≡ suc z → size_in (last_grant k P) ≡ size_in (last_grant k (e ∷ P))
    same-size k size =
        elim (cases_Bool (eqb b k)) [
          | inl here ↦
              subst (λ (i : ℕ). size_in (last_grant i P) ≡ suc z) (eqb-true b k here) size
              ∙ sym (ap size_in (turn k) ∙ ap (λ (y : Bool). size_in (cond y (InMaking r a z) (last_grant k P))) here)
          | inr other ↦ sym (ap size_in (turn k) ∙ ap (λ (y : Bool). size_in (cond y (InMaking r a z) (last_grant k P))) other)
        ]
sized-grant s m b z true g x e P r a pooled grants turn all =
    let missing = missing-left s.limit (s.need m) (held s P) b z g (is_unplaced s P) (known s P) (granted-is s m b z true g x P pooled grants) in
    let left : List Block = left_after g (is_unplaced s P) (known s P) in
    let left_all : list_all (is_sized P) left ≡ true =
    all_filtered (is_sized P) (λ c. not (has_number c.number (largest_free g (is_unplaced s P) (known s P)))) (known s P) all in
    and_from _ _ (eq-eqb (size_in (last_grant b (e ∷ P))) (suc z)
    (ap size_in (turn b) ∙ ap (λ (y : Bool). size_in (cond y (InMaking r a z) (last_grant b P))) (eq-eqb b b refl)))
    (all-but (is_sized P) (is_sized (e ∷ P)) b (λ c ne is. ap (λ (k : ℕ). eqb k (suc c.size)) (ap size_in (turn c.number)
    ∙ ap (λ (y : Bool). size_in (cond y (InMaking r a z) (last_grant c.number P))) (ne_eqb b c.number (λ e. ne (sym e)))) ∙ is) left missing.0 left_all)

-- each known block has the size of its last grant
pub all-sized : (s : Setting) (P : Past) → s.pooled ≡ true → is_legal s P ≡ true → list_all (is_sized P) (known s P) ≡ true
all-sized s [] pooled h = refl
all-sized s (Load r k b z f g x ∷ P) pooled h =
    let e : Entry = Load r k b z f g x in
    let grants : pool_grants s 0 b z f g x P ≡ true = (and_parts (may_load s r k P) (pool_grants s 0 b z f g x P) (row_of s e P (λ d. refl) h)).1 in
    sized-grant s 0 b z f g x e P r (frame 0 k) pooled grants (λ i. refl) (all-sized s P pooled (legal-before s e P h))
all-sized s (TakeBlock f x r v m k b z g ∷ P) pooled h =
    let e : Entry = TakeBlock f x r v m k b z g in
    let grants : pool_grants s v b z f g x P ≡ true =
    (and_parts (may_take s r v (frame m k) P && is_maker s v) (pool_grants s v b z f g x P) (row_of s e P (λ d. refl) h)).1 in
    sized-grant s v b z f g x e P r (frame v k) pooled grants (λ i. refl) (all-sized s P pooled (legal-before s e P h))
all-sized s (Issue q k ∷ P) pooled h =
    all-same (is_sized P) (is_sized (Issue q k ∷ P)) (λ c. ap (λ (i : ℕ). eqb i (suc c.size)) (sym (done-size q (last_grant c.number P)))) (known s P)
    (all-sized s P pooled (legal-before s (Issue q k) P h))
all-sized s (Put q v m k f ∷ P) pooled h =
    all-same (is_sized P) (is_sized (Put q v m k f ∷ P)) (λ c. ap (λ (i : ℕ). eqb i (suc c.size)) (sym (done-size q (last_grant c.number P)))) (known s P)
    (all-sized s P pooled (legal-before s (Put q v m k f) P h))
all-sized s (Reclaim q ∷ P) pooled h =
    all-same (is_sized P) (is_sized (Reclaim q ∷ P)) (λ c. ap (λ (i : ℕ). eqb i (suc c.size)) (sym (back-size q (last_grant c.number P)))) (known s P)
    (all-sized s P pooled (legal-before s (Reclaim q) P h))
all-sized s (e ∷ P) pooled h = all-sized s P pooled (legal-before s e P h)
