-- What a grant finds.
use Rattle.std.proofs.Common.{◌≡◌, ◌≢◌, ℕ, zero, suc, ◌+◌, ◌-◌, ◌^◌, ◌≤◌, ◌<◌, Bool, true, false, not, ◌&&◌, ◌||◌, eqb, ltb, List, [], ◌∷◌, ◌++◌, length}
use Rattle.std.proofs.Common.{refl, sym, ap, ◌∙◌, subst, arith, Option, Some, None, inl, inr, if◌then◌else◌, length-append}
use Rattle.std.specs.Prelude.{filter, map, IsSome}
use Rattle.std.specs.List.{list_any}
use Rattle.std.proofs.lemmas.Bool.{and_from, false≢true, true≢false, eq-eqb, ne_eqb, eqb-true, cases_Bool, cases_eq, not-false, or_cases}
use Rattle.std.proofs.lemmas.List.{set-set, set-get_or, set_comm}
use Rattle.nd_base.specs.declared.frame.FrameName.{FrameName}
use Rattle.nd_base.specs.Parts.{Parts}
use Rattle.pool_ledger.specs.Grants.{Block, Granted, has_number, granted, left_after, largest_free, missing_from, above, new_number}
use Rattle.flow_journal.specs.Setting.{Setting}
use Rattle.flow_journal.specs.Queued.{queued}
use Rattle.flow_journal.specs.Accounts.{block_of, refs, known, held, is_unplaced}
use Rattle.flow_journal.specs.FirstEntries.{is_next}
use Rattle.flow_journal.proofs.Once.{is_among}
use Rattle.flow_journal.proofs.Grants.{granted-free, granted-known, number-among}
use Rattle.flow_journal.proofs.Places.{places-known}
use Rattle.flow_journal.proofs.Travels.{Clear}
use Rattle.flow_journal.proofs.Making.{is_frame}
use Rattle.board_rules.specs.States.{lent_to, BoardState, past}
use Rattle.board_rules.specs.InHand.{TellParts, OfSome}
use Rattle.board_rules.specs.Storage.{wants_storage, IsRegrown, is_away, parts_in_hand, parts_away, parts_here}
use Rattle.frame_table.specs.Kept.{IsUntold, MayLend, IsPartOf, Kept, Empty, Frame, Storage, kept_at, with_kept, with_room, less_one, at_home, was_used}
use Rattle.frame_table.specs.Kept.{IsMadeAnew, IsAway, IsLeft, BecomesOther, IsRefused}
use Rattle.board_rules.specs.LastGrants.{LastGrant, Never, InMaking, Made, TakenBack, last_grant, is_taken_back, was_taken_back}
use Rattle.kept_blocks.specs.Keeping.{IsKeptBy, HoldsBlocks, IsRunOf, IsHome}
use Rattle.kept_blocks.specs.LookLaws.{IsWithinBlock, IsLendable}
use Rattle.kept_blocks.specs.GrantLaws.{IsGranted, IsRefusedLent}
use Rattle.kept_blocks.proofs.Unplaced.{unplaced-clear}
use Rattle.kept_blocks.proofs.Granted.{held-making, makes-block, makes-placed, alone-from}
use Rattle.kept_blocks.proofs.Tied.{made-block, size_in, is_sized, all-sized, missing-left, fit-there, fit-has}
use Rattle.kept_blocks.proofs.Placing.{placed-on, hand-used, queued-used}
use Rattle.kept_blocks.proofs.Shares.{few-parts, away-none, none-away}
use Rattle.kept_blocks.proofs.Holding.{IsKeptIn, holds-in, holds-out, still-of, legal-of, at-other, same-length, emptied-at}
use Rattle.kept_blocks.proofs.Looks.{lendable}
use Rattle.kept_blocks.proofs.Ending.{no-parts}

-- THE GRANT

module _ {F : Type 0} (parts : F → Option Parts) (s : Setting) (B : BoardState) (t : List Kept)
    (need b z : ℕ) (f : Bool) (g : ℕ) (i : IsGranted parts s B t need b z f g) where
  pub by-pool : granted s.limit need (held s (past B)) (is_unplaced s (past B)) (known s (past B)) ≡ Granted b z f g
  by-pool =
      let P = past B in
      sym (ap (λ (y : Bool). if y then granted s.limit need (held s P) (is_unplaced s P) (known s P) else Granted 0 0 false 0) i.run.pooled) ∙ i.granted

  pub no-place : refs s (past B) b ≡ 0
  no-place =
      let P = past B in
      eqb-true (refs s P b) 0
      (granted-free s.limit need (held s P) b z f g (is_unplaced s P) (known s P) (places-known s P i.run.pooled (legal-of s B i.run)) by-pool)

  -- an array on the block is nowhere
  pub on-block : (x : FrameName) → block_of (past B) x ≡ b ∷ [] → Clear (is_frame x) s (past B)
  on-block x on = unplaced-clear s (past B) b x (legal-of s B i.run) (still-of s B i.run) no-place on

  pub no-part : parts_in_hand (past B) b ≡ 0
  no-part = no-parts s (past B) b (λ x on. alone-from s (past B) x (on-block x on))

  -- it is with no array in the making
  pub not-making : (r n : ℕ) (a : FrameName) → last_grant b (past B) ≡ InMaking r a n → ⊥
  not-making r n a making =
      let P = past B in
      let legal = legal-of s B i.run in
      let m = held-making s P r b n a legal making in
      makes-placed s P r b n a m.0 legal m.1 m.2 (on-block a (makes-block s P r b n a m.0 legal m.1 m.2))

  pub apart-from : (v c : ℕ) (a : FrameName) → is_next a (queued v (past B)) ≡ true → block_of (past B) a ≡ c ∷ [] → c ≢ b
  apart-from v c a next on is = queued-used s (past B) v a next (alone-from s (past B) a (on-block a (on ∙ ap (λ (j : ℕ). j ∷ []) is)))

-- NUMBERS

among-below : (steps k j : ℕ) (ks : List ℕ) → k ≤ j → j < missing_from steps k ks → is_among j ks ≡ true
among-below zero k j ks low high = absurd (omega (arith, low, high))
among-below (suc n) k j ks low high =
    elim (cases_Bool (list_any (λ i. eqb i k) ks)) [
      | inl there ↦
          let more : j < missing_from n (k + 1) ks = rw there at high in
          elim (cases_eq j k) [
            | inl is ↦ subst (λ (m : ℕ). list_any (λ i. eqb i m) ks ≡ true) (sym is) there
            | inr ne ↦ among-below n (k + 1) j ks (omega (arith, low, ne)) more
          ]
      | inr none ↦ let here : j < k = rw none at high in absurd (omega (arith, low, here))
    ]

pub filtered-has : (k : ℕ) (q : Block → Bool) (bs : List Block) → has_number k (filter q bs) ≡ true → has_number k bs ≡ true
filtered-has k q [] h = absurd (false≢true h)
filtered-has k q (c ∷ bs) h =
    elim (cases_Bool (q c)) [
      | inl kept ↦
          let both_ : (eqb c.number k || has_number k (filter q bs)) ≡ true = rw kept at h in
          elim (or_cases (eqb c.number k) (has_number k (filter q bs)) both_) [
            | inl here ↦ rw here refl
            | inr there ↦ or-right (eqb c.number k) (filtered-has k q bs there)
          ]
      | inr dropped ↦ or-right (eqb c.number k) (filtered-has k q bs (rw dropped at h))
    ]
  where
    or-right : (x : Bool) {y : Bool} → y ≡ true → (x || y) ≡ true
    or-right true h = refl
    or-right false h = h

-- where all numbers of blocks are below n, the next number isn't above
new-below : (n : ℕ) (bs : List Block) → ((k : ℕ) → has_number k bs ≡ true → k < n) → new_number bs ≤ n
new-below n bs all = by (new_number bs) refl
  where
    by : (m : ℕ) → new_number bs ≡ m → new_number bs ≤ n
    by zero is = omega (arith, is)
    by (suc m) is =
        let ks : List ℕ = map (λ c. c.number) bs in
        let there : has_number m bs ≡ true = sym (number-among m bs) ∙ among-below (above ks) 0 m ks (omega arith) (omega (arith, is)) in
        omega (arith, all m there, is)

pub next-place : {F : Type 0} (parts : F → Option Parts) (s : Setting) (B : BoardState) (t : List Kept) (need b z : ℕ) (f : Bool) (g : ℕ)
    → IsGranted parts s B t need b z f g → b ≤ length t
next-place parts s B t need b z false g i =
    let P = past B in
    let has : has_number b (known s P) ≡ true =
    granted-known s.limit need (held s P) b z false g (is_unplaced s P) (known s P) (by-pool parts s B t need b z false g i) in
    let lt : b < length t = i.holds.places b has in
    omega (arith, lt)
next-place parts s B t need b z true g i =
    let P = past B in
    let left = left_after g (is_unplaced s P) (known s P) in
    let m = missing-left s.limit need (held s P) b z g (is_unplaced s P) (known s P) (by-pool parts s B t need b z true g i) in
    let below =
    new-below (length t) left
    (λ k there. i.holds.places k (filtered-has k (λ c. not (has_number c.number (largest_free g (is_unplaced s P) (known s P)))) (known s P) there)) in
    omega (arith, below, m.2)

pub old-place : {F : Type 0} (parts : F → Option Parts) (s : Setting) (B : BoardState) (t : List Kept) (need b z : ℕ) (g : ℕ)
    → IsGranted parts s B t need b z false g → b < length t
old-place parts s B t need b z g i =
    let P = past B in
    i.holds.places b (granted-known s.limit need (held s P) b z false g (is_unplaced s P) (known s P) (by-pool parts s B t need b z false g i))

-- ROOM

more-room : (t : List Kept) (c : ℕ) → kept_at (t ++ Empty ∷ []) c ≡ kept_at t c
more-room [] zero = refl
more-room [] (suc c) = refl
more-room (k ∷ t) zero = refl
more-room (k ∷ t) (suc c) = more-room t c

pub room-keeps : (t : List Kept) (b c : ℕ) → kept_at (with_room t b) c ≡ kept_at t c
room-keeps t b c = elim (ltb b (length t)) as (λ y. kept_at (if y then t else t ++ Empty ∷ []) c ≡ kept_at t c) [ true ↦ refl | false ↦ more-room t c ]

room-longer : (t : List Kept) (b : ℕ) → length t ≤ length (with_room t b)
room-longer t b =
    elim (ltb b (length t)) as (λ y. length t ≤ length (if y then t else t ++ Empty ∷ [])) [
      | true ↦ omega arith
      | false ↦ omega (arith, length-append t (Empty ∷ []))
    ]

pub room-holds : {F : Type 0} (parts : F → Option Parts) (s : Setting) (B : BoardState) (t : List Kept) (b : ℕ) → HoldsBlocks parts s B t
    → HoldsBlocks parts s B (with_room t b)
room-holds parts s B t b h = record {
  places = λ i is. let lt : i < length t = h.places i is in omega (arith, lt, room-longer t b);
  kept = λ i is. subst (λ (k : Kept). IsKeptBy parts s B i (last_grant i (past B)) k) (sym (room-keeps t b i)) (h.kept i is);
  lent = λ r i a has on. subst (λ (k : Kept). IsPartOf k a (lent_to r B)) (sym (room-keeps t b i)) (h.lent r i a has on);
  lost = h.lost;
  only = λ i un. room-keeps t b i ∙ h.only i un;
}

set-more : (t : List Kept) (c : ℕ) (k : Kept) → c < length t → with_kept t c k ++ Empty ∷ [] ≡ with_kept (t ++ Empty ∷ []) c k
set-more [] c k lt = absurd (omega (arith, lt))
set-more (x ∷ t) zero k lt = refl
set-more (x ∷ t) (suc c) k lt = ap (λ (xs : List Kept). x ∷ xs) (set-more t c k (omega (arith, lt)))

pub room-of-lent : (t : List Kept) (b c : ℕ) → c < length t
    → with_room (with_kept t c (less_one (kept_at t c))) b ≡ with_kept (with_room t b) c (less_one (kept_at (with_room t b) c))
room-of-lent t b c lt =
    let k = less_one (kept_at t c) in
    ap (λ (n : ℕ). if ltb b n then with_kept t c k else with_kept t c k ++ Empty ∷ []) (same-length t c k)
    ∙ (elim (ltb b (length t)) as (λ y. (if y then with_kept t c k else with_kept t c k ++ Empty ∷ [])
    ≡ with_kept (if y then t else t ++ Empty ∷ []) c k) [ true ↦ refl | false ↦ set-more t c k lt ]
    ∙ ap (λ (x : Kept). with_kept (with_room t b) c (less_one x)) (sym (room-keeps t b c)))

-- WHAT IS AT HOME

here-home : (p : Parts) (n : ℕ) (away : Bool) (gone : ℕ) → gone ≤ 300 → p.size ≡ n → p.here ≡ 2 ^ 32 - (0 + gone) → (away ≡ false → gone ≡ 0)
    → (gone ≡ 0 → away ≡ false) → (eqb p.here (2 ^ 32) && eqb p.size n) ≡ not away
here-home p n true gone few size here none_away away_none =
    let some : gone ≢ 0 = λ is. true≢false (away_none is) in
    let less : eqb p.here (2 ^ 32) ≡ false = ne_eqb p.here (2 ^ 32) (λ is. absurd (omega (arith, is, here, some, few))) in
    ap (λ (y : Bool). y && eqb p.size n) less
here-home p n false gone few size here none_away away_none =
    and_from (eqb p.here (2 ^ 32)) (eqb p.size n) (eq-eqb p.here (2 ^ 32) (omega (arith, here, none_away refl))) (eq-eqb p.size n size)

frame-home : (p : Option Parts) (a : FrameName) (n b : ℕ) (B : BoardState) → parts_away b B ≤ 300 → parts_in_hand (past B) b ≡ 0 → IsSome p
    → OfSome (λ q. (q.size ≡ n) × (q.here ≡ parts_here B b)) p → IsHome B b n (Frame a p)
frame-home None a n b B few none some here = absurd (true≢false (sym some))
frame-home (Some p) a n b B few none some here = record {
  sized = here.0;
  home =
      ap (λ (y : Bool). Some y)
      (here-home p n (is_away b B) (parts_away b B) few here.0 (here.1 ∙ ap (λ (i : ℕ). 2 ^ 32 - (i + parts_away b B)) none) (none-away b B) (away-none b B));
}

-- the block of a grant that isn't fresh has the size that is granted
granted-size : {F : Type 0} (parts : F → Option Parts) (s : Setting) (B : BoardState) (t : List Kept) (need b z : ℕ) (g : ℕ)
    → IsGranted parts s B t need b z false g → size_in (last_grant b (past B)) ≡ suc z
granted-size parts s B t need b z g i =
    let P = past B in
    let c = fit-there s.limit need (held s P) b z g (is_unplaced s P) (known s P) (by-pool parts s B t need b z false g i) in
    subst (λ (k : ℕ). size_in (last_grant k P) ≡ suc z) c.2 (eqb-true (size_in (last_grant c.0.number P)) (suc c.0.size)
    (fit-has (is_sized P) need (is_unplaced s P) (known s P) c.0 (all-sized s P i.run.pooled (legal-of s B i.run)) c.1) ∙ ap suc c.3)

suc-same : (m n : ℕ) → suc m ≡ suc n → m ≡ n
suc-same m n e = omega (arith, e)

apart-known : (bs : List Block) (j b : ℕ) → has_number j bs ≡ false → has_number b bs ≡ true → j ≢ b
apart-known bs j b unknown is same_ = true≢false (sym is ∙ (ap (λ (m : ℕ). has_number m bs) (sym same_) ∙ unknown))

-- what is kept of it, by what became of its last grant
module _ {F : Type 0} (parts : F → Option Parts) (s : Setting) (B : BoardState) (t : List Kept)
    (need b z : ℕ) (g : ℕ) (i : IsGranted parts s B t need b z false g) where
  few-away : parts_away b B ≤ 300
  few-away = let few = few-parts s B b i.run.few (legal-of s B i.run) i.holds.lost in omega (arith, few)

  known-block : has_number b (known s (past B)) ≡ true
  known-block = let P = past B in granted-known s.limit need (held s P) b z false g (is_unplaced s P) (known s P) (by-pool parts s B t need b z false g i)

  home-by : (l : LastGrant) → last_grant b (past B) ≡ l → IsKeptIn parts s B b l (kept_at t b) → TellParts parts → IsHome B b z (kept_at t b)
  home-by Never is k tell = let zero_size : 0 ≡ suc z = sym (ap size_in is) ∙ granted-size parts s B t need b z g i in absurd (omega (arith, zero_size))
  home-by (InMaking r a n) is k tell = absurd (not-making parts s B t need b z false g i r n a is)
  home-by (Made a n) is (inl on) tell =
      let size : n ≡ z = suc-same n z (sym (ap size_in is) ∙ granted-size parts s B t need b z g i) in
      subst (λ (m : ℕ). IsHome B b m (kept_at t b)) size
      (subst (λ (k : Kept). IsHome B b n k) (sym on.is)
      (frame-home on.its_parts a n b B few-away (no-part parts s B t need b z false g i) (on.tells tell) on.here))
  home-by (Made a n) is (inr gone) tell = absurd (gone.0 tell)
  home-by (TakenBack n) is k tell =
      let size : n ≡ z = suc-same n z (sym (ap size_in is) ∙ granted-size parts s B t need b z g i) in
      subst (λ (m : ℕ). IsHome B b m (kept_at t b)) size (k tell)

  pub home-of : TellParts parts → IsHome B b z (kept_at t b)
  home-of tell = let h = holds-in parts s B t i.run i.holds in home-by (last_grant b (past B)) refl (h.kept b known-block) tell

  used-by : (l : LastGrant) → last_grant b (past B) ≡ l → IsKeptIn parts s B b l (kept_at t b) → TellParts parts → is_taken_back l ≡ false
      → was_used (kept_at t b) ≡ true
  used-by Never is k tell out = let zero_size : 0 ≡ suc z = sym (ap size_in is) ∙ granted-size parts s B t need b z g i in absurd (omega (arith, zero_size))
  used-by (InMaking r a n) is k tell out = absurd (not-making parts s B t need b z false g i r n a is)
  used-by (Made a n) is (inl on) tell out = ap was_used on.is
  used-by (Made a n) is (inr gone) tell out = absurd (gone.0 tell)
  used-by (TakenBack n) is k tell out = absurd (true≢false out)

  pub used-of : TellParts parts → was_taken_back b (past B) ≡ false → was_used (kept_at t b) ≡ true
  used-of tell out = let h = holds-in parts s B t i.run i.holds in used-by (last_grant b (past B)) refl (h.kept b known-block) tell out

  -- another thing may be kept of it, where frames don't tell their parts
  pub other-kept : (TellParts parts → ⊥) → (k : Kept) → HoldsBlocks parts s B (with_kept t b k)
  other-kept untold k =
      let P = past B in
      let h = holds-in parts s B t i.run i.holds in
      let place : b < length t = h.places b known-block in
      holds-out parts s B (with_kept t b k) (record {
        places = λ j is. subst (λ (n : ℕ). j < n) (sym (same-length t b k)) (h.places j is);
        kept = λ j is. elim (cases_eq j b) [
          | inl here ↦ subst (λ (m : ℕ). IsKeptIn parts s B m (last_grant m P) (kept_at (with_kept t b k) m)) (sym here) (by (last_grant b P) refl)
          | inr ne ↦ subst (λ (x : Kept). IsKeptIn parts s B j (last_grant j P) x) (sym (at-other t b j k ne)) (h.kept j is)
        ];
        lent = λ r j a has on. subst (λ (x : Kept). IsPartOf x a (lent_to r B)) (sym (at-other t b j k (λ same_.
            hand-used s P r a has (alone-from s P a (on-block parts s B t need b z false g i a (on ∙ ap (λ (m : ℕ). m ∷ []) same_)))))) (h.lent r j a has on);
        lost = h.lost;
        only = λ j un. at-other t b j k (apart-known (known s P) j b un known-block) ∙ h.only j un;
      })
    where
      by : (l : LastGrant) → last_grant b (past B) ≡ l → IsKeptIn parts s B b (last_grant b (past B)) (kept_at (with_kept t b k) b)
      by Never is = subst (λ (y : LastGrant). IsKeptIn parts s B b y (kept_at (with_kept t b k) b)) (sym is) tt
      by (InMaking r a n) is = absurd (not-making parts s B t need b z false g i r n a is)
      by (Made a n) is =
          let on = made-block s (past B) b n a i.run.pooled (legal-of s B i.run) is in
          subst (λ (y : LastGrant). IsKeptIn parts s B b y (kept_at (with_kept t b k) b)) (sym is) (inr (untold, on-block parts s B t need b z false g i a on))
      by (TakenBack n) is = subst (λ (y : LastGrant). IsKeptIn parts s B b y (kept_at (with_kept t b k) b)) (sym is) (λ tell. absurd (untold tell))

  -- what becomes of a frame that doesn't tell
  other-untold : (k l : Kept) → (TellParts parts → IsHome B b z k) → BecomesOther z k l → TellParts parts → ⊥
  other-untold (Frame a None) (Storage n u) home other tell = let h = home tell in h.sized
  other-untold (Frame a (Some p)) (Storage n u) home other tell = let h = home tell in other.1 (sym other.0.1 ∙ h.sized)
  other-untold Empty (Storage n u) home other tell = other.0
  other-untold (Storage m w) (Storage n u) home other tell = other.0
  other-untold k Empty home other tell = other
  other-untold k (Frame a p) home other tell = other

  pub left-holds : (k : Kept) → IsLeft z (kept_at t b) k → HoldsBlocks parts s B (with_kept t b k)
  left-holds k (inl same_) = subst (λ (u : List Kept). HoldsBlocks parts s B u) (sym (ap (λ (x : Kept). with_kept t b x) same_ ∙ set-get_or t b Empty)) i.holds
  left-holds k (inr other) = other-kept (λ tell. other-untold (kept_at t b) k home-of other tell) k

pub anew-law : {F : Type 0} (parts : F → Option Parts) (s : Setting) (B : BoardState) (t : List Kept) (need b z : ℕ) (g : ℕ) (x : Bool)
    → IsGranted parts s B t need b z false g → IsMadeAnew (at_home z (kept_at t b)) x → IsRegrown parts B b false x
anew-law parts s B t need b z g x i anew = (
  and-false x,
  λ tell.
      let h = home-of parts s B t need b z g i tell in
      let told_ : IsMadeAnew (Some (not (is_away b B))) x = subst (λ (o : Option Bool). IsMadeAnew o x) h.home anew in
      told_ ∙ twice (is_away b B),
)
  where
    and-false : (y : Bool) → (y && false) ≡ false
    and-false true = refl
    and-false false = refl

    twice : (y : Bool) → not (not y) ≡ y
    twice true = refl
    twice false = refl

pub wants-law : {F : Type 0} (parts : F → Option Parts) (s : Setting) (B : BoardState) (t : List Kept) (need b z : ℕ) (g : ℕ)
    → IsGranted parts s B t need b z false g → TellParts parts → IsAway (at_home z (kept_at t b)) → wants_storage B (Granted b z false g) ≡ true
wants-law parts s B t need b z g i tell away =
    let h = home-of parts s B t need b z g i tell in
    let told_ : IsAway (Some (not (is_away b B))) = subst IsAway h.home away in
    not-false (is_away b B) told_

pub refused-law : {F : Type 0} (parts : F → Option Parts) (s : Setting) (B : BoardState) (t new : List Kept) (need b z : ℕ) (g : ℕ)
    → IsGranted parts s B t need b z false g → IsRefused z b t new → HoldsBlocks parts s B new
refused-law parts s B t new need b z g i refused =
    subst (λ (u : List Kept). HoldsBlocks parts s B u) (sym refused.2) (left-holds parts s B t need b z g i refused.0 refused.1)

pub put-back-law : {F : Type 0} (parts : F → Option Parts) (s : Setting) (B : BoardState) (t : List Kept) (need b z : ℕ) (g : ℕ) (used : Bool)
    → IsGranted parts s B t need b z false g → (TellParts parts → ⊥) → HoldsBlocks parts s B (with_kept (with_kept t b Empty) b (Storage z used))
put-back-law parts s B t need b z g used i untold =
    subst (λ (u : List Kept). HoldsBlocks parts s B u) (sym (set-set t b Empty (Storage z used))) (other-kept parts s B t need b z g i untold (Storage z used))

pub refused-lent-law : {F : Type 0} (parts : F → Option Parts) (s : Setting) (B : BoardState) (t new : List Kept) (need b z c : ℕ) (g : ℕ)
    → IsGranted parts s B t need b z false g → c ≢ b → IsRefused z b (with_kept t c (less_one (kept_at t c))) new → IsRefusedLent parts s B t new c
refused-lent-law parts s B t new need b z c g i ne refused =
    let k = refused.0 in
    let l = less_one (kept_at t c) in
    let here : kept_at (with_kept t c l) b ≡ kept_at t b = at-other t c b l (λ is. ne (sym is)) in
    let beside : kept_at (with_kept t b k) c ≡ kept_at t c = at-other t b c k ne in
    record {
      left = with_kept t b k;
      holds = left-holds parts s B t need b z g i k (subst (λ (x : Kept). IsLeft z x k) here refused.1);
      lent = refused.2 ∙ (set_comm t c b l k ne ∙ ap (λ (x : Kept). with_kept (with_kept t b k) c (less_one x)) (sym beside));
      same = beside;
      long = same-length t b k;
    }

-- with the storage taken
pub lendable-law : {F : Type 0} (parts : F → Option Parts) (s : Setting) (B : BoardState) (t : List Kept) (need b z : ℕ) (f : Bool) (g v : ℕ) (a : FrameName)
    → IsGranted parts s B t need b z f g → is_next a (queued v (past B)) ≡ true → IsLendable parts (past B) (with_kept t b Empty) a
lendable-law parts s B t need b z f g v a i next =
    let l = lendable parts s B t a i.run i.holds (queued-used s (past B) v a next) in
    let beside : kept_at (with_kept t b Empty) l.block ≡ kept_at t l.block =
    at-other t b l.block Empty (apart-from parts s B t need b z f g i v l.block a next l.has) in
    record {
      block = l.block;
      has = l.has;
      place = subst (λ (n : ℕ). l.block < n) (sym (same-length t b Empty)) l.place;
      its_parts = l.its_parts;
      frame = beside ∙ l.frame;
      may = subst MayLend (sym beside) l.may;
      within = subst IsWithinBlock (sym beside) l.within;
      tells = λ tell untold. l.tells tell (subst IsUntold beside untold);
    }

pub forget-law : {F : Type 0} (parts : F → Option Parts) (s : Setting) (B : BoardState) (t : List Kept) (b : ℕ) → IsRunOf s B → HoldsBlocks parts s B t
    → (has_number b (known s (past B)) ≡ true → kept_at t b ≡ Empty) → HoldsBlocks parts s B (with_kept t b Empty)
forget-law parts s B t b run h empty =
    elim (cases_Bool (has_number b (known s (past B)))) [
      | inl is ↦ subst (λ (u : List Kept). HoldsBlocks parts s B u) (sym (ap (λ (x : Kept). with_kept t b x) (sym (empty is)) ∙ set-get_or t b Empty)) h
      | inr unknown ↦ record {
        places = λ j is. subst (λ (n : ℕ). j < n) (sym (same-length t b Empty)) (h.places j is);
        kept = λ j is. subst (λ (x : Kept). IsKeptBy parts s B j (last_grant j (past B)) x) (sym (at-other t b j Empty (apart j is unknown))) (h.kept j is);
        lent =
            λ r j a has on. subst (λ (x : Kept). IsPartOf x a (lent_to r B))
            (sym (at-other t b j Empty (apart j (placed-on s (past B) j a run.pooled (legal-of s B run) on (hand-used s (past B) r a has)).0 unknown)))
            (h.lent r j a has on);
        lost = h.lost;
        only = λ j un. emptied-at t b j (h.only j un);
      }
    ]
  where
    apart : (j : ℕ) → has_number j (known s (past B)) ≡ true → has_number b (known s (past B)) ≡ false → j ≢ b
    apart j is unknown same_ = true≢false (sym (subst (λ (m : ℕ). has_number m (known s (past B)) ≡ true) same_ is) ∙ unknown)

-- nothing is made anew of a fresh block
pub fresh-anew : {F : Type 0} (parts : F → Option Parts) (B : BoardState) (b : ℕ) → IsRegrown parts B b true false
fresh-anew parts B b = (refl, λ tell. refl)
