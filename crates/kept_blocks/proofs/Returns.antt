-- The moves that end a hand.
use Rattle.std.proofs.Common.{◌≡◌, ◌≢◌, ℕ, ◌+◌, ◌-◌, ◌^◌, ◌≤◌, ◌<◌, Bool, true, false, eqb, List, [], ◌∷◌, length, refl, sym, ap, ◌∙◌, subst, arith, Option}
use Rattle.std.proofs.Common.{Some, None, inl, inr, if◌then◌else◌}
use Rattle.std.proofs.lemmas.Bool.{false≢true, true≢false, eq-eqb, eqb-true, cases_Bool, cases_eq}
use Rattle.nd_base.specs.declared.frame.FrameName.{FrameName}
use Rattle.nd_base.specs.Parts.{Parts}
use Rattle.pool_ledger.specs.Grants.{has_number}
use Rattle.flow_journal.specs.declared.entry.Entry.{Entry}
use Rattle.flow_journal.specs.declared.entry.Entry.TheVariants.{Load, Issue, TakeBlock, Save, Saved}
use Rattle.flow_journal.specs.Setting.{Setting}
use Rattle.flow_journal.specs.Pasts.{Past, frame}
use Rattle.flow_journal.specs.Hands.{hands, hand, let_go}
use Rattle.flow_journal.specs.Accounts.{block_of, known}
use Rattle.flow_journal.specs.Histories.{is_legal}
use Rattle.flow_journal.proofs.Steps.{same_refl}
use Rattle.flow_journal.proofs.Travels.{clear-more}
use Rattle.flow_journal.proofs.Making.{is_frame, no_frame}
use Rattle.board_rules.specs.States.{BoardState, past, plain, lent_to}
use Rattle.board_rules.specs.Moving.{moved, moved_at}
use Rattle.board_rules.specs.InHand.{hand_node, has_part_of, is_load_of, is_piece_on, granted_block, granted_size, IsWholeOf, OfSome}
use Rattle.board_rules.specs.Storage.{is_among, has_part, parts_in_hand, parts_away}
use Rattle.board_rules.proofs.Legal.{names_role, load_in, piece_in}
use Rattle.frame_table.specs.Kept.{Kept, Frame, kept_at, with_kept, IsPartOf, united}
use Rattle.board_rules.specs.LastGrants.{LastGrant, Never, InMaking, Made, TakenBack, once_done, once_taken_back, last_grant}
use Rattle.kept_blocks.specs.Keeping.{HoldsBlocks, IsRunOf, IsFrameOn, most_lost}
use Rattle.kept_blocks.specs.MoveLaws.{touches_no_hand}
use Rattle.kept_blocks.proofs.Granted.{Makes, held-making, making-granted}
use Rattle.kept_blocks.proofs.Placing.{placed-on, hand-used}
use Rattle.kept_blocks.proofs.Rest.{later, one-entry, and-then}
use Rattle.kept_blocks.proofs.Shares.{none-hold}
use Rattle.kept_blocks.proofs.Holding.{IsKeptIn, Holds, holds-in, holds-out, legal-of, rest-holds, at-same, at-other, same-length, made-frame}
use Rattle.kept_blocks.proofs.Lending.{among-one}
use Rattle.kept_blocks.proofs.Ending.{EndsHand, ends, fewer-parts, gone-then, other-block, given-back, united-part, no-parts-making, lent-then}
use Rattle.kept_blocks.proofs.Ending.{granted-known, part-known}

-- A MOVE THAT TOUCHES NO HAND

pub still-law : {F : Type 0} (parts : F → Option Parts) (s : Setting) (B : BoardState) (t : List Kept) (tick : ℕ) (e : Entry)
    → IsRunOf s B → HoldsBlocks parts s B t
    → touches_no_hand e ≡ true → is_legal s (past (moved_at s tick (plain e) B)) ≡ true → HoldsBlocks parts s (moved_at s tick (plain e) B) t
still-law parts s B t tick e run hb touches legal =
    let new = moved_at s tick (plain e) B in
    holds-out parts s new t
    (rest-holds parts s B new t (and-then s B (plain e ∷ B) new (one-entry s e B touches) (later s tick (plain e) B)) legal (holds-in parts s B t run hb))

-- ALL BLOCKS AT THE END OF A HAND

pub record EndsAt {F : Type 0} (parts : F → Option Parts) (s : Setting) (B : BoardState) (t new : List Kept) (d e : Entry) (L : List ℕ) : Type 0 where
  pub long : length new ≡ length t
  pub at_grant : (b : ℕ) → has_number b (known s (past B)) ≡ true → is_among b (granted_block (Some d)) ≡ true
      → IsKeptIn parts s (ends e L ∷ B) b (last_grant b (e ∷ past B)) (kept_at new b)
  pub at_part : (b : ℕ) → is_among b (granted_block (Some d)) ≡ false → has_part (past B) b d ≡ true
      → IsKeptIn parts s (ends e L ∷ B) b (last_grant b (e ∷ past B)) (kept_at new b)
  pub others : (b : ℕ) → is_among b (granted_block (Some d)) ≡ false → has_part (past B) b d ≡ false → kept_at new b ≡ kept_at t b
  pub unlost : (b : ℕ) → is_among b (granted_block (Some d)) ≡ false → has_part (past B) b d ≡ false → is_among b L ≡ false
  pub tables : (b : ℕ) (x : FrameName) (q : Option Parts) → is_among b (granted_block (Some d)) ≡ false
      → IsPartOf (kept_at t b) x q → IsPartOf (kept_at new b) x q
  pub few : length L ≤ most_lost e

pub ends-holds : {F : Type 0} (parts : F → Option Parts) (s : Setting) (B : BoardState) (t new : List Kept)
    (w : FrameName → Bool) (r : ℕ) (d e : Entry) (L : List ℕ) → IsRunOf s B → Holds parts s B t → EndsHand s (past B) w r d e
    → EndsAt parts s B t new d e L → Holds parts s (ends e L ∷ B) new
ends-holds parts s B t new w r d e L run h l a =
    let P = past B in
    let before : (b : ℕ) → has_number b (known s (e ∷ P)) ≡ true → has_number b (known s P) ≡ true =
    λ b is. subst (λ bs. has_number b bs ≡ true) l.same_known is in
    record {
      places = λ b is. subst (λ (n : ℕ). b < n) (sym a.long) (h.places b (before b is));
      kept = λ b is. elim (cases_Bool (is_among b (granted_block (Some d)))) [
        | inl granted ↦ a.at_grant b (before b is) granted
        | inr other ↦ elim (cases_Bool (has_part P b d)) [
          | inl part ↦ a.at_part b other part
          | inr none ↦
              subst (λ (k : Kept). IsKeptIn parts s (ends e L ∷ B) b (last_grant b (e ∷ P)) k) (sym (a.others b other none))
              (other-block parts s B w r b d e L (kept_at t b) l none other (a.unlost b other none) (h.kept b (before b is)))
        ]
      ];
      lent = lent-then parts s B t new w r d e L run l a.tables h;
      lost = (a.few, h.lost);
      only = λ b un.
          let was : has_number b (known s P) ≡ false = subst (λ bs. has_number b bs ≡ false) l.same_known un in
          let legal = legal-of s B run in
          let other : is_among b (granted_block (Some d)) ≡ false = elim (cases_Bool (is_among b (granted_block (Some d)))) [
            | inl is ↦ absurd (true≢false (sym (granted-known s P r b d run.pooled legal l.held is) ∙ was))
            | inr no_ ↦ no_
          ] in
          let none : has_part P b d ≡ false = elim (cases_Bool (has_part P b d)) [
            | inl is ↦ absurd (true≢false (sym (part-known s P r b d run.pooled legal l.held is) ∙ was))
            | inr no_ ↦ no_
          ] in
          a.others b other none ∙ h.only b was;
    }

-- GRANTS THEN

makes-among : (b n : ℕ) (a : FrameName) (d : Entry) → Makes b a n d → is_among b (granted_block (Some d)) ≡ true
makes-among b n a (Load q k c z f g x) m = among-one b c ∙ eq-eqb c b m.0
makes-among b n a (TakeBlock f x q v i k c z g) m = among-one b c ∙ eq-eqb c b m.0
makes-among b n a _ m = absurd m

some-same : {X : Type 0} {x y : X} → Some x ≡ Some y → x ≡ y
some-same h = cc

-- what isn't granted with the hand isn't in the making there
not-here : (s : Setting) (P : Past) (r b n : ℕ) (a : FrameName) (d : Entry) → is_legal s P ≡ true → hand r P ≡ Some d
    → is_among b (granted_block (Some d)) ≡ false → last_grant b P ≡ InMaking r a n → ⊥
not-here s P r b n a d legal held no_ making =
    let m = held-making s P r b n a legal making in
    let it : m.0 ≡ d = some-same (sym m.1 ∙ held) in
    true≢false (sym (makes-among b n a d (subst (λ (i : Entry). Makes b a n i) it m.2)) ∙ no_)

done-by : (r : ℕ) (g : LastGrant) → ((a : FrameName) (n : ℕ) → g ≡ InMaking r a n → ⊥) → once_done r g ≡ g
done-by r (InMaking q a n) no_ =
    elim (cases_Bool (eqb q r)) [
      | inl here ↦ absurd (no_ a n (ap (λ (i : ℕ). InMaking i a n) (eqb-true q r here)))
      | inr other ↦ rw other refl
    ]
done-by r Never no_ = refl
done-by r (Made a n) no_ = refl
done-by r (TakenBack n) no_ = refl

back-by : (r : ℕ) (g : LastGrant) → ((a : FrameName) (n : ℕ) → g ≡ InMaking r a n → ⊥) → once_taken_back r g ≡ g
back-by r (InMaking q a n) no_ =
    elim (cases_Bool (eqb q r)) [
      | inl here ↦ absurd (no_ a n (ap (λ (i : ℕ). InMaking i a n) (eqb-true q r here)))
      | inr other ↦ rw other refl
    ]
back-by r Never no_ = refl
back-by r (Made a n) no_ = refl
back-by r (TakenBack n) no_ = refl

pub done-other : (s : Setting) (P : Past) (r b : ℕ) (d : Entry) → is_legal s P ≡ true → hand r P ≡ Some d → is_among b (granted_block (Some d)) ≡ false
    → once_done r (last_grant b P) ≡ last_grant b P
done-other s P r b d legal held no_ = done-by r (last_grant b P) (λ a n making. not-here s P r b n a d legal held no_ making)

pub back-other : (s : Setting) (P : Past) (r b : ℕ) (d : Entry) → is_legal s P ≡ true → hand r P ≡ Some d → is_among b (granted_block (Some d)) ≡ false
    → once_taken_back r (last_grant b P) ≡ last_grant b P
back-other s P r b d legal held no_ = back-by r (last_grant b P) (λ a n making. not-here s P r b n a d legal held no_ making)

-- WHAT WAS MADE

whole-here : (p : Option Parts) (n m : ℕ) → m ≡ 0 → IsWholeOf n p → OfSome (λ q. (q.size ≡ n) × (q.here ≡ 2 ^ 32 - m)) p
whole-here None n m none whole = tt
whole-here (Some p) n m none whole = (whole.1, omega (arith, whole.0, none))

-- the frame that was made is kept whole
pub made-kept : {F : Type 0} (parts : F → Option Parts) (s : Setting) (B : BoardState) (w : FrameName
    → Bool) (r b n : ℕ) (a : FrameName) (f : F) (d e : Entry) (k : Kept) → IsRunOf s B → EndsHand s (past B) w r d e
    → last_grant b (past B) ≡ InMaking r a n → last_grant b (e ∷ past B) ≡ once_done r (last_grant b (past B)) → parts_away b B ≡ 0
    → IsWholeOf n (parts f) → k ≡ Frame a (parts f)
    → IsKeptIn parts s (ends e [] ∷ B) b (last_grant b (e ∷ past B)) k
made-kept parts s B w r b n a f d e k run l making turn gone whole is =
    let P = past B in
    let new = ends e [] ∷ B in
    let made : last_grant b (e ∷ P) ≡ Made a n =
    turn ∙ (ap (once_done r) making ∙ ap (λ (y : Bool). if y then Made a n else InMaking r a n) (eq-eqb r r refl)) in
    let none : parts_in_hand (e ∷ P) b + parts_away b new ≡ 0 =
    omega (arith, fewer-parts s P w r d e l b, no-parts-making s P r b n a run.pooled (legal-of s B run) making, gone-then b e [] B (l.none b), gone) in
    subst (λ (g : LastGrant). IsKeptIn parts s new b g k) (sym made)
    (inl (record {
      its_parts = parts f;
      is = is;
      tells = λ tell. tell f;
      here = whole-here (parts f) n (parts_in_hand (e ∷ P) b + parts_away b new) none whole;
    }))

-- the part of a role is one of what is kept
pub own-part : {F : Type 0} (parts : F → Option Parts) (s : Setting) (B : BoardState) (t : List Kept) (r c : ℕ) (a : FrameName) (q : Option Parts)
    → Holds parts s B t → has_part_of a (hand r (past B)) ≡ true → block_of (past B) a ≡ c ∷ [] → q ≡ lent_to r B → IsPartOf (kept_at t c) a q
own-part parts s B t r c a q h has on is = subst (λ (o : Option Parts). IsPartOf (kept_at t c) a o) (sym is) (h.lent r c a has on)

-- ISSUE

pub issue-law : {F : Type 0} (name_of : F → FrameName) (parts : F → Option Parts) (s : Setting) (B : BoardState) (t : List Kept) (r b : ℕ) (f : F)
    → IsRunOf s B → HoldsBlocks parts s B t
    → is_load_of (name_of f) (hand r (past B)) ≡ true → granted_block (hand r (past B)) ≡ b ∷ []
    → IsWholeOf (granted_size (hand r (past B))) (parts f) → is_legal s (past (moved s (plain (Issue r (name_of f).index)) B)) ≡ true
    → HoldsBlocks parts s (moved s (plain (Issue r (name_of f).index)) B) (with_kept t b (Frame (name_of f) (parts f)))
issue-law name_of parts s B t r b f run hb load grant whole legal =
    let P = past B in
    let e = Issue r (name_of f).index in
    let k = Frame (name_of f) (parts f) in
    let new = with_kept t b k in
    let rest = later s 0 (plain e) B in
    let first_legal : is_legal s (e ∷ P) ≡ true = rest.before legal in
    let before = legal-of s B run in
    let h = holds-in parts s B t run hb in
    let o = load_in r (name_of f) (hand r P) (names_role r P) load in
    let d = Load r o.0 o.1 o.2 o.3 o.4 o.5 in
    let held : hand r P ≡ Some d = o.6 in
    let named : name_of f ≡ frame 0 o.0 = o.7 in
    let blocks : o.1 ∷ [] ≡ b ∷ [] = sym (ap granted_block held) ∙ grant in
    let one : o.1 ≡ b = cc in
    let making : last_grant b P ≡ InMaking r (name_of f) o.2 = making-granted s P r b o.2 (name_of f) d run.pooled before held (one, sym named, refl) in
    let sized : IsWholeOf o.2 (parts f) = subst (λ (i : Option Entry). IsWholeOf (granted_size i) (parts f)) held whole in
    let l : EndsHand s P no_frame r d e = record {
      legal = first_legal;
      held = held;
      fewer = refl;
      unheld = none-hold (let_go r (hands P));
      others = λ x off. refl;
      same_known = refl;
      none = λ i. refl;
      ups = λ q. refl;
      downs = λ q. refl;
      same_grant = λ i no_. done-other s P r i d before held no_;
      clear = λ a gone. clear-more (is_frame a) s e P first_legal refl gone;
    } in
    let apart : (i : ℕ) → is_among i (granted_block (Some d)) ≡ false → i ≢ b =
    λ i no_ is. true≢false (sym (among-one i o.1 ∙ eq-eqb o.1 i (one ∙ sym is)) ∙ no_) in
    let a : EndsAt parts s B t new d e [] = record {
      long = same-length t b k;
      at_grant = λ i known_ is.
          let here : b ≡ i = sym one ∙ eqb-true o.1 i (sym (among-one i o.1) ∙ is) in
          let known_b : has_number b (known s P) ≡ true = subst (λ (j : ℕ). has_number j (known s P) ≡ true) (sym here) known_ in
          let was : IsKeptIn parts s B b (InMaking r (name_of f) o.2) (kept_at t b) =
          subst (λ (g : LastGrant). IsKeptIn parts s B b g (kept_at t b)) making (h.kept b known_b) in
          subst (λ (j : ℕ). IsKeptIn parts s (ends e [] ∷ B) j (last_grant j (e ∷ P)) (kept_at new j)) here
          (made-kept parts s B no_frame r b o.2 (name_of f) f d e (kept_at new b) run l making refl was.1 sized (at-same t b k (h.places b known_b)));
      at_part = λ i no_ part. absurd (false≢true part);
      others = λ i no_ none. at-other t b i k (apart i no_);
      unlost = λ i no_ none. refl;
      tables = λ i x q no_ part. subst (λ (y : Kept). IsPartOf y x q) (sym (at-other t b i k (apart i no_))) part;
      few = omega arith;
    } in
    holds-out parts s (moved s (plain e) B) new
    (rest-holds parts s (plain e ∷ B) (moved s (plain e) B) new rest legal (ends-holds parts s B t new no_frame r d e [] run h l a))

-- THE ARRAY COMES BACK

-- at a hand without a grant, with all of it back
pub back-at : {F : Type 0} (parts : F → Option Parts) (s : Setting) (B : BoardState) (t : List Kept) (w : FrameName
    → Bool) (r c : ℕ) (a : FrameName) (q : Option Parts) (d e : Entry) (L : List ℕ) → IsRunOf s B → Holds parts s B t → EndsHand s (past B) w r d e
    → has_part_of a (Some d) ≡ true → ((b : ℕ) → has_part (past B) b d ≡ is_among b (block_of (past B) a)) → block_of (past B) a ≡ c ∷ [] → q ≡ lent_to r B
    → granted_block (Some d) ≡ [] → L ≡ []
    → EndsAt parts s B t (with_kept t c (united (kept_at t c) q)) d e L
back-at parts s B t w r c a q d e L run h l has counts on is no_grant none_lost =
    let P = past B in
    let k = united (kept_at t c) q in
    let new = with_kept t c k in
    let before = legal-of s B run in
    let had : has_part_of a (hand r P) ≡ true = ap (has_part_of a) l.held ∙ has in
    let used = hand-used s P r a had in
    let p = placed-on s P c a run.pooled before on used in
    let place : c < length t = h.places c p.0 in
    let f : IsFrameOn parts B c a p.1.0 (kept_at t c) =
    made-frame parts s B c p.1.0 a (kept_at t c) used (subst (λ (g : LastGrant). IsKeptIn parts s B c g (kept_at t c)) p.1.1 (h.kept c p.0)) in
    let part = own-part parts s B t r c a q h had on is in
    let at_c : has_part P c d ≡ true = counts c ∙ (ap (is_among c) on ∙ (among-one c c ∙ eq-eqb c c refl)) in
    let here_of : (b : ℕ) → has_part P b d ≡ true → c ≡ b =
    λ b has_b. eqb-true c b (sym (among-one b c) ∙ (sym (ap (is_among b) on) ∙ (sym (counts b) ∙ has_b))) in
    let apart : (b : ℕ) → has_part P b d ≡ false → b ≢ c =
    λ b none same_. true≢false (sym (subst (λ (i : ℕ). has_part P i d ≡ true) (sym same_) at_c) ∙ none) in
    let unlost : (b : ℕ) → is_among b L ≡ false = λ b. ap (is_among b) none_lost in
    record {
      long = same-length t c k;
      at_grant = λ b known_ granted. absurd (false≢true (sym (ap (is_among b) no_grant) ∙ granted));
      at_part = λ b no_ has_b.
          subst (λ (i : ℕ). IsKeptIn parts s (ends e L ∷ B) i (last_grant i (e ∷ P)) (kept_at new i)) (here_of b has_b)
          (subst (λ (x : Kept). IsKeptIn parts s (ends e L ∷ B) c (last_grant c (e ∷ P)) x) (sym (at-same t c k place))
          (given-back parts s B w r c p.1.0 a q d e L (kept_at t c) run h.lost l at_c (unlost c) p.1.1 f part));
      others = λ b no_ none. at-other t c b k (apart b none);
      unlost = λ b no_ none. unlost b;
      tables = λ b x y no_ other. elim (cases_eq b c) [
        | inl here ↦
            subst (λ (i : ℕ). IsPartOf (kept_at new i) x y) (sym here) (subst (λ (z : Kept). IsPartOf z x y) (sym (at-same t c k place))
            (united-part (kept_at t c) x a y q (subst (λ (i : ℕ). IsPartOf (kept_at t i) x y) here other) part))
        | inr ne ↦ subst (λ (z : Kept). IsPartOf z x y) (sym (at-other t c b k ne)) other
      ];
      few = subst (λ (xs : List ℕ). length xs ≤ most_lost e) (sym none_lost) (omega arith);
    }

-- SAVED

pub saved-law : {F : Type 0} (name_of : F → FrameName) (parts : F → Option Parts) (s : Setting) (B : BoardState) (t : List Kept) (r v c : ℕ) (f : F)
    → IsRunOf s B → HoldsBlocks parts s B t
    → is_piece_on (name_of f) (hand r (past B)) ≡ true → block_of (past B) (name_of f) ≡ c ∷ [] → parts f ≡ lent_to r B
    → is_legal s (past (moved s (plain (Saved r v (name_of f).maker (name_of f).index)) B)) ≡ true
    → HoldsBlocks parts s (moved s (plain (Saved r v (name_of f).maker (name_of f).index)) B) (with_kept t c (united (kept_at t c) (parts f)))
saved-law name_of parts s B t r v c f run hb piece on own legal =
    let P = past B in
    let a = name_of f in
    let e = Saved r v a.maker a.index in
    let new = with_kept t c (united (kept_at t c) (parts f)) in
    let rest = later s 0 (plain e) B in
    let first_legal : is_legal s (e ∷ P) ≡ true = rest.before legal in
    let h = holds-in parts s B t run hb in
    let o = piece_in r a (hand r P) (names_role r P) piece in
    let d = Save r (hand_node (hand r P)) a.maker a.index o.0 in
    let l : EndsHand s P no_frame r d e = record {
      legal = first_legal;
      held = o.1;
      fewer = refl;
      unheld = none-hold (let_go r (hands P));
      others = λ x off. refl;
      same_known = refl;
      none = λ i. refl;
      ups = λ q. refl;
      downs = λ q. refl;
      same_grant = λ i no_. refl;
      clear = λ x gone. clear-more (is_frame x) s e P first_legal refl gone;
    } in
    holds-out parts s (moved s (plain e) B) new
    (rest-holds parts s (plain e ∷ B) (moved s (plain e) B) new rest legal
    (ends-holds parts s B t new no_frame r d e [] run h l
    (back-at parts s B t no_frame r c a (parts f) d e [] run h l (same_refl a) (λ b. refl) on own refl refl)))
