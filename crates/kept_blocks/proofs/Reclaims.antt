-- A hand is taken back.
use Rattle.std.proofs.Common.{◌≡◌, ℕ, ◌≤◌, ◌^◌, Bool, true, false, not, ◌||◌, eqb, List, [], ◌∷◌, ◌++◌, length, refl, sym, ap, ◌∙◌, subst, arith, Option}
use Rattle.std.proofs.Common.{Some, None, if◌then◌else◌, length-append}
use Rattle.std.specs.Prelude.{IsSome, is_some}
use Rattle.std.proofs.lemmas.Bool.{and_from, false≢true, true≢false, eq-eqb, ne_eqb, or_from}
use Rattle.nd_base.specs.declared.frame.FrameName.{FrameName}
use Rattle.nd_base.specs.Parts.{Parts}
use Rattle.flow_journal.specs.declared.entry.Entry.{Entry}
use Rattle.flow_journal.specs.declared.entry.Entry.TheVariants.{Load, Take, TakeBlock, Save, Reclaim}
use Rattle.flow_journal.specs.Setting.{Setting}
use Rattle.flow_journal.specs.Pasts.{Past, frame, same}
use Rattle.flow_journal.specs.Hands.{hands, hand, let_go}
use Rattle.flow_journal.specs.Accounts.{block_of}
use Rattle.flow_journal.specs.Histories.{is_legal}
use Rattle.flow_journal.proofs.EntryCounts.{count, bit, count-append, count-cons}
use Rattle.flow_journal.proofs.Found.{none_counted}
use Rattle.flow_journal.proofs.FrameBlocks.{any-append}
use Rattle.flow_journal.proofs.AccountChanges.{block_laws}
use Rattle.flow_journal.proofs.Steps.{same_refl}
use Rattle.flow_journal.proofs.Travels.{clear-more}
use Rattle.flow_journal.proofs.Making.{is_frame, no_frame, reclaimed-nowhere, untaken-again}
use Rattle.board_rules.specs.declared.answers.Left.{Left}
use Rattle.board_rules.specs.States.{BoardState, past, loses, lent_to}
use Rattle.board_rules.specs.Moving.{moved}
use Rattle.board_rules.specs.InHand.{has_part_of, has_grant, granted_block, granted_size, IsWholeOf, TellParts, OfSome}
use Rattle.board_rules.specs.Storage.{is_among, has_part, brings, part_lost, lost_of}
use Rattle.frame_table.specs.Kept.{Kept, Frame, Storage, kept_at, IsSized, at_home}
use Rattle.board_rules.specs.LastGrants.{LastGrant, InMaking, once_taken_back, last_grant}
use Rattle.kept_blocks.specs.Keeping.{HoldsBlocks, IsRunOf, most_lost}
use Rattle.kept_blocks.specs.MoveLaws.{with_input, with_grant, taken_back, MayTakeBack}
use Rattle.kept_blocks.proofs.Granted.{making-granted}
use Rattle.kept_blocks.proofs.Placing.{placed-on, hand-used}
use Rattle.kept_blocks.proofs.Rest.{later}
use Rattle.kept_blocks.proofs.Shares.{none-hold}
use Rattle.kept_blocks.proofs.Holding.{IsKeptIn, Holds, holds-in, holds-out, legal-of, rest-holds}
use Rattle.kept_blocks.proofs.Lending.{among-one}
use Rattle.kept_blocks.proofs.Ending.{EndsHand, part-apart}
use Rattle.kept_blocks.proofs.Returns.{EndsAt, ends-holds, back-other}
use Rattle.kept_blocks.proofs.Backs.{PartBack, HasArray, input-back, with-part, with-grant, with-empty, taken-kept}

-- THE END OF EACH HAND

ends-load : (s : Setting) (P : Past) (r q k b n : ℕ) (f : Bool) (g : ℕ) (x : Bool) → is_legal s P ≡ true → is_legal s (Reclaim r ∷ P) ≡ true
    → hand r P ≡ Some (Load q k b n f g x) → EndsHand s P (is_frame (frame 0 k)) r (Load q k b n f g x) (Reclaim r)
ends-load s P r q k b n f g x before legal held =
    let gone = reclaimed-nowhere s r q k b n f g x P legal held in
    record {
      legal = legal;
      held = held;
      fewer = refl;
      unheld = gone.roles;
      others = λ y off. block_laws.reclaim_load s r q k b n f g x P y before held off;
      same_known = refl;
      none = λ i. refl;
      ups = λ p. refl;
      downs = λ p. refl;
      same_grant = λ i no_. back-other s P r i (Load q k b n f g x) before held no_;
      clear = λ y c. clear-more (is_frame y) s (Reclaim r) P legal refl c;
    }

ends-block : (s : Setting) (P : Past) (r q v m k b n : ℕ) (f : Bool) (g : ℕ) (x : Bool) → is_legal s P ≡ true → is_legal s (Reclaim r ∷ P) ≡ true
    → hand r P ≡ Some (TakeBlock f x q v m k b n g) → EndsHand s P (is_frame (frame v k)) r (TakeBlock f x q v m k b n g) (Reclaim r)
ends-block s P r q v m k b n f g x before legal held =
    let gone = untaken-again s r q v m k b n f g x P legal held in
    record {
      legal = legal;
      held = held;
      fewer = refl;
      unheld = gone.roles;
      others = λ y off. block_laws.reclaim_block s r q v m k b n f g x P y before held off;
      same_known = refl;
      none = λ i. refl;
      ups = λ p. refl;
      downs = λ p. refl;
      same_grant = λ i no_. back-other s P r i (TakeBlock f x q v m k b n g) before held no_;
      clear = λ y c. clear-more (is_frame y) s (Reclaim r) P legal refl c;
    }

ends-take : (s : Setting) (P : Past) (r q v m k : ℕ) → is_legal s P ≡ true → is_legal s (Reclaim r ∷ P) ≡ true → hand r P ≡ Some (Take q v m k)
    → EndsHand s P no_frame r (Take q v m k) (Reclaim r)
ends-take s P r q v m k before legal held = record {
  legal = legal;
  held = held;
  fewer = refl;
  unheld = none-hold (let_go r (hands P));
  others = λ y off. block_laws.reclaim_other s r (Take q v m k) P y before held refl;
  same_known = refl;
  none = λ i. refl;
  ups = λ p. refl;
  downs = λ p. refl;
  same_grant = λ i no_. back-other s P r i (Take q v m k) before held no_;
  clear = λ y c. clear-more (is_frame y) s (Reclaim r) P legal refl c;
}

ends-piece : (s : Setting) (P : Past) (r q v m k g : ℕ) → is_legal s P ≡ true → is_legal s (Reclaim r ∷ P) ≡ true → hand r P ≡ Some (Save q v m k g)
    → EndsHand s P no_frame r (Save q v m k g) (Reclaim r)
ends-piece s P r q v m k g before legal held = record {
  legal = legal;
  held = held;
  fewer = refl;
  unheld = none-hold (let_go r (hands P));
  others = λ y off. block_laws.reclaim_other s r (Save q v m k g) P y before held refl;
  same_known = refl;
  none = λ i. refl;
  ups = λ p. refl;
  downs = λ p. refl;
  same_grant = λ i no_. back-other s P r i (Save q v m k g) before held no_;
  clear = λ y c. clear-more (is_frame y) s (Reclaim r) P legal refl c;
}

-- LISTS OF WHAT STAYED AWAY

few-if : (y : Bool) (bs : List ℕ) → length bs ≤ 1 → length (if y then [] else bs) ≤ 1
few-if true bs few = omega arith
few-if false bs few = few

among-if : (i : ℕ) (y : Bool) (bs : List ℕ) → is_among i bs ≡ false → is_among i (if y then [] else bs) ≡ false
among-if i true bs none = refl
among-if i false bs none = none

own-among : (b : ℕ) (y : Bool) → is_among b (if y then [] else b ∷ []) ≡ not y
own-among b true = refl
own-among b false = among-one b b ∙ eq-eqb b b refl

among-both : (i : ℕ) (bs cs : List ℕ) → is_among i bs ≡ false → is_among i cs ≡ false → is_among i (bs ++ cs) ≡ false
among-both i bs cs p q = any-append (λ c. eqb c i) bs cs ∙ or_from (is_among i bs) (is_among i cs) p q

-- WHAT CAME HOME

whole-home : (p : Option Parts) (a : FrameName) (n : ℕ) → IsSome p → IsWholeOf n p → IsSized n (Frame a p) × (at_home n (Frame a p) ≡ Some true)
whole-home None a n some whole = absurd (true≢false (sym some))
whole-home (Some p) a n some whole =
    (whole.1, ap (λ (y : Bool). Some y) (and_from (eqb p.here (2 ^ 32)) (eqb p.size n) (eq-eqb p.here (2 ^ 32) whole.0) (eq-eqb p.size n whole.1)))

-- by what came back of a grant
grant-back : {F K : Type 0} (name_of : F → FrameName) (parts : F → Option Parts) (bytes_of : K → ℕ) (is_used : K
    → Bool) (s : Setting) (B : BoardState) (t mid : List Kept)
    (w : FrameName → Bool) (r b n : ℕ) (a : FrameName) (d e : Entry) (L : List ℕ) (made : Option F) (blank : Option K)
    → IsRunOf s B → Holds parts s B t → EndsHand s (past B) w r d e → PartBack parts s B t mid d e L → granted_block (Some d) ≡ b ∷ []
    → has_part (past B) b d ≡ false → last_grant b (past B) ≡ InMaking r a n
    → last_grant b (e ∷ past B) ≡ once_taken_back r (last_grant b (past B))
    → OfSome (λ f. IsWholeOf n (parts f)) made → OfSome (λ k. TellParts parts → bytes_of k ≡ n) blank → is_among b L ≡ not (is_some made || is_some blank)
    → ((i : ℕ) → is_among i (granted_block (Some d)) ≡ false → has_part (past B) i d ≡ false → is_among i L ≡ false) → length L ≤ most_lost e
    → EndsAt parts s B t (with_grant name_of parts bytes_of is_used b made blank mid) d e L
grant-back name_of parts bytes_of is_used s B t mid w r b n a d e L (Some f) blank run h l p grant no_part making turn whole sized among unlost few =
    with-grant parts s B t mid d e L b (Frame (name_of f) (parts f)) h p grant
    (λ known_b.
    let was : IsKeptIn parts s B b (InMaking r a n) (kept_at t b) = subst (λ (y : LastGrant). IsKeptIn parts s B b y (kept_at t b)) making (h.kept b known_b) in
    taken-kept parts s B w r b n a d e L (Frame (name_of f) (parts f)) l making turn was.1
    (λ tell. let home = whole-home (parts f) (name_of f) n (tell f) whole in (home.0, home.1 ∙ ap (λ (y : Bool). Some (not y)) (sym among))))
    unlost few
grant-back name_of parts bytes_of is_used s B t mid w r b n a d e L None (Some k) run h l p grant no_part making turn whole sized among unlost few =
    with-grant parts s B t mid d e L b (Storage (bytes_of k) (is_used k)) h p grant
    (λ known_b.
    let was : IsKeptIn parts s B b (InMaking r a n) (kept_at t b) = subst (λ (y : LastGrant). IsKeptIn parts s B b y (kept_at t b)) making (h.kept b known_b) in
    taken-kept parts s B w r b n a d e L (Storage (bytes_of k) (is_used k)) l making turn was.1
    (λ tell. (tt, ap (λ (y : Bool). Some y) (eq-eqb (bytes_of k) n (sized tell)) ∙ ap (λ (y : Bool). Some (not y)) (sym among))))
    unlost few
grant-back name_of parts bytes_of is_used s B t mid w r b n a d e L None None run h l p grant no_part making turn whole sized among unlost few =
    with-empty parts s B t mid d e L b h p grant no_part
    (λ known_b.
    let was : IsKeptIn parts s B b (InMaking r a n) (kept_at t b) = subst (λ (y : LastGrant). IsKeptIn parts s B b y (kept_at t b)) making (h.kept b known_b) in
    taken-kept parts s B w r b n a d e L (kept_at t b) l making turn was.1
    (λ tell. subst (λ (y : Kept). IsSized n y × (at_home n y ≡ Some (not (is_among b L)))) (sym was.0) (tt, ap (λ (y : Bool). Some (not y)) (sym among))))
    unlost few

-- THE LAWS

module _ {F K O : Type 0} (name_of : F → FrameName) (parts : F → Option Parts) (bytes_of : K → ℕ) (s : Setting) (B : BoardState) (t : List Kept)
    (r : ℕ) (left : Left F K O) (may : MayTakeBack name_of parts bytes_of s B t r left) where
  -- what may come back, at this hand
  own-input : (d : Entry) (a : FrameName) → hand r (past B) ≡ Some d → ((x : FrameName) → same x a ≡ true → has_part_of x (Some d) ≡ true)
      → OfSome (λ f. same (name_of f) a ≡ true → parts f ≡ lent_to r B) left.input
  own-input d a held part = by left.input (may.brings may.allowed).0
    where
      by : (input : Option F) → OfSome (λ f. has_part_of (name_of f) (hand r (past B)) ≡ true → parts f ≡ lent_to r B) input
          → OfSome (λ f. same (name_of f) a ≡ true → parts f ≡ lent_to r B) input
      by None own = tt
      by (Some f) own = λ is. own (ap (has_part_of (name_of f)) held ∙ part (name_of f) is)

  own-made : (d : Entry) (n : ℕ) → hand r (past B) ≡ Some d → has_grant (Some d) ≡ true → granted_size (Some d) ≡ n
      → OfSome (λ f. IsWholeOf n (parts f)) left.made
  own-made d n held grant size = by left.made (may.brings may.allowed).1
    where
      by : (made : Option F) → OfSome (λ f. has_grant (hand r (past B)) ≡ true → IsWholeOf (granted_size (hand r (past B))) (parts f)) made
          → OfSome (λ f. IsWholeOf n (parts f)) made
      by None own = tt
      by (Some f) own = subst (λ (i : ℕ). IsWholeOf i (parts f)) (ap granted_size held ∙ size) (own (ap has_grant held ∙ grant))

  own-blank : (d : Entry) (n : ℕ) → hand r (past B) ≡ Some d → has_grant (Some d) ≡ true → granted_size (Some d) ≡ n
      → OfSome (λ k. TellParts parts → bytes_of k ≡ n) left.blank
  own-blank d n held grant size = by left.blank (may.brings may.allowed).2
    where
      by : (blank : Option K) → OfSome (λ k. TellParts parts → has_grant (hand r (past B)) ≡ true → bytes_of k ≡ granted_size (hand r (past B))) blank
          → OfSome (λ k. TellParts parts → bytes_of k ≡ n) blank
      by None own = tt
      by (Some k) own = λ tell. own tell (ap has_grant held ∙ grant) ∙ (ap granted_size held ∙ size)

  -- the move, at this hand
  legal-at : (d : Entry) → hand r (past B) ≡ Some d → is_legal s (past (moved s (loses r (lost_of name_of (past B) (Some d) left)) B)) ≡ true
  legal-at d held = subst (λ (o : Option Entry). is_legal s (past (moved s (loses r (lost_of name_of (past B) o left)) B)) ≡ true) held may.legal

  first-legal : (d : Entry) → hand r (past B) ≡ Some d → is_legal s (Reclaim r ∷ past B) ≡ true
  first-legal d held = let rest = later s 0 (loses r (lost_of name_of (past B) (Some d) left)) B in rest.before (legal-at d held)

  finish : (d : Entry) (w : FrameName → Bool) (new : List Kept) → hand r (past B) ≡ Some d → EndsHand s (past B) w r d (Reclaim r)
      → EndsAt parts s B t new d (Reclaim r) (lost_of name_of (past B) (Some d) left)
      → HoldsBlocks parts s (taken_back name_of s r left B) new
  finish d w new held l at =
      let L = lost_of name_of (past B) (Some d) left in
      let rest = later s 0 (loses r L) B in
      subst (λ (o : Option Entry). HoldsBlocks parts s (moved s (loses r (lost_of name_of (past B) o left)) B) new) (sym held)
      (holds-out parts s (moved s (loses r L) B) new (rest-holds parts s (loses r L ∷ B) (moved s (loses r L) B) new rest (legal-at d held)
      (ends-holds parts s B t new w r d (Reclaim r) L may.run (holds-in parts s B t may.run may.holds) l at)))

  pub back-load : (is_used : K → Bool) (q k b n : ℕ) (f : Bool) (g : ℕ) (x : Bool) → hand r (past B) ≡ Some (Load q k b n f g x)
      → HoldsBlocks parts s (taken_back name_of s r left B) (with_grant name_of parts bytes_of is_used b left.made left.blank t)
  back-load is_used q k b n f g x held =
      let P = past B in
      let d = Load q k b n f g x in
      let e = Reclaim r in
      let L = lost_of name_of P (Some d) left in
      let before = legal-of s B may.run in
      let h = holds-in parts s B t may.run may.holds in
      let l = ends-load s P r q k b n f g x before (first-legal d held) held in
      let making : last_grant b P ≡ InMaking r (frame 0 k) n = making-granted s P r b n (frame 0 k) d may.run.pooled before held (refl, refl, refl) in
      let p : PartBack parts s B t t d e L =
      record { long = refl; at_part = λ i no_ has. absurd (false≢true has); others = λ i none. refl; tables = λ i y z part. part } in
      finish d (is_frame (frame 0 k)) (with_grant name_of parts bytes_of is_used b left.made left.blank t) held l
      (grant-back name_of parts bytes_of is_used s B t t (is_frame (frame 0 k)) r b n (frame 0 k) d e L left.made left.blank may.run h l p refl refl making refl
      (own-made d n held refl refl) (own-blank d n held refl refl)
      (own-among b (is_some left.made || is_some left.blank)) (λ i no_ none. among-if i (is_some left.made || is_some left.blank) (b ∷ []) no_)
      (let one = few-if (is_some left.made || is_some left.blank) (b ∷ []) (omega arith) in omega (arith, one)))

  array-lost : (P : Past) (i c : ℕ) (a : FrameName) → block_of P a ≡ c ∷ [] → is_among i (block_of P a) ≡ false
      → is_among i (part_lost name_of P a left.input) ≡ false
  array-lost P i c a on none = among-if i (brings name_of a left.input) (block_of P a) none

  few-lost : (P : Past) (c : ℕ) (a : FrameName) → block_of P a ≡ c ∷ [] → length (part_lost name_of P a left.input) ≤ 1
  few-lost P c a on = few-if (brings name_of a left.input) (block_of P a) (subst (λ (bs : List ℕ). length bs ≤ 1) (sym on) (omega arith))

  none-lost : (P : Past) (c : ℕ) (a : FrameName) → brings name_of a left.input ≡ true → is_among c (part_lost name_of P a left.input) ≡ false
  none-lost P c a there = ap (λ (y : Bool). is_among c (if y then [] else block_of P a)) there

  one-lost : (P : Past) (c : ℕ) (a : FrameName) → block_of P a ≡ c ∷ [] → brings name_of a left.input ≡ false
      → count (λ i. eqb i c) (part_lost name_of P a left.input) ≡ 1
  one-lost P c a on away =
      let lost : part_lost name_of P a left.input ≡ c ∷ [] = ap (λ (y : Bool). if y then [] else block_of P a) away ∙ on in
      ap (count (λ i. eqb i c)) lost ∙ omega (arith, count-cons (λ (i : ℕ). eqb i c) c [], ap bit (eq-eqb c c refl))

  pub back-take : (q v m k c : ℕ) → hand r (past B) ≡ Some (Take q v m k) → block_of (past B) (frame m k) ≡ c ∷ []
      → HoldsBlocks parts s (taken_back name_of s r left B) (with_input name_of parts (frame m k) c left.input t)
  back-take q v m k c held on =
      let P = past B in
      let d = Take q v m k in
      let e = Reclaim r in
      let L = part_lost name_of P (frame m k) left.input in
      let h = holds-in parts s B t may.run may.holds in
      let l = ends-take s P r q v m k (legal-of s B may.run) (first-legal d held) held in
      let has : HasArray B r c (frame m k) d = record { has = same_refl (frame m k); counts = λ i. refl; on = on } in
      let few = few-lost P c (frame m k) on in
      finish d no_frame (with_input name_of parts (frame m k) c left.input t) held l
      (with-part parts s B t (with_input name_of parts (frame m k) c left.input t) d e L
      (input-back name_of parts s B t no_frame r c (frame m k) left.input d e L may.run h l has
      (own-input d (frame m k) held (λ x is. is)) (none-lost P c (frame m k)) (one-lost P c (frame m k) on)) refl
      (λ i none. array-lost P i c (frame m k) on none) (omega (arith, few)))

  pub back-piece : (q v m k g c : ℕ) → hand r (past B) ≡ Some (Save q v m k g) → block_of (past B) (frame m k) ≡ c ∷ []
      → HoldsBlocks parts s (taken_back name_of s r left B) (with_input name_of parts (frame m k) c left.input t)
  back-piece q v m k g c held on =
      let P = past B in
      let d = Save q v m k g in
      let e = Reclaim r in
      let L = part_lost name_of P (frame m k) left.input in
      let h = holds-in parts s B t may.run may.holds in
      let l = ends-piece s P r q v m k g (legal-of s B may.run) (first-legal d held) held in
      let has : HasArray B r c (frame m k) d = record { has = same_refl (frame m k); counts = λ i. refl; on = on } in
      let few = few-lost P c (frame m k) on in
      finish d no_frame (with_input name_of parts (frame m k) c left.input t) held l
      (with-part parts s B t (with_input name_of parts (frame m k) c left.input t) d e L
      (input-back name_of parts s B t no_frame r c (frame m k) left.input d e L may.run h l has
      (own-input d (frame m k) held (λ x is. is)) (none-lost P c (frame m k)) (one-lost P c (frame m k) on)) refl
      (λ i none. array-lost P i c (frame m k) on none) (omega (arith, few)))

  pub back-block : (is_used : K → Bool) (q v m k b n c : ℕ) (f : Bool) (g : ℕ) (x : Bool) → hand r (past B) ≡ Some (TakeBlock f x q v m k b n g)
      → block_of (past B) (frame m k) ≡ c ∷ []
      → HoldsBlocks parts s (taken_back name_of s r left B)
      (with_grant name_of parts bytes_of is_used b left.made left.blank (with_input name_of parts (frame m k) c left.input t))
  back-block is_used q v m k b n c f g x held on =
      let P = past B in
      let d = TakeBlock f x q v m k b n g in
      let e = Reclaim r in
      let a = frame m k in
      let y : Bool = is_some left.made || is_some left.blank in
      let Lg : List ℕ = if y then [] else b ∷ [] in
      let Lp : List ℕ = part_lost name_of P a left.input in
      let L = Lg ++ Lp in
      let before = legal-of s B may.run in
      let h = holds-in parts s B t may.run may.holds in
      let l = ends-block s P r q v m k b n f g x before (first-legal d held) held in
      let has : HasArray B r c a d = record { has = same_refl a; counts = λ i. refl; on = on } in
      let had : has_part_of a (hand r P) ≡ true = ap (has_part_of a) held ∙ same_refl a in
      let p = placed-on s P c a may.run.pooled before on (hand-used s P r a had) in
      let apart : is_among c (b ∷ []) ≡ false = part-apart s P r c p.1.0 a d may.run.pooled before held p.1.1 in
      let turned : is_among b (c ∷ []) ≡ false = among-one b c ∙ ne_eqb c b (λ is. true≢false (sym (among-one c b ∙ eq-eqb b c (sym is)) ∙ apart)) in
      let no_part : is_among b (block_of P a) ≡ false = ap (is_among b) on ∙ turned in
      let making : last_grant b P ≡ InMaking r (frame v k) n = making-granted s P r b n (frame v k) d may.run.pooled before held (refl, refl, refl) in
      let unlost_c : is_among c Lg ≡ false = among-if c y (b ∷ []) apart in
      let none_c : brings name_of a left.input ≡ true → is_among c L ≡ false = λ there. among-both c Lg Lp unlost_c (none-lost P c a there) in
      let one_c : brings name_of a left.input ≡ false → count (λ i. eqb i c) L ≡ 1 =
      λ away. omega (arith, count-append (λ (i : ℕ). eqb i c) Lg Lp, none_counted (λ i. eqb i c) Lg unlost_c, one-lost P c a on away) in
      let among : is_among b L ≡ not y =
      any-append (λ i. eqb i b) Lg Lp ∙ (ap (λ (z : Bool). is_among b Lg || z) (array-lost P b c a on no_part) ∙ (or-none (is_among b Lg) ∙ own-among b y)) in
      let mid = with_input name_of parts a c left.input t in
      let few_g = few-if y (b ∷ []) (omega arith) in
      let few_p = few-lost P c a on in
      finish d (is_frame (frame v k)) (with_grant name_of parts bytes_of is_used b left.made left.blank mid) held l
      (grant-back name_of parts bytes_of is_used s B t mid (is_frame (frame v k)) r b n (frame v k) d e L left.made left.blank may.run h l
      (input-back name_of parts s B t (is_frame (frame v k)) r c a left.input d e L may.run h l has (own-input d a held (λ z is. is)) none_c one_c)
      refl no_part making refl (own-made d n held refl refl) (own-blank d n held refl refl) among
      (λ i no_ none. among-both i Lg Lp (among-if i y (b ∷ []) no_) (array-lost P i c a on none))
      (omega (arith, length-append Lg Lp, few_g, few_p)))
    where
      or-none : (z : Bool) → (z || false) ≡ z
      or-none true = refl
      or-none false = refl
