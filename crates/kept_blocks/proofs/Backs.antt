-- The array of a hand that ends, with its part given back or lost, and what is kept of what was granted with the hand.
use Rattle.std.proofs.Common.{◌≡◌, ◌≢◌, ℕ, ◌≤◌, ◌<◌, Bool, true, false, not, ◌||◌, eqb, List, [], ◌∷◌, length, refl, sym, ap, ◌∙◌, subst, Option, Some}
use Rattle.std.proofs.Common.{None, inl, inr, if◌then◌else◌}
use Rattle.std.proofs.lemmas.Bool.{false≢true, true≢false, eq-eqb, eqb-true, cases_Bool, cases_eq}
use Rattle.nd_base.specs.declared.frame.FrameName.{FrameName}
use Rattle.nd_base.specs.Parts.{Parts}
use Rattle.pool_ledger.specs.Grants.{has_number}
use Rattle.flow_journal.specs.declared.entry.Entry.{Entry}
use Rattle.flow_journal.specs.Setting.{Setting}
use Rattle.flow_journal.specs.Pasts.{same}
use Rattle.flow_journal.specs.Hands.{hand}
use Rattle.flow_journal.specs.Accounts.{block_of, known}
use Rattle.flow_journal.proofs.EntryCounts.{count}
use Rattle.board_rules.specs.States.{BoardState, past, lent_to}
use Rattle.board_rules.specs.InHand.{has_part_of, granted_block, TellParts, OfSome}
use Rattle.board_rules.specs.Storage.{is_among, is_away, has_part, parts_away, brings}
use Rattle.frame_table.specs.Kept.{Kept, kept_at, with_kept, IsPartOf, united, IsSized, at_home}
use Rattle.board_rules.specs.LastGrants.{LastGrant, InMaking, TakenBack, once_taken_back, last_grant}
use Rattle.kept_blocks.specs.Keeping.{IsRunOf, IsFrameOn, most_lost}
use Rattle.kept_blocks.specs.MoveLaws.{with_input}
use Rattle.kept_blocks.proofs.Placing.{placed-on, hand-used}
use Rattle.kept_blocks.proofs.Shares.{away-none}
use Rattle.kept_blocks.proofs.Holding.{IsKeptIn, Holds, legal-of, at-same, at-other, same-length, made-frame}
use Rattle.kept_blocks.proofs.Lending.{among-one}
use Rattle.kept_blocks.proofs.Ending.{EndsHand, ends, away-then, given-back, stayed-away, united-part}
use Rattle.kept_blocks.proofs.Returns.{own-part, EndsAt}

-- what is kept once the array of the hand came back or didn't, but for what was granted with the hand
pub record PartBack {F : Type 0} (parts : F → Option Parts) (s : Setting) (B : BoardState) (t new : List Kept) (d e : Entry) (L : List ℕ) : Type 0 where
  pub long : length new ≡ length t
  pub at_part : (b : ℕ) → is_among b (granted_block (Some d)) ≡ false → has_part (past B) b d ≡ true
      → IsKeptIn parts s (ends e L ∷ B) b (last_grant b (e ∷ past B)) (kept_at new b)
  pub others : (b : ℕ) → has_part (past B) b d ≡ false → kept_at new b ≡ kept_at t b
  pub tables : (b : ℕ) (x : FrameName) (q : Option Parts) → IsPartOf (kept_at t b) x q → IsPartOf (kept_at new b) x q

-- the array of the hand, on its block
pub record HasArray (B : BoardState) (r c : ℕ) (a : FrameName) (d : Entry) : Type 0 where
  pub has : has_part_of a (Some d) ≡ true
  pub counts : (b : ℕ) → has_part (past B) b d ≡ is_among b (block_of (past B) a)
  pub on : block_of (past B) a ≡ c ∷ []

pub at-block : (B : BoardState) (r c : ℕ) (a : FrameName) (d : Entry) → HasArray B r c a d → has_part (past B) c d ≡ true
at-block B r c a d m = m.counts c ∙ (ap (is_among c) m.on ∙ (among-one c c ∙ eq-eqb c c refl))

pub this-block : (B : BoardState) (r c b : ℕ) (a : FrameName) (d : Entry) → HasArray B r c a d → has_part (past B) b d ≡ true → c ≡ b
this-block B r c b a d m has_b = eqb-true c b (sym (among-one b c) ∙ (sym (ap (is_among b) m.on) ∙ (sym (m.counts b) ∙ has_b)))

pub apart-block : (B : BoardState) (r c b : ℕ) (a : FrameName) (d : Entry) → HasArray B r c a d → has_part (past B) b d ≡ false → b ≢ c
apart-block B r c b a d m none is = true≢false (sym (subst (λ (i : ℕ). has_part (past B) i d ≡ true) (sym is) (at-block B r c a d m)) ∙ none)

pub returned : {F : Type 0} (parts : F → Option Parts) (s : Setting) (B : BoardState) (t : List Kept) (w : FrameName
    → Bool) (r c : ℕ) (a : FrameName) (q : Option Parts) (d e : Entry) (L : List ℕ) → IsRunOf s B → Holds parts s B t → EndsHand s (past B) w r d e
    → HasArray B r c a d → q ≡ lent_to r B → is_among c L ≡ false → PartBack parts s B t (with_kept t c (united (kept_at t c) q)) d e L
returned parts s B t w r c a q d e L run h l m is unlost =
    let P = past B in
    let k = united (kept_at t c) q in
    let new = with_kept t c k in
    let before = legal-of s B run in
    let had : has_part_of a (hand r P) ≡ true = ap (has_part_of a) l.held ∙ m.has in
    let used = hand-used s P r a had in
    let p = placed-on s P c a run.pooled before m.on used in
    let place : c < length t = h.places c p.0 in
    let f : IsFrameOn parts B c a p.1.0 (kept_at t c) =
    made-frame parts s B c p.1.0 a (kept_at t c) used (subst (λ (g : LastGrant). IsKeptIn parts s B c g (kept_at t c)) p.1.1 (h.kept c p.0)) in
    let part = own-part parts s B t r c a q h had m.on is in
    record {
      long = same-length t c k;
      at_part = λ b no_ has_b.
          subst (λ (i : ℕ). IsKeptIn parts s (ends e L ∷ B) i (last_grant i (e ∷ P)) (kept_at new i)) (this-block B r c b a d m has_b)
          (subst (λ (x : Kept). IsKeptIn parts s (ends e L ∷ B) c (last_grant c (e ∷ P)) x) (sym (at-same t c k place))
          (given-back parts s B w r c p.1.0 a q d e L (kept_at t c) run h.lost l (at-block B r c a d m) unlost p.1.1 f part));
      others = λ b none. at-other t c b k (apart-block B r c b a d m none);
      tables = λ b x y other. elim (cases_eq b c) [
        | inl here ↦
            subst (λ (i : ℕ). IsPartOf (kept_at new i) x y) (sym here) (subst (λ (z : Kept). IsPartOf z x y) (sym (at-same t c k place))
            (united-part (kept_at t c) x a y q (subst (λ (i : ℕ). IsPartOf (kept_at t i) x y) here other) part))
        | inr ne ↦ subst (λ (z : Kept). IsPartOf z x y) (sym (at-other t c b k ne)) other
      ];
    }

pub lost-part : {F : Type 0} (parts : F → Option Parts) (s : Setting) (B : BoardState) (t : List Kept)
    (w : FrameName → Bool) (r c : ℕ) (a : FrameName) (d e : Entry) (L : List ℕ) → IsRunOf s B → Holds parts s B t → EndsHand s (past B) w r d e
    → HasArray B r c a d → count (λ i. eqb i c) L ≡ 1 → PartBack parts s B t t d e L
lost-part parts s B t w r c a d e L run h l m one_lost =
    let P = past B in
    let before = legal-of s B run in
    let had : has_part_of a (hand r P) ≡ true = ap (has_part_of a) l.held ∙ m.has in
    let used = hand-used s P r a had in
    let p = placed-on s P c a run.pooled before m.on used in
    let f : IsFrameOn parts B c a p.1.0 (kept_at t c) =
    made-frame parts s B c p.1.0 a (kept_at t c) used (subst (λ (g : LastGrant). IsKeptIn parts s B c g (kept_at t c)) p.1.1 (h.kept c p.0)) in
    record {
      long = refl;
      at_part = λ b no_ has_b.
          subst (λ (i : ℕ). IsKeptIn parts s (ends e L ∷ B) i (last_grant i (e ∷ P)) (kept_at t i)) (this-block B r c b a d m has_b)
          (stayed-away parts s B w r c p.1.0 a d e L (kept_at t c) run l (at-block B r c a d m) one_lost p.1.1 f);
      others = λ b none. refl;
      tables = λ b x y other. other;
    }

-- by what came back
pub input-back : {F : Type 0} (name_of : F → FrameName) (parts : F → Option Parts) (s : Setting) (B : BoardState) (t : List Kept) (w : FrameName
    → Bool) (r c : ℕ) (a : FrameName) (input : Option F) (d e : Entry) (L : List ℕ) → IsRunOf s B → Holds parts s B t → EndsHand s (past B) w r d e
    → HasArray B r c a d → OfSome (λ f. same (name_of f) a ≡ true → parts f ≡ lent_to r B) input → (brings name_of a input ≡ true → is_among c L ≡ false)
    → (brings name_of a input ≡ false → count (λ i. eqb i c) L ≡ 1)
    → PartBack parts s B t (with_input name_of parts a c input t) d e L
input-back name_of parts s B t w r c a None d e L run h l m own there away = lost-part parts s B t w r c a d e L run h l m (away refl)
input-back name_of parts s B t w r c a (Some f) d e L run h l m own there away =
    elim (cases_Bool (same (name_of f) a)) [
      | inl is ↦
          subst (λ (y : Bool). PartBack parts s B t (if y then with_kept t c (united (kept_at t c) (parts f)) else t) d e L) (sym is)
          (returned parts s B t w r c a (parts f) d e L run h l m (own is) (there is))
      | inr other ↦
          subst (λ (y : Bool). PartBack parts s B t (if y then with_kept t c (united (kept_at t c) (parts f)) else t) d e L) (sym other)
          (lost-part parts s B t w r c a d e L run h l m (away other))
    ]

-- WITH WHAT IS KEPT OF A GRANT

-- nothing was granted with the hand
pub with-part : {F : Type 0} (parts : F → Option Parts) (s : Setting) (B : BoardState) (t new : List Kept) (d e : Entry) (L : List ℕ)
    → PartBack parts s B t new d e L → granted_block (Some d) ≡ []
    → ((b : ℕ) → has_part (past B) b d ≡ false → is_among b L ≡ false) → length L ≤ most_lost e → EndsAt parts s B t new d e L
with-part parts s B t new d e L p no_grant unlost few = record {
  long = p.long;
  at_grant = λ b known_ granted. absurd (false≢true (sym (ap (is_among b) no_grant) ∙ granted));
  at_part = p.at_part;
  others = λ b no_ none. p.others b none;
  unlost = λ b no_ none. unlost b none;
  tables = λ b x q no_ part. p.tables b x q part;
  few = few;
}

-- this block was, and this is kept of it
pub with-grant : {F : Type 0} (parts : F → Option Parts) (s : Setting) (B : BoardState) (t mid : List Kept) (d e : Entry) (L : List ℕ) (b : ℕ) (k : Kept)
    → Holds parts s B t → PartBack parts s B t mid d e L → granted_block (Some d) ≡ b ∷ []
    → (has_number b (known s (past B)) ≡ true → IsKeptIn parts s (ends e L ∷ B) b (last_grant b (e ∷ past B)) k)
    → ((i : ℕ) → is_among i (granted_block (Some d)) ≡ false → has_part (past B) i d ≡ false → is_among i L ≡ false) → length L ≤ most_lost e
    → EndsAt parts s B t (with_kept mid b k) d e L
with-grant parts s B t mid d e L b k h p grant kept unlost few =
    let apart : (i : ℕ) → is_among i (granted_block (Some d)) ≡ false → i ≢ b =
    λ i no_ is. true≢false (sym (ap (is_among i) grant ∙ (among-one i b ∙ eq-eqb b i (sym is))) ∙ no_) in
    record {
      long = same-length mid b k ∙ p.long;
      at_grant = λ i known_ granted.
          let here : b ≡ i = eqb-true b i (sym (among-one i b) ∙ (sym (ap (is_among i) grant) ∙ granted)) in
          let known_b : has_number b (known s (past B)) ≡ true = subst (λ (j : ℕ). has_number j (known s (past B)) ≡ true) (sym here) known_ in
          let place : b < length mid = subst (λ (n : ℕ). b < n) (sym p.long) (h.places b known_b) in
          subst (λ (j : ℕ). IsKeptIn parts s (ends e L ∷ B) j (last_grant j (e ∷ past B)) (kept_at (with_kept mid b k) j)) here
          (subst (λ (x : Kept). IsKeptIn parts s (ends e L ∷ B) b (last_grant b (e ∷ past B)) x) (sym (at-same mid b k place)) (kept known_b));
      at_part =
          λ i no_ has_i. subst (λ (x : Kept). IsKeptIn parts s (ends e L ∷ B) i (last_grant i (e ∷ past B)) x)
          (sym (at-other mid b i k (apart i no_))) (p.at_part i no_ has_i);
      others = λ i no_ none. at-other mid b i k (apart i no_) ∙ p.others i none;
      unlost = unlost;
      tables = λ i x q no_ part. subst (λ (y : Kept). IsPartOf y x q) (sym (at-other mid b i k (apart i no_))) (p.tables i x q part);
      few = few;
    }

-- it was, and its place stays as it is
pub with-empty : {F : Type 0} (parts : F → Option Parts) (s : Setting) (B : BoardState) (t mid : List Kept) (d e : Entry) (L : List ℕ) (b : ℕ)
    → Holds parts s B t → PartBack parts s B t mid d e L → granted_block (Some d) ≡ b ∷ [] → has_part (past B) b d ≡ false
    → (has_number b (known s (past B)) ≡ true → IsKeptIn parts s (ends e L ∷ B) b (last_grant b (e ∷ past B)) (kept_at t b))
    → ((i : ℕ) → is_among i (granted_block (Some d)) ≡ false → has_part (past B) i d ≡ false → is_among i L ≡ false) → length L ≤ most_lost e
    → EndsAt parts s B t mid d e L
with-empty parts s B t mid d e L b h p grant no_part kept unlost few = record {
  long = p.long;
  at_grant = λ i known_ granted.
      let here : b ≡ i = eqb-true b i (sym (among-one i b) ∙ (sym (ap (is_among i) grant) ∙ granted)) in
      let known_b : has_number b (known s (past B)) ≡ true = subst (λ (j : ℕ). has_number j (known s (past B)) ≡ true) (sym here) known_ in
      subst (λ (j : ℕ). IsKeptIn parts s (ends e L ∷ B) j (last_grant j (e ∷ past B)) (kept_at mid j)) here
      (subst (λ (x : Kept). IsKeptIn parts s (ends e L ∷ B) b (last_grant b (e ∷ past B)) x) (sym (p.others b no_part)) (kept known_b));
  at_part = p.at_part;
  others = λ i no_ none. p.others i none;
  unlost = unlost;
  tables = λ i x q no_ part. p.tables i x q part;
  few = few;
}

or-none : (x : Bool) → (x || false) ≡ x
or-none true = refl
or-none false = refl

-- what came home of a grant that was taken back
pub taken-kept : {F : Type 0} (parts : F → Option Parts)
    (s : Setting) (B : BoardState) (w : FrameName → Bool) (r b n : ℕ) (a : FrameName) (d e : Entry) (L : List ℕ) (k : Kept) → EndsHand s (past B) w r d e
    → last_grant b (past B) ≡ InMaking r a n → last_grant b (e ∷ past B) ≡ once_taken_back r (last_grant b (past B)) → parts_away b B ≡ 0
    → (TellParts parts → IsSized n k × (at_home n k ≡ Some (not (is_among b L)))) → IsKeptIn parts s (ends e L ∷ B) b (last_grant b (e ∷ past B)) k
taken-kept parts s B w r b n a d e L k l making turn gone home =
    let P = past B in
    let new = ends e L ∷ B in
    let back : last_grant b (e ∷ P) ≡ TakenBack n =
    turn ∙ (ap (once_taken_back r) making ∙ ap (λ (y : Bool). if y then TakenBack n else InMaking r a n) (eq-eqb r r refl)) in
    let away : is_away b new ≡ is_among b L =
    away-then b e L B (l.none b) ∙ (ap (λ (y : Bool). is_among b L || y) (away-none b B gone) ∙ or-none (is_among b L)) in
    subst (λ (g : LastGrant). IsKeptIn parts s new b g k) (sym back)
    (λ tell. record { sized = (home tell).0; home = (home tell).1 ∙ ap (λ (y : Bool). Some (not y)) (sym away) })
