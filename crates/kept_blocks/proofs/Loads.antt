-- The moves of a grant: a load, and a take at a node that makes arrays.
use Rattle.std.proofs.Common.{◌≡◌, ◌≢◌, ℕ, ◌+◌, ◌-◌, ◌^◌, ◌<◌, Bool, true, false, not, eqb, List, [], ◌∷◌, ◌++◌, length, refl, sym, ap, ◌∙◌, subst, arith, ◌||◌}
use Rattle.std.proofs.Common.{Option, Some, None, inl, inr, if◌then◌else◌}
use Rattle.std.specs.Prelude.{filter}
use Rattle.std.specs.List.{list_any}
use Rattle.std.proofs.lemmas.Bool.{false≢true, true≢false, eq-eqb, ne_eqb, eqb-true, cases_Bool, cases_eq, or_cases, or_parts}
use Rattle.nd_base.specs.declared.frame.FrameName.{FrameName}
use Rattle.nd_base.specs.Parts.{Parts}
use Rattle.pool_ledger.specs.Grants.{Block, Granted, has_number, left_after, largest_free, known_after}
use Rattle.flow_journal.specs.declared.entry.Entry.{Entry}
use Rattle.flow_journal.specs.declared.entry.Entry.TheVariants.{Load, TakeBlock}
use Rattle.flow_journal.specs.Setting.{Setting}
use Rattle.flow_journal.specs.Pasts.{Past, frame, same}
use Rattle.flow_journal.specs.Hands.{hands, hand, takes_up, standing}
use Rattle.flow_journal.specs.Queued.{queued}
use Rattle.flow_journal.specs.Accounts.{block_of, known, held, is_unplaced}
use Rattle.flow_journal.specs.FirstEntries.{is_next}
use Rattle.flow_journal.specs.Histories.{is_legal}
use Rattle.flow_journal.proofs.EntryCounts.{count, bit, count-cons}
use Rattle.flow_journal.proofs.Steps.{same-true, same_refl}
use Rattle.flow_journal.proofs.Rows.{take-facts, first_of-next}
use Rattle.flow_journal.proofs.Hands.{takes-this, hands-more}
use Rattle.flow_journal.proofs.Changes.{hand_laws}
use Rattle.flow_journal.proofs.AccountChanges.{block_laws}
use Rattle.flow_journal.proofs.FrameBlocks.{grants_of}
use Rattle.flow_journal.proofs.Grants.{number-among}
use Rattle.flow_journal.proofs.Travels.{Clear, clear-more, holds, hand-clear, may-TakeBlock}
use Rattle.flow_journal.proofs.Making.{is_frame, unloaded-nowhere, untaken-nowhere}
use Rattle.pool_account.specs.Account.{given_up_for}
use Rattle.board_rules.specs.States.{BoardState, past, plain, lends, lent_to, take_block}
use Rattle.board_rules.specs.Moving.{moved, moved_at}
use Rattle.board_rules.specs.InHand.{has_part_of}
use Rattle.board_rules.specs.Storage.{grants, is_away, has_part, parts_in_hand, parts_away, parts_here}
use Rattle.frame_table.specs.Kept.{Kept, Empty, kept_at, with_kept, without_kept, IsPartOf, less_one}
use Rattle.board_rules.specs.LastGrants.{LastGrant, InMaking, Made, last_grant}
use Rattle.kept_blocks.specs.Keeping.{HoldsBlocks, IsRunOf, IsFrameOn, LoseFew}
use Rattle.kept_blocks.specs.GrantLaws.{IsGranted}
use Rattle.kept_blocks.proofs.Granted.{alone-from}
use Rattle.kept_blocks.proofs.Tied.{made-block, missing-left, not-again}
use Rattle.kept_blocks.proofs.Placing.{placed-on, hand-used, queued-used, first-used}
use Rattle.kept_blocks.proofs.Rest.{later, none-more}
use Rattle.kept_blocks.proofs.Shares.{few-parts, same-parts}
use Rattle.kept_blocks.proofs.Holding.{IsKeptIn, Holds, holds-in, holds-out, legal-of, keeps, rest-holds, at-same, at-other, same-length, made-frame}
use Rattle.kept_blocks.proofs.Holding.{emptied-at, stays-empty, gone-empty, same-without, length-without}
use Rattle.kept_blocks.proofs.Lending.{LendsOf, lent-shares, lent-lent, less-frame}
use Rattle.kept_blocks.proofs.Ending.{part-off}
use Rattle.kept_blocks.proofs.Granting.{by-pool, on-block, filtered-has}

-- what is known then was known, but for the block itself
known-then : (s : Setting) (P : Past) (b z : ℕ) (f : Bool) (g j : ℕ) → j ≢ b
    → has_number j (known_after (is_unplaced s P) (Granted b z f g) (known s P)) ≡ true → has_number j (known s P) ≡ true
known-then s P b z false g j ne h = h
known-then s P b z true g j ne h =
    elim (or_cases (eqb b j) (has_number j (left_after g (is_unplaced s P) (known s P))) h) [
      | inl here ↦ absurd (ne (sym (eqb-true b j here)))
      | inr there ↦ filtered-has j (λ c. not (has_number c.number (largest_free g (is_unplaced s P) (known s P)))) (known s P) there
    ]

-- the entry grants this block for an array, which nothing has before
pub record GrantsBlock (s : Setting) (P : Past) (b z : ℕ) (f : Bool) (g r : ℕ) (made : FrameName) (e : Entry) : Type 0 where
  pub legal : is_legal s (e ∷ P) ≡ true
  pub known_then : known s (e ∷ P) ≡ known_after (is_unplaced s P) (Granted b z f g) (known s P)
  pub turn : (k : ℕ) → last_grant k (e ∷ P) ≡ (if eqb b k then InMaking r made z else last_grant k P)
  pub grant : (k : ℕ) → grants k e ≡ eqb b k
  pub again : (x : FrameName) → same x made ≡ true → grants_of x (standing (e ∷ P)) ≡ (b ∷ []) ++ grants_of x (standing P)
  pub clear : (x : FrameName) → same made x ≡ false → Clear (is_frame x) s P → Clear (is_frame x) s (e ∷ P)

-- what was made isn't what is in the making then
made-other : (s : Setting) (P : Past) (b z : ℕ) (f : Bool) (g r k n : ℕ) (made x : FrameName) (e : Entry) → s.pooled ≡ true → is_legal s P ≡ true
    → GrantsBlock s P b z f g r made e → last_grant k P ≡ Made x n → same made x ≡ false
made-other s P b z f g r k n made x e pooled legal l is =
    elim (cases_Bool (same made x)) [
      | inl this ↦
          let it : made ≡ x = same-true made x this in
          absurd (not-again s P e x k b l.legal (l.again x (ap (λ (y : FrameName). same x y) it ∙ same_refl x)) (made-block s P k n x pooled legal is))
      | inr other ↦ other
    ]

-- the blocks then: the granted one waits for its array, and of another the same is kept, or one part less
grants-kept : {F : Type 0} (parts : F → Option Parts) (s : Setting) (B : BoardState) (t new : List Kept)
    (b z : ℕ) (f : Bool) (g r : ℕ) (made : FrameName) (q : Option Parts) (e : Entry) → IsRunOf s B → Holds parts s B t → GrantsBlock s (past B) b z f g r made e
    → kept_at new b ≡ Empty
    → ((k : ℕ) → k ≢ b → has_number k (known s (past B)) ≡ true → IsKeptIn parts s (lends e q ∷ B) k (last_grant k (past B)) (kept_at new k))
    → (k : ℕ) → has_number k (known s (e ∷ past B)) ≡ true → IsKeptIn parts s (lends e q ∷ B) k (last_grant k (e ∷ past B)) (kept_at new k)
grants-kept parts s B t new b z f g r made q e run h l empty others k is =
    let P = past B in
    elim (cases_eq k b) [
      | inl here ↦
          let turned : last_grant b (e ∷ P) ≡ InMaking r made z =
          l.turn b ∙ ap (λ (y : Bool). if y then InMaking r made z else last_grant b P) (eq-eqb b b refl) in
          let gone : parts_away b (lends e q ∷ B) ≡ 0 = ap (λ (y : Bool). if y then 0 else 0 + parts_away b B) (l.grant b ∙ eq-eqb b b refl) in
          subst (λ (j : ℕ). IsKeptIn parts s (lends e q ∷ B) j (last_grant j (e ∷ P)) (kept_at new j)) (sym here)
          (subst (λ (y : LastGrant). IsKeptIn parts s (lends e q ∷ B) b y (kept_at new b)) (sym turned) (empty, gone))
      | inr ne ↦
          let same_grant : last_grant k (e ∷ P) ≡ last_grant k P =
          l.turn k ∙ ap (λ (y : Bool). if y then InMaking r made z else last_grant k P) (ne_eqb b k (λ i. ne (sym i))) in
          subst (λ (y : LastGrant). IsKeptIn parts s (lends e q ∷ B) k y (kept_at new k)) (sym same_grant)
          (others k ne (known-then s P b z f g k ne (subst (λ bs. has_number k bs ≡ true) l.known_then is)))
    ]

-- and the places
grants-places : {F : Type 0} (parts : F → Option Parts) (s : Setting) (B : BoardState) (t new : List Kept) (b z : ℕ) (f : Bool) (g r : ℕ) (made : FrameName)
    (e : Entry) → Holds parts s B t → GrantsBlock s (past B) b z f g r made e → length new ≡ length t → b < length t
    → (k : ℕ) → has_number k (known s (e ∷ past B)) ≡ true → k < length new
grants-places parts s B t new b z f g r made e h l long place k is =
    elim (cases_eq k b) [
      | inl here ↦ omega (arith, long, place, here)
      | inr ne ↦
          let lt : k < length t = h.places k (known-then s (past B) b z f g k ne (subst (λ bs. has_number k bs ≡ true) l.known_then is)) in
          omega (arith, lt, long)
    ]

-- WHAT IS GIVEN UP

-- what was known and isn't then is given up
dropped-has : (gone : List Block) (j : ℕ) (bs : List Block) → has_number j bs ≡ true → has_number j (filter (λ c. not (has_number c.number gone)) bs) ≡ false
    → has_number j gone ≡ true
dropped-has gone j [] h off = absurd (false≢true h)
dropped-has gone j (c ∷ bs) h off =
    elim (cases_Bool (has_number c.number gone)) [
      | inl out ↦ elim (or_cases (eqb c.number j) (has_number j bs) h) [
        | inl here ↦ subst (λ (m : ℕ). has_number m gone ≡ true) (eqb-true c.number j here) out
        | inr there ↦ dropped-has gone j bs there (rw out at off)
      ]
      | inr stays ↦
          let both_ : (eqb c.number j || has_number j (filter (λ x. not (has_number x.number gone)) bs)) ≡ false = rw stays at off in
          let parted = or_parts (eqb c.number j) (has_number j (filter (λ x. not (has_number x.number gone)) bs)) both_ in
          elim (or_cases (eqb c.number j) (has_number j bs) h) [
            | inl here ↦ absurd (true≢false (sym here ∙ parted.0))
            | inr there ↦ dropped-has gone j bs there parted.1
          ]
    ]

-- and what stays isn't
stays-has : (gone : List Block) (j : ℕ) (bs : List Block) → has_number j (filter (λ c. not (has_number c.number gone)) bs) ≡ true → has_number j gone ≡ false
stays-has gone j [] h = absurd (false≢true h)
stays-has gone j (c ∷ bs) h =
    elim (cases_Bool (has_number c.number gone)) [
      | inl out ↦ stays-has gone j bs (rw out at h)
      | inr stays ↦
          let both_ : (eqb c.number j || has_number j (filter (λ x. not (has_number x.number gone)) bs)) ≡ true = rw stays at h in
          elim (or_cases (eqb c.number j) (has_number j (filter (λ x. not (has_number x.number gone)) bs)) both_) [
            | inl here ↦ subst (λ (m : ℕ). has_number m gone ≡ false) (eqb-true c.number j here) stays
            | inr there ↦ stays-has gone j bs there
          ]
    ]

given-lost : (s : Setting) (P : Past) (b z : ℕ) (f : Bool) (g j : ℕ) → has_number j (known s P) ≡ true
    → has_number j (known_after (is_unplaced s P) (Granted b z f g) (known s P)) ≡ false → list_any (λ c. eqb c j) (given_up_for s P f g) ≡ true
given-lost s P b z false g j was off = absurd (true≢false (sym was ∙ off))
given-lost s P b z true g j was off =
    let gone = largest_free g (is_unplaced s P) (known s P) in
    let parted = or_parts (eqb b j) (has_number j (left_after g (is_unplaced s P) (known s P))) off in
    number-among j gone ∙ dropped-has gone j (known s P) was parted.1

given-new : (s : Setting) (P : Past) (b z : ℕ) (f : Bool) (g j : ℕ) → has_number j (known_after (is_unplaced s P) (Granted b z f g) (known s P)) ≡ true
    → list_any (λ c. eqb c j) (given_up_for s P f g) ≡ true → j ≡ b
given-new s P b z false g j is among = absurd (false≢true among)
given-new s P b z true g j is among =
    let gone = largest_free g (is_unplaced s P) (known s P) in
    elim (or_cases (eqb b j) (has_number j (left_after g (is_unplaced s P) (known s P))) is) [
      | inl here ↦ sym (eqb-true b j here)
      | inr there ↦ absurd (true≢false (sym among ∙ (number-among j gone ∙ stays-has gone j (known s P) there)))
    ]

pub emptied-law : {F : Type 0} (parts : F → Option Parts) (s : Setting) (B : BoardState) (t u : List Kept) (need b z : ℕ) (g : ℕ)
    → IsGranted parts s B t need b z true g
    → (kept_at t b ≡ Empty → kept_at u b ≡ Empty) → kept_at (without_kept (given_up_for s (past B) true g) u) b ≡ Empty
emptied-law parts s B t u need b z g i same_ =
    let P = past B in
    let gone = largest_free g (is_unplaced s P) (known s P) in
    let left = missing-left s.limit need (held s P) b z g (is_unplaced s P) (known s P) (by-pool parts s B t need b z true g i) in
    elim (cases_Bool (has_number b (known s P))) [
      | inl was ↦ gone-empty (given_up_for s P true g) u b (number-among b gone ∙ dropped-has gone b (known s P) was left.0)
      | inr unknown ↦ stays-empty (given_up_for s P true g) u b (same_ (i.holds.only b unknown))
    ]

-- what a table holds while the storage of blocks that are given up is still there
record HoldsMost {F : Type 0} (parts : F → Option Parts) (s : Setting) (told : BoardState) (t : List Kept) : Type 0 where
  places : (b : ℕ) → has_number b (known s (past told)) ≡ true → b < length t
  kept : (b : ℕ) → has_number b (known s (past told)) ≡ true → IsKeptIn parts s told b (last_grant b (past told)) (kept_at t b)
  lent : (r b : ℕ) (a : FrameName) → has_part_of a (hand r (past told)) ≡ true → block_of (past told) a ≡ b ∷ []
      → IsPartOf (kept_at t b) a (lent_to r told)
  lost : LoseFew told

given-gone : {F : Type 0} (parts : F → Option Parts) (s : Setting) (B : BoardState) (t T : List Kept) (b z : ℕ) (f : Bool) (g r : ℕ) (made : FrameName)
    (q : Option Parts) (e : Entry) → s.pooled ≡ true → Holds parts s B t → GrantsBlock s (past B) b z f g r made e → kept_at T b ≡ Empty
    → ((j : ℕ) → kept_at t j ≡ Empty → kept_at T j ≡ Empty) → HoldsMost parts s (lends e q ∷ B) T
    → Holds parts s (lends e q ∷ B) (without_kept (given_up_for s (past B) f g) T)
given-gone parts s B t T b z f g r made q e pooled before l empty stays h =
    let P = past B in
    let gs = given_up_for s P f g in
    let same_at : (j : ℕ) → has_number j (known s (e ∷ P)) ≡ true → kept_at (without_kept gs T) j ≡ kept_at T j = λ j is.
    same-without gs T j (λ among. subst (λ (m : ℕ). kept_at T m ≡ Empty)
    (sym (given-new s P b z f g j (subst (λ bs. has_number j bs ≡ true) l.known_then is) among)) empty) in
    record {
      places = λ j is. subst (λ (n : ℕ). j < n) (sym (length-without gs T)) (h.places j is);
      kept = λ j is. subst (λ (k : Kept). IsKeptIn parts s (lends e q ∷ B) j (last_grant j (e ∷ P)) k) (sym (same_at j is)) (h.kept j is);
      lent = λ p j y has on.
          subst (λ (k : Kept). IsPartOf k y (lent_to p (lends e q ∷ B)))
          (sym (same_at j (placed-on s (e ∷ P) j y pooled l.legal on (hand-used s (e ∷ P) p y has)).0)) (h.lent p j y has on);
      lost = h.lost;
      only = λ j un. elim (cases_Bool (has_number j (known s P))) [
        | inl was ↦ gone-empty gs T j (given-lost s P b z f g j was (subst (λ bs. has_number j bs ≡ false) l.known_then un))
        | inr unknown ↦ stays-empty gs T j (stays j (before.only j unknown))
      ];
    }

gone-other : (k b : ℕ) (e : Entry) (q : Option Parts) (B : BoardState) → k ≢ b → grants k e ≡ eqb b k → parts_away k (lends e q ∷ B) ≡ parts_away k B
gone-other k b e q B ne grant = ap (λ (y : Bool). if y then 0 else 0 + parts_away k B) (grant ∙ ne_eqb b k (λ i. ne (sym i))) ∙ none-more (parts_away k B)

away-other : (k b : ℕ) (e : Entry) (q : Option Parts) (B : BoardState) → k ≢ b → grants k e ≡ eqb b k → is_away k (lends e q ∷ B) ≡ is_away k B
away-other k b e q B ne grant = ap (λ (y : Bool). if y then false else is_away k B) (grant ∙ ne_eqb b k (λ i. ne (sym i)))

-- A LOAD

hand-off : (w : FrameName → Bool) (y : FrameName) (p : ℕ) (P : Past) (o : Option Entry) → hand p P ≡ o → has_part_of y o ≡ true
    → count (holds w) (hands P) ≡ 0 → w y ≡ false
hand-off w y p P None held has none = absurd (false≢true has)
hand-off w y p P (Some d) held has none = part-off w y d has (hand-clear (holds w) p d P held none)

load-grants : (s : Setting) (P : Past) (r k b z : ℕ) (f : Bool) (g : ℕ) (x : Bool) → is_legal s (Load r k b z f g x ∷ P) ≡ true
    → GrantsBlock s P b z f g r (frame 0 k) (Load r k b z f g x)
load-grants s P r k b z f g x legal = record {
  legal = legal;
  known_then = refl;
  turn = λ j. refl;
  grant = λ j. refl;
  again = λ y is. ap (λ (c : Bool). (if c then b ∷ [] else []) ++ grants_of y (standing P)) is;
  clear = λ y off c. clear-more (is_frame y) s (Load r k b z f g x) P legal (omega (arith, count-cons (is_frame y) (frame 0 k) [], ap bit off)) c;
}

pub load-law : {F : Type 0} (parts : F → Option Parts) (s : Setting) (B : BoardState) (t : List Kept) (tick r k need b z : ℕ) (f : Bool) (g : ℕ) (x : Bool)
    → IsGranted parts s B t need b z f g → b < length t
    → is_legal s (past (moved_at s tick (plain (Load r k b z f g x)) B)) ≡ true
    → HoldsBlocks parts s (moved_at s tick (plain (Load r k b z f g x)) B) (without_kept (given_up_for s (past B) f g) (with_kept t b Empty))
load-law parts s B t tick r k need b z f g x i place legal =
    let P = past B in
    let e = Load r k b z f g x in
    let new = with_kept t b Empty in
    let rest = later s tick (plain e) B in
    let first_legal : is_legal s (e ∷ P) ≡ true = rest.before legal in
    let before = legal-of s B i.run in
    let h = holds-in parts s B t i.run i.holds in
    let l = load-grants s P r k b z f g x first_legal in
    let nowhere = unloaded-nowhere s r k b z f g x P first_legal in
    let in_hands : (j : ℕ) → parts_in_hand (e ∷ P) j ≡ parts_in_hand P j = λ j.
    let whole : parts_in_hand (e ∷ P) j ≡ count (has_part (e ∷ P) j) (e ∷ hands P) =
    ap (count (has_part (e ∷ P) j)) (hands-more s r e P (eq-eqb r r refl) first_legal) in
    omega (
      arith,
      whole,
      count-cons (has_part (e ∷ P) j) e (hands P),
      same-parts (e ∷ P) P (is_frame (frame 0 k)) (λ y off. block_laws.load_other r k b z f g x P y off) j (hands P) nowhere.roles,
    ) in
    let others : (j : ℕ) → j ≢ b → has_number j (known s P) ≡ true → IsKeptIn parts s (lends e None ∷ B) j (last_grant j P) (kept_at new j) = λ j ne is.
    let gone = gone-other j b e None B ne refl in
    let here : parts_here (lends e None ∷ B) j ≡ parts_here B j =
    ap (λ (n : ℕ). 2 ^ 32 - (n + parts_away j (lends e None ∷ B))) (in_hands j) ∙ ap (λ (n : ℕ). 2 ^ 32 - (parts_in_hand P j + n)) gone in
    subst (λ (y : Kept). IsKeptIn parts s (lends e None ∷ B) j (last_grant j P) y) (sym (at-other t b j Empty ne))
    (keeps parts s B (lends e None ∷ B) j (last_grant j P) (kept_at t j) here (away-other j b e None B ne refl) gone
    (λ a n made c. l.clear a (made-other s P b z f g r j n (frame 0 k) a e i.run.pooled before l made) c) (h.kept j is)) in
    let left = without_kept (given_up_for s P f g) new in
    holds-out parts s (moved_at s tick (plain e) B) left
    (rest-holds parts s (plain e ∷ B) (moved_at s tick (plain e) B) left rest legal
    (given-gone parts s B t new b z f g r (frame 0 k) None e i.run.pooled h l (at-same t b Empty place) (λ j none. emptied-at t b j none) (record {
      places = grants-places parts s B t new b z f g r (frame 0 k) e h l (same-length t b Empty) place;
      kept = grants-kept parts s B t new b z f g r (frame 0 k) None e i.run h l (at-same t b Empty place) others;
      lent = λ p j y has on. elim (cases_Bool (takes_up p e)) [
        | inl up ↦ absurd (false≢true (ap (has_part_of y) (sym (takes-this p e P up)) ∙ has))
        | inr other ↦
            let had : has_part_of y (hand p P) ≡ true = ap (has_part_of y) (sym (hand_laws.others p e P other refl)) ∙ has in
            let off : is_frame (frame 0 k) y ≡ false = hand-off (is_frame (frame 0 k)) y p P (hand p P) refl had nowhere.roles in
            let was : block_of P y ≡ j ∷ [] = sym (block_laws.load_other r k b z f g x P y off) ∙ on in
            let ne : j ≢ b = λ is. hand-used s P p y had (alone-from s P y (on-block parts s B t need b z f g i y (was ∙ ap (λ (n : ℕ). n ∷ []) is))) in
            let lent : lent_to p (plain e ∷ B) ≡ lent_to p B = ap (λ (c : Bool). if c then None else lent_to p B) other in
            subst (λ (o : Option Parts). IsPartOf (kept_at new j) y o) (sym lent)
            (subst (λ (c : Kept). IsPartOf c y (lent_to p B)) (sym (at-other t b j Empty ne)) (h.lent p j y had was))
      ];
      lost = (omega arith, h.lost);
    })))

-- A TAKE

take-grants : (s : Setting) (P : Past) (r v m k b z : ℕ) (f : Bool) (g : ℕ) (x : Bool) → is_legal s (TakeBlock f x r v m k b z g ∷ P) ≡ true
    → GrantsBlock s P b z f g r (frame v k) (TakeBlock f x r v m k b z g)
take-grants s P r v m k b z f g x legal = record {
  legal = legal;
  known_then = refl;
  turn = λ j. refl;
  grant = λ j. refl;
  again = λ y is. ap (λ (c : Bool). (if c then b ∷ [] else []) ++ grants_of y (standing P)) is;
  clear = λ y off c. clear-more (is_frame y) s (TakeBlock f x r v m k b z g) P legal (omega (arith, count-cons (is_frame y) (frame v k) [], ap bit off)) c;
}

module _ {F : Type 0} (parts : F → Option Parts) (s : Setting) (B : BoardState) (t new : List Kept)
    (r v c need b z : ℕ) (f : Bool) (g : ℕ) (x : Bool) (a : FrameName) (q : Option Parts) (i : IsGranted parts s B t need b z f g) (place : b < length t)
    (on : block_of (past B) a ≡ c ∷ []) (legal : is_legal s (TakeBlock f x r v a.maker a.index b z g ∷ past B) ≡ true) where
  abbrev e : Entry
  e = TakeBlock f x r v a.maker a.index b z g

  next : is_next a (queued v (past B)) ≡ true
  next =
      let facts = take-facts s r v a (past B) (may-TakeBlock s r v a.maker a.index b z f g x (past B) legal) in
      first_of-next a (queued v (past B)) facts.front

  pub apart : c ≢ b
  apart is = queued-used s (past B) v a next (alone-from s (past B) a (on-block parts s B t need b z f g i a (on ∙ ap (λ (n : ℕ). n ∷ []) is)))

  nowhere : Clear (is_frame (frame v a.index)) s (past B)
  nowhere = untaken-nowhere s r v a.maker a.index b z f g x (past B) legal

  own-off : is_frame (frame v a.index) a ≡ false
  own-off =
      elim (cases_Bool (is_frame (frame v a.index) a)) [
        | inl is ↦
            let it : a ≡ frame v a.index = same-true a (frame v a.index) is in
            absurd (first-used a (queued v (past B)) next (subst (λ (y : FrameName). count (is_frame y) (queued v (past B)) ≡ 0) (sym it) (nowhere.queues v)))
        | inr other ↦ other
      ]

  lends-a : LendsOf s (past B) (is_frame (frame v a.index)) r a (TakeBlock f x r v a.maker a.index b z g)
  lends-a = record {
    legal = legal;
    up = eq-eqb r r refl;
    mine = λ y h. same-true y (frame a.maker a.index) h;
    part = λ j. refl;
    keeps_hands = λ p. refl;
    unheld = nowhere.roles;
    others = λ y off. block_laws.take_block_other r v a.maker a.index b z f g x (past B) y off;
    own = own-off;
  }

  pub take-holds : IsPartOf (kept_at t c) a q → length new ≡ length t → kept_at new b ≡ Empty → kept_at new c ≡ less_one (kept_at t c)
      → ((j : ℕ) → j ≢ b → j ≢ c → kept_at new j ≡ kept_at t j)
      → Holds parts s (lends (TakeBlock f x r v a.maker a.index b z g) q ∷ B) (without_kept (given_up_for s (past B) f g) new)
  take-holds part long empty less same_kept =
      let P = past B in
      let B1 = lends e q ∷ B in
      let before = legal-of s B i.run in
      let h = holds-in parts s B t i.run i.holds in
      let l = take-grants s P r v a.maker a.index b z f g x legal in
      let used = queued-used s P v a next in
      let p = placed-on s P c a i.run.pooled before on used in
      let in_hands = lent-shares s P (is_frame (frame v a.index)) r c a e lends-a on in
      let others : (j : ℕ) → j ≢ b → has_number j (known s P) ≡ true → IsKeptIn parts s B1 j (last_grant j P) (kept_at new j) = λ j ne is. elim (cases_eq j c) [
        | inl here ↦
            let frame_before : IsFrameOn parts B c a p.1.0 (kept_at t c) =
            made-frame parts s B c p.1.0 a (kept_at t c) used (subst (λ (y : LastGrant). IsKeptIn parts s B c y (kept_at t c)) p.1.1 (h.kept c p.0)) in
            let more : parts_in_hand (e ∷ P) c ≡ 1 + parts_in_hand P c = in_hands c ∙ ap (λ (y : Bool). bit y + parts_in_hand P c) (eq-eqb c c refl) in
            let now_ : IsFrameOn parts B1 c a p.1.0 (kept_at new c) =
            subst (λ (y : Kept). IsFrameOn parts B1 c a p.1.0 y) (sym less)
            (less-frame parts B B1 c p.1.0 a (kept_at t c) (few-parts s B c i.run.few before h.lost) more (gone-other c b e q B apart refl) frame_before) in
            let at_c : IsKeptIn parts s B1 c (last_grant c P) (kept_at new c) =
            subst (λ (y : LastGrant). IsKeptIn parts s B1 c y (kept_at new c)) (sym p.1.1) (inl now_) in
            subst (λ (n : ℕ). IsKeptIn parts s B1 n (last_grant n P) (kept_at new n)) (sym here) at_c
        | inr off ↦
            let gone = gone-other j b e q B ne refl in
            let as_many : parts_in_hand (e ∷ P) j ≡ parts_in_hand P j =
            in_hands j ∙ (ap (λ (y : Bool). bit y + parts_in_hand P j) (ne_eqb c j (λ u. off (sym u))) ∙ none-more (parts_in_hand P j)) in
            let same_here : parts_here B1 j ≡ parts_here B j =
            ap (λ (n : ℕ). 2 ^ 32 - (n + parts_away j B1)) as_many ∙ ap (λ (n : ℕ). 2 ^ 32 - (parts_in_hand P j + n)) gone in
            subst (λ (y : Kept). IsKeptIn parts s B1 j (last_grant j P) y) (sym (same_kept j ne off))
            (keeps parts s B B1 j (last_grant j P) (kept_at t j) same_here (away-other j b e q B ne refl) gone
            (λ y n made clear. l.clear y (made-other s P b z f g r j n (frame v a.index) y e i.run.pooled before l made) clear) (h.kept j is))
      ] in
      let stays : (j : ℕ) → kept_at t j ≡ Empty → kept_at new j ≡ Empty = λ j none. elim (cases_eq j b) [
        | inl here ↦ subst (λ (m : ℕ). kept_at new m ≡ Empty) (sym here) empty
        | inr ne ↦ elim (cases_eq j c) [
          | inl there ↦
              subst (λ (m : ℕ). kept_at new m ≡ Empty) (sym there) (less ∙ ap less_one (subst (λ (m : ℕ). kept_at t m ≡ Empty) there none))
          | inr off ↦ same_kept j ne off ∙ none
        ]
      ] in
      given-gone parts s B t new b z f g r (frame v a.index) q e i.run.pooled h l empty stays (record {
        places = grants-places parts s B t new b z f g r (frame v a.index) e h l long place;
        kept = grants-kept parts s B t new b z f g r (frame v a.index) q e i.run h l empty others;
        lent =
            lent-lent parts s B t new (is_frame (frame v a.index)) r c a q e lends-a
            (λ u y had. hand-off (is_frame (frame v a.index)) y u P (hand u P) refl had nowhere.roles) on part less
            (λ u j y had was off. same_kept j
            (λ is. hand-used s P u y had (alone-from s P y (on-block parts s B t need b z f g i y (was ∙ ap (λ (n : ℕ). n ∷ []) is)))) off) h;
        lost = (omega arith, h.lost);
      })

  pub place-of : c < length t
  place-of =
      let p = placed-on s (past B) c a i.run.pooled (legal-of s B i.run) on (queued-used s (past B) v a next) in
      i.holds.places c p.0

pub take-block-law : {F : Type 0} (parts : F → Option Parts) (s : Setting) (B : BoardState) (t : List Kept)
    (r v c need b z : ℕ) (f : Bool) (g : ℕ) (x : Bool) (a : FrameName) (q : Option Parts)
    → IsGranted parts s B t need b z f g → b < length t → block_of (past B) a ≡ c ∷ [] → IsPartOf (kept_at (with_kept t b Empty) c) a q
    → is_legal s (past (moved s (lends (take_block r v a b z f g x) q) B)) ≡ true
    → HoldsBlocks parts s (moved s (lends (take_block r v a b z f g x) q) B)
    (without_kept (given_up_for s (past B) f g) (with_kept (with_kept t b Empty) c (less_one (kept_at (with_kept t b Empty) c))))
take-block-law parts s B t r v c need b z f g x a q i place on part legal =
    let e = take_block r v a b z f g x in
    let rest = later s 0 (lends e q) B in
    let first_legal : is_legal s (e ∷ past B) ≡ true = rest.before legal in
    let T = with_kept t b Empty in
    let ne : c ≢ b = apart parts s B t T r v c need b z f g x a q i place on first_legal in
    let beside : kept_at T c ≡ kept_at t c = at-other t b c Empty ne in
    let l = less_one (kept_at T c) in
    let new = with_kept T c l in
    let part_t : IsPartOf (kept_at t c) a q = subst (λ (y : Kept). IsPartOf y a q) beside part in
    let lt : c < length t = place-of parts s B t T r v c need b z f g x a q i place on first_legal in
    let left = without_kept (given_up_for s (past B) f g) new in
    holds-out parts s (moved s (lends e q) B) left
    (rest-holds parts s (lends e q ∷ B) (moved s (lends e q) B) left rest legal
    (take-holds parts s B t new r v c need b z f g x a q i place on first_legal part_t
    (same-length T c l ∙ same-length t b Empty)
    (at-other T c b l (λ is. ne (sym is)) ∙ at-same t b Empty place)
    (at-same T c l (subst (λ (n : ℕ). c < n) (sym (same-length t b Empty)) lt) ∙ ap less_one beside)
    (λ j not_b not_c. at-other T c j l not_c ∙ at-other t b j Empty not_b)))

pub take-lent-law : {F : Type 0} (parts : F → Option Parts) (s : Setting) (B : BoardState) (t : List Kept)
    (r v c need b z : ℕ) (f : Bool) (g : ℕ) (x : Bool) (a : FrameName) (q : Option Parts)
    → IsGranted parts s B t need b z f g → b < length t → block_of (past B) a ≡ c ∷ [] → IsPartOf (kept_at t c) a q
    → is_legal s (past (moved s (lends (take_block r v a b z f g x) q) B)) ≡ true
    → HoldsBlocks parts s (moved s (lends (take_block r v a b z f g x) q) B)
    (without_kept (given_up_for s (past B) f g) (with_kept (with_kept t c (less_one (kept_at t c))) b Empty))
take-lent-law parts s B t r v c need b z f g x a q i place on part legal =
    let e = take_block r v a b z f g x in
    let rest = later s 0 (lends e q) B in
    let first_legal : is_legal s (e ∷ past B) ≡ true = rest.before legal in
    let l = less_one (kept_at t c) in
    let T = with_kept t c l in
    let new = with_kept T b Empty in
    let ne : c ≢ b = apart parts s B t new r v c need b z f g x a q i place on first_legal in
    let lt : c < length t = place-of parts s B t new r v c need b z f g x a q i place on first_legal in
    let left = without_kept (given_up_for s (past B) f g) new in
    holds-out parts s (moved s (lends e q) B) left
    (rest-holds parts s (lends e q ∷ B) (moved s (lends e q) B) left rest legal
    (take-holds parts s B t new r v c need b z f g x a q i place on first_legal part
    (same-length T b Empty ∙ same-length t c l)
    (at-same T b Empty (subst (λ (n : ℕ). b < n) (sym (same-length t c l)) place))
    (at-other T b c Empty ne ∙ at-same t c l lt)
    (λ j not_b not_c. at-other T b j Empty not_b ∙ at-other t c j l not_c)))
