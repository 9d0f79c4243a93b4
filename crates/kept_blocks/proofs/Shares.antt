-- How many parts of a block are in hands and away: few, against all of them.
use Rattle.std.proofs.Common.{◌≡◌, ◌⊎◌, ℕ, suc, ◌+◌, ◌*◌, ◌≤◌, Bool, true, false, ◌||◌, eqb, ltb, List, [], ◌∷◌, length, refl, ap, arith, inl, inr}
use Rattle.std.proofs.lemmas.Bool.{cases_Bool, or_parts, or_from, ltb-false}
use Rattle.nd_base.specs.declared.frame.FrameName.{FrameName}
use Rattle.flow_journal.specs.declared.entry.Entry.{Entry}
use Rattle.flow_journal.specs.declared.entry.Entry.TheVariants.{Load, Take, TakeBlock, Save, Reclaim}
use Rattle.flow_journal.specs.Setting.{Setting, last_role}
use Rattle.flow_journal.specs.Pasts.{Past, frame}
use Rattle.flow_journal.specs.Hands.{takes_up, hands}
use Rattle.flow_journal.specs.Accounts.{block_of}
use Rattle.flow_journal.specs.LengthLaws.{threads}
use Rattle.flow_journal.specs.Histories.{is_legal}
use Rattle.flow_journal.proofs.EntryCounts.{count, bit, count-cons}
use Rattle.flow_journal.proofs.Hands.{one-hand}
use Rattle.flow_journal.proofs.Found.{none_counted, none_any}
use Rattle.flow_journal.proofs.Buckets.{AreBuckets, one_in_buckets}
use Rattle.flow_journal.proofs.Travels.{holds, bit-none}
use Rattle.flow_journal.proofs.Lengths.{reclaims-few, role-idle}
use Rattle.flow_journal.specs.EntryTests.{is_reclaim}
use Rattle.flow_journal.proofs.Once.{bit-le}
use Rattle.board_rules.specs.States.{BoardState, past}
use Rattle.board_rules.specs.Storage.{is_among, grants, is_away, has_part, parts_in_hand, parts_away}
use Rattle.kept_blocks.specs.Keeping.{LoseFew, most_lost}

-- ROLES

-- the entry gives a hand
abbrev gives : Entry → Bool
gives (Load r k b n f g x) = true
gives (Take r v m k) = true
gives (TakeBlock f x r v m k b n g) = true
gives (Save r v m k g) = true
gives _ = false

abbrev giver : Entry → ℕ
giver (Load r k b n f g x) = r
giver (Take r v m k) = r
giver (TakeBlock f x r v m k b n g) = r
giver (Save r v m k g) = r
giver _ = 0

give-buckets : AreBuckets gives giver takes_up
give-buckets (Load r k b n f g x) v = refl
give-buckets (Take r w m k) v = refl
give-buckets (TakeBlock f x r w m k b n g) v = refl
give-buckets (Save r w m k g) v = refl
give-buckets _ v = refl

few-hands : (s : Setting) (P : Past) → is_legal s P ≡ true → count gives (hands P) ≤ suc (last_role s)
few-hands s P h = one_in_buckets gives giver takes_up give-buckets (suc (last_role s)) (hands P) (λ r. one r (cases_Bool (ltb r (suc (last_role s)))))
  where
    one : (r : ℕ) → ((ltb r (suc (last_role s)) ≡ true) ⊎ (ltb r (suc (last_role s)) ≡ false)) → count (takes_up r) (hands P) ≤ bit (ltb r (suc (last_role s)))
    one r (inl low) = omega (arith, one-hand P r, ap bit low)
    one r (inr high) = let over : suc (last_role s) ≤ r = ltb-false r (suc (last_role s)) high in omega (arith, role-idle s P r (omega (arith, over)) h)

part-gives : (P : Past) (b : ℕ) (e : Entry) → bit (has_part P b e) ≤ bit (gives e)
part-gives P b (Load r k c n f g x) = omega arith
part-gives P b (Take r v m k) = bit-le (is_among b (block_of P (frame m k)))
part-gives P b (TakeBlock f x r v m k c n g) = bit-le (is_among b (block_of P (frame m k)))
part-gives P b (Save r v m k g) = bit-le (is_among b (block_of P (frame m k)))
part-gives P b _ = omega arith

parts-few : (P : Past) (b : ℕ) (hs : List Entry) → count (has_part P b) hs ≤ count gives hs
parts-few P b [] = omega arith
parts-few P b (e ∷ hs) = omega (arith, parts-few P b hs, part-gives P b e, count-cons (has_part P b) e hs, count-cons gives e hs)

-- AWAY

filter-few : (p : ℕ → Bool) (xs : List ℕ) → count p xs ≤ length xs
filter-few p [] = omega arith
filter-few p (x ∷ xs) = omega (arith, filter-few p xs, count-cons p x xs, bit-le (p x))

most-lost : (e : Entry) → most_lost e ≡ 2 * bit (is_reclaim e)
most-lost (Reclaim r) = refl
most-lost _ = refl

away-few : (b : ℕ) (B : BoardState) → LoseFew B → parts_away b B ≤ 2 * count is_reclaim (past B)
away-few b [] few = omega arith
away-few b (t ∷ B) few =
    let rest = away-few b B few.1 in
    let one = count-cons is_reclaim t.entry (past B) in
    let most = most-lost t.entry in
    let lost = filter-few (λ c. eqb c b) t.lost in
    elim (cases_Bool (grants b t.entry)) [
      | inl granted ↦ rw granted (omega arith)
      | inr other ↦ rw other (omega (arith, rest, one, most, lost, few.0))
    ]

pub few-parts : (s : Setting) (B : BoardState) (b : ℕ) → threads s ≤ 64 → is_legal s (past B) ≡ true → LoseFew B
    → parts_in_hand (past B) b + parts_away b B ≤ 300
few-parts s B b threads_few h few =
    omega (arith, parts-few (past B) b (hands (past B)), few-hands s (past B) h, away-few b B few, reclaims-few s (past B) h, threads_few)

-- nothing is away where no parts are
pub away-none : (b : ℕ) (B : BoardState) → parts_away b B ≡ 0 → is_away b B ≡ false
away-none b [] h = refl
away-none b (t ∷ B) h =
    elim (cases_Bool (grants b t.entry)) [
      | inl granted ↦ rw granted refl
      | inr other ↦
          let sum : count (λ c. eqb c b) t.lost + parts_away b B ≡ 0 = rw other at h in
          rw other (or_from (is_among b t.lost) (is_away b B) (none_any (λ c. eqb c b) t.lost (omega (arith, sum))) (away-none b B (omega (arith, sum))))
    ]

pub none-away : (b : ℕ) (B : BoardState) → is_away b B ≡ false → parts_away b B ≡ 0
none-away b [] h = refl
none-away b (t ∷ B) h =
    elim (cases_Bool (grants b t.entry)) [
      | inl granted ↦ rw granted refl
      | inr other ↦
          let both_ : (is_among b t.lost || is_away b B) ≡ false = rw other at h in
          let p = or_parts (is_among b t.lost) (is_away b B) both_ in
          rw other (omega (arith, none_counted (λ c. eqb c b) t.lost p.0, none-away b B p.1))
    ]

-- ALL OF THEM

-- parts in the hands, where no hand has or makes the arrays whose blocks differ
pub same-parts : (Q P : Past) (w : FrameName → Bool) → ((x : FrameName) → w x ≡ false → block_of Q x ≡ block_of P x) → (b : ℕ) (hs : List Entry)
    → count (holds w) hs ≡ 0 → count (has_part Q b) hs ≡ count (has_part P b) hs
same-parts Q P w others b [] none = refl
same-parts Q P w others b (e ∷ hs) none =
    let off : holds w e ≡ false = bit-none (holds w e) (omega (arith, none, count-cons (holds w) e hs)) in
    omega (
      arith,
      same-parts Q P w others b hs (omega (arith, none, count-cons (holds w) e hs)),
      count-cons (has_part Q b) e hs,
      count-cons (has_part P b) e hs,
      ap bit (same-part e off),
    )
  where
    same-part : (e : Entry) → holds w e ≡ false → has_part Q b e ≡ has_part P b e
    same-part (Take r v m k) off = ap (is_among b) (others (frame m k) off)
    same-part (TakeBlock f x r v m k c n g) off = ap (is_among b) (others (frame m k) (or_parts (w (frame v k)) (w (frame m k)) off).1)
    same-part (Save r v m k g) off = ap (is_among b) (others (frame m k) off)
    same-part _ off = refl

pub none-hold : (hs : List Entry) → count (holds (λ x. false)) hs ≡ 0
none-hold [] = refl
none-hold (e ∷ hs) = omega (arith, none-hold hs, count-cons (holds (λ x. false)) e hs, ap bit (none e))
  where
    none : (e : Entry) → holds (λ x. false) e ≡ false
    none (Load r k b n f g x) = refl
    none (Take r v m k) = refl
    none (TakeBlock f x r v m k b n g) = refl
    none (Save r v m k g) = refl
    none _ = refl
