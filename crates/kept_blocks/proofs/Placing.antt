-- Each array at a place stands on a block: its last grant made it, and the block is known.
use Rattle.std.proofs.Common.{◌≡◌, ◌∙◌, ℕ, ◌+◌, true, false, Bool, not, ◌||◌, List, [], ◌∷◌, Some, refl, sym, ap, arith, Option, None, inl, inr}
use Rattle.std.specs.List.{list_any}
use Rattle.std.proofs.lemmas.Bool.{cases_Bool, true≢false, false≢true}
use Rattle.nd_base.specs.declared.frame.FrameName.{FrameName}
use Rattle.pool_ledger.specs.Grants.{has_number}
use Rattle.flow_journal.specs.declared.entry.Entry.{Entry}
use Rattle.flow_journal.specs.declared.entry.Entry.TheVariants.{Take, TakeBlock, Save}
use Rattle.flow_journal.specs.Setting.{Setting}
use Rattle.flow_journal.specs.Pasts.{Past, frame, same, without}
use Rattle.flow_journal.specs.Hands.{hand}
use Rattle.flow_journal.specs.Queued.{queued}
use Rattle.flow_journal.specs.Unsaved.{unsaved}
use Rattle.flow_journal.specs.Accounts.{block_of, known}
use Rattle.flow_journal.specs.Having.{HasBlock}
use Rattle.flow_journal.specs.FirstEntries.{is_next}
use Rattle.flow_journal.specs.Histories.{is_legal}
use Rattle.flow_journal.proofs.EntryCounts.{count, bit, count-cons}
use Rattle.flow_journal.proofs.Travels.{ClearBy, Clear, holds_by, bit-none, hand-clear}
use Rattle.flow_journal.proofs.Making.{is_frame, no_frame}
use Rattle.flow_journal.proofs.Blockless.{is_blockless, none_blockless, one-block}
use Rattle.flow_journal.proofs.Places.{none_lost}
use Rattle.flow_journal.proofs.Steps.{same_refl, same-true, next_is}
use Rattle.board_rules.specs.InHand.{has_part_of}
use Rattle.board_rules.specs.LastGrants.{LastGrant, Never, InMaking, Made, TakenBack, last_grant}
use Rattle.kept_blocks.proofs.Unplaced.{clear-fewer}
use Rattle.kept_blocks.proofs.Granted.{alone-from, alone-making}
use Rattle.kept_blocks.proofs.Tied.{is_array_of, tied}

-- WHAT HAS A PLACE

-- no place but a hand that makes it has the array
abbrev IsUnused : Setting → Past → FrameName → Type 0
IsUnused s P a = ClearBy no_frame (is_frame a) s P

-- an array at a place: its block, which is known, and whose last grant made it, with this size
pub record Placed (s : Setting) (P : Past) (a : FrameName) : Type 0 where
  pub block : ℕ
  pub size : ℕ
  pub has : block_of P a ≡ block ∷ []
  pub known_block : has_number block (known s P) ≡ true
  pub made : last_grant block P ≡ Made a size

array-made : (s : Setting) (P : Past) (b : ℕ) (a : FrameName) (g : LastGrant) → s.pooled ≡ true → is_legal s P ≡ true → last_grant b P ≡ g
    → is_array_of a g ≡ true → (IsUnused s P a → ⊥) → (n : ℕ) × (last_grant b P ≡ Made a n)
array-made s P b a Never pooled h is mine used = absurd (false≢true mine)
array-made s P b a (TakenBack n) pooled h is mine used = absurd (false≢true mine)
array-made s P b a (Made c n) pooled h is mine used = (n, is ∙ ap (λ (y : FrameName). Made y n) (same-true c a mine))
array-made s P b a (InMaking r c n) pooled h is mine used =
    absurd (used (alone-making s P r b n a pooled h (is ∙ ap (λ (y : FrameName). InMaking r y n) (same-true c a mine))))

-- the block of what has a place is known
pub known-at : (s : Setting) (P : Past) (b : ℕ) (a : FrameName) → s.pooled ≡ true → is_legal s P ≡ true → block_of P a ≡ b ∷ []
    → (Clear (is_frame a) s P → ⊥) → has_number b (known s P) ≡ true
known-at s P b a pooled h on used =
    elim (cases_Bool (has_number b (known s P))) [
      | inl known_ ↦ known_
      | inr unknown ↦
          let lost : FrameName → Bool = λ x. list_any (λ c. not (has_number c (known s P))) (block_of P x) in
          let this : lost a ≡ true = ap (list_any (λ c. not (has_number c (known s P)))) on ∙ ap (λ (y : Bool). not y || false) unknown in
          absurd (used (clear-fewer lost (is_frame a) s P (λ x off. elim (cases_Bool (same x a)) [
            | inl is ↦ absurd (true≢false (sym (ap lost (same-true x a is) ∙ this) ∙ off))
            | inr other ↦ other
          ]) (none_lost s P pooled h)))
    ]

pub placed-on : (s : Setting) (P : Past) (b : ℕ) (a : FrameName) → s.pooled ≡ true → is_legal s P ≡ true → block_of P a ≡ b ∷ [] → (IsUnused s P a → ⊥)
    → (has_number b (known s P) ≡ true) × ((n : ℕ) × (last_grant b P ≡ Made a n))
placed-on s P b a pooled h on used =
    let not_clear : Clear (is_frame a) s P → ⊥ = λ c. used (alone-from s P a c) in (
      known-at s P b a pooled h on not_clear,
      elim (tied s P b a pooled h on) [
        | inl mine ↦ array-made s P b a (last_grant b P) pooled h refl mine used
        | inr gone ↦ absurd (not_clear gone)
      ],
    )

some-block : (s : Setting) (P : Past) (a : FrameName) → is_legal s P ≡ true → (Clear (is_frame a) s P → ⊥) → HasBlock P a
some-block s P a h used =
    elim (cases_Bool (is_blockless P a)) [
      | inr some ↦ one-block P a some
      | inl none ↦ absurd (used (clear-fewer (is_blockless P) (is_frame a) s P (λ x off. elim (cases_Bool (same x a)) [
        | inl is ↦ absurd (true≢false (sym (ap (is_blockless P) (same-true x a is) ∙ none) ∙ off))
        | inr other ↦ other
      ]) (none_blockless s P h)))
    ]

pub placed : (s : Setting) (P : Past) (a : FrameName) → s.pooled ≡ true → is_legal s P ≡ true → (IsUnused s P a → ⊥) → Placed s P a
placed s P a pooled h used =
    let on = some-block s P a h (λ c. used (alone-from s P a c)) in
    let p = placed-on s P on.0 a pooled h on.1 used in
    record { block = on.0; size = p.1.0; has = on.1; known_block = p.0; made = p.1.1 }

-- PLACES

pub first-used : (a : FrameName) (xs : List FrameName) → is_next a xs ≡ true → count (is_frame a) xs ≡ 0 → ⊥
first-used a xs h none =
    let split : count (is_frame a) xs ≡ bit (is_frame a a) + count (is_frame a) (without a xs) =
    ap (count (is_frame a)) (next_is a xs h) ∙ count-cons (is_frame a) a (without a xs) in
    true≢false (sym (same_refl a) ∙ bit-none (is_frame a a) (omega (arith, split, none)))

pub queued-used : (s : Setting) (P : Past) (v : ℕ) (a : FrameName) → is_next a (queued v P) ≡ true → IsUnused s P a → ⊥
queued-used s P v a h c = first-used a (queued v P) h (c.queues v)

pub unsaved-used : (s : Setting) (P : Past) (v : ℕ) (a : FrameName) → is_next a (unsaved s v P) ≡ true → IsUnused s P a → ⊥
unsaved-used s P v a h c = first-used a (unsaved s v P) h (c.files v)

-- the array of which the hand has a part
pub part-holds : (a : FrameName) (e : Entry) → has_part_of a (Some e) ≡ true → holds_by no_frame (is_frame a) e ≡ true
part-holds a (Take r v m k) h = ap (λ (y : FrameName). same y a) (sym (same-true a (frame m k) h)) ∙ same_refl a
part-holds a (TakeBlock f x r v m k b n g) h = ap (λ (y : FrameName). same y a) (sym (same-true a (frame m k) h)) ∙ same_refl a
part-holds a (Save r v m k g) h = ap (λ (y : FrameName). same y a) (sym (same-true a (frame m k) h)) ∙ same_refl a
part-holds a _ h = absurd (false≢true h)

pub hand-used : (s : Setting) (P : Past) (r : ℕ) (a : FrameName) → has_part_of a (hand r P) ≡ true → IsUnused s P a → ⊥
hand-used s P r a h c = by (hand r P) refl h
  where
    by : (o : Option Entry) → hand r P ≡ o → has_part_of a o ≡ true → ⊥
    by None is h = false≢true h
    by (Some e) is h = true≢false (sym (part-holds a e h) ∙ hand-clear (holds_by no_frame (is_frame a)) r e P is c.roles)
