-- LAWS of what stands in a table that holds the blocks of a log.
use Rattle.std.specs.Prelude.{◌≡◌, ◌<◌, ◌≤◌, ◌^◌, ℕ, true, List, [], ◌∷◌, length, Option, Some}
use Rattle.nd_base.specs.declared.frame.FrameName.{FrameName}
use Rattle.nd_base.specs.Parts.{Parts}
use Rattle.flow_journal.specs.Setting.{Setting}
use Rattle.flow_journal.specs.Pasts.{Past}
use Rattle.flow_journal.specs.Hands.{hand, takes_up}
use Rattle.flow_journal.specs.Queued.{queued}
use Rattle.flow_journal.specs.Unsaved.{unsaved}
use Rattle.flow_journal.specs.Accounts.{block_of}
use Rattle.flow_journal.specs.FirstEntries.{is_next}
use Rattle.board_rules.specs.declared.told.Told.{Told}
use Rattle.board_rules.specs.States.{BoardState, past, lent_to}
use Rattle.board_rules.specs.Moving.{moved_at}
use Rattle.board_rules.specs.InHand.{has_part_of, granted_block, IsOnePart, TellParts}
use Rattle.frame_table.specs.Kept.{Kept, Empty, Frame, kept_at, with_kept, MayLend, MayGiveBack, IsPartOf, IsUntold, less_one, united}
use Rattle.kept_blocks.specs.Keeping.{HoldsBlocks, IsRunOf}

-- no more parts are here than a block has
abbrev pub IsWithinBlock : Kept → Type 0
IsWithinBlock (Frame a (Some p)) = p.here ≤ 2 ^ 32
IsWithinBlock _ = Unit {0}

-- the array is kept at the place of its block, and a part of it may be lent
pub record IsLendable {F : Type 0} (parts : F → Option Parts) (P : Past) (t : List Kept) (a : FrameName) : Type 0 where
  pub block : ℕ
  pub has : block_of P a ≡ block ∷ []
  pub place : block < length t
  pub its_parts : Option Parts
  pub frame : kept_at t block ≡ Frame a its_parts
  pub may : MayLend (kept_at t block)
  pub within : IsWithinBlock (kept_at t block)
  pub tells : TellParts parts → IsUntold (kept_at t block) → ⊥

-- the array of a hand is kept at the place of its block, and what was lent of it may be given back
pub record IsLent (r : ℕ) (told : BoardState) (t : List Kept) (a : FrameName) : Type 0 where
  pub block : ℕ
  pub has : block_of (past told) a ≡ block ∷ []
  pub place : block < length t
  pub part : IsPartOf (kept_at t block) a (lent_to r told)
  pub may : MayGiveBack (kept_at t block) (lent_to r told)

-- what is kept of a block with which an array is made
pub record IsAwaited (b : ℕ) (t : List Kept) : Type 0 where
  pub place : b < length t
  pub empty : kept_at t b ≡ Empty

pub record LookLaws {F : Type 0} (parts : F → Option Parts) : Type 0 where
  -- before any entry
  pub start : (s : Setting) → HoldsBlocks parts s [] []
  -- of the next array of a queue, and of the next one to save, a part may be lent; what a role was lent may be given back; and where it makes
  -- an array the place waits for that
  pub queued : (s : Setting) (told : BoardState) (t : List Kept) (v : ℕ) (a : FrameName) → IsRunOf s told → HoldsBlocks parts s told t
      → is_next a (queued v (past told)) ≡ true → IsLendable parts (past told) t a
  pub unsaved : (s : Setting) (told : BoardState) (t : List Kept) (v : ℕ) (a : FrameName) → IsRunOf s told → HoldsBlocks parts s told t
      → is_next a (unsaved s v (past told)) ≡ true → IsLendable parts (past told) t a
  pub in_hand : (s : Setting) (told : BoardState) (t : List Kept) (r : ℕ) (a : FrameName) → IsRunOf s told → HoldsBlocks parts s told t
      → has_part_of a (hand r (past told)) ≡ true → IsLent r told t a
  pub in_making : (s : Setting) (told : BoardState) (t : List Kept) (r b : ℕ) → IsRunOf s told → HoldsBlocks parts s told t
      → granted_block (hand r (past told)) ≡ b ∷ [] → IsAwaited b t
  -- what is lent is one part
  pub one : (k : Kept) (a : FrameName) (q : Option Parts) → IsPartOf k a q → IsOnePart q
  -- after a move that gives a hand the role has this hand, and was lent this part
  pub handed : (s : Setting) (told : BoardState) (tick r : ℕ) (t : Told) → takes_up r t.entry ≡ true
      → (hand r (past (moved_at s tick t told)) ≡ Some t.entry) × (lent_to r (moved_at s tick t told) ≡ t.lent)
  -- a part that was lent and given back leaves the table as it was
  pub lent_and_back : (t : List Kept) (b : ℕ) (a : FrameName) (q : Option Parts) → b < length t → MayLend (kept_at t b) → IsWithinBlock (kept_at t b)
      → IsPartOf (kept_at t b) a q
      → MayGiveBack (kept_at (with_kept t b (less_one (kept_at t b))) b) q
      × (with_kept (with_kept t b (less_one (kept_at t b))) b (united (kept_at (with_kept t b (less_one (kept_at t b))) b) q) ≡ t)
