-- What the table has to be by the log.
use Rattle.std.specs.Prelude.{◌≡◌, ◌⊎◌, ◌<◌, ◌≤◌, ℕ, Bool, true, false, ◌||◌, not, List, [], ◌∷◌, length, Option, Some, IsSome}
use Rattle.std.specs.List.{list_any}
use Rattle.nd_base.specs.declared.frame.FrameName.{FrameName}
use Rattle.nd_base.specs.Parts.{Parts}
use Rattle.pool_ledger.specs.Grants.{has_number}
use Rattle.flow_journal.specs.declared.entry.Entry.{Entry}
use Rattle.flow_journal.specs.declared.entry.Entry.TheVariants.{Load, Take, TakeBlock, Save, Reclaim}
use Rattle.flow_journal.specs.Setting.{Setting}
use Rattle.flow_journal.specs.Pasts.{Past, frame, same}
use Rattle.flow_journal.specs.Hands.{hands, hand}
use Rattle.flow_journal.specs.Accounts.{block_of, arrays_at, known}
use Rattle.flow_journal.specs.LengthLaws.{threads}
use Rattle.flow_journal.specs.Histories.{is_history}
use Rattle.board_rules.specs.States.{BoardState, past, lent_to}
use Rattle.board_rules.specs.InHand.{has_part_of, TellParts, OfSome}
use Rattle.board_rules.specs.Storage.{is_away, parts_away, parts_here}
use Rattle.frame_table.specs.Kept.{Kept, Empty, Frame, kept_at, IsPartOf, IsSized, at_home}
use Rattle.board_rules.specs.LastGrants.{LastGrant, Never, InMaking, Made, TakenBack, last_grant}

-- NO PLACE

-- the hand has the array, or makes it
abbrev pub has_array : FrameName → Entry → Bool
has_array a (Load r k b n f g x) = same (frame 0 k) a
has_array a (Take r v m k) = same (frame m k) a
has_array a (TakeBlock f x r v m k b n g) = same (frame v k) a || same (frame m k) a
has_array a (Save r v m k g) = same (frame m k) a
has_array a _ = false

-- no place has the array
pub record IsNowhere (s : Setting) (P : Past) (a : FrameName) : Type 0 where
  pub nodes : (v : ℕ) → list_any (λ x. same x a) (arrays_at s P v) ≡ false
  pub roles : list_any (has_array a) (hands P) ≡ false

-- ONE BLOCK

-- the frame of this name is kept, on a block of this size, with the parts that the log leaves here
pub record IsFrameOn {F : Type 0} (parts : F → Option Parts) (told : BoardState) (block : ℕ) (a : FrameName) (size : ℕ) (k : Kept) : Type 0 where
  pub its_parts : Option Parts
  pub is : k ≡ Frame a its_parts
  pub tells : TellParts parts → IsSome its_parts
  pub here : OfSome (λ p. (p.size ≡ size) × (p.here ≡ parts_here told block)) its_parts

-- storage of the block's size is at home, unless something of it stayed away
pub record IsHome (told : BoardState) (block size : ℕ) (k : Kept) : Type 0 where
  pub sized : IsSized size k
  pub home : at_home size k ≡ Some (not (is_away block told))

-- What is kept of a known block, by what became of its last grant: nothing while the array is in the making; then the array, but that of one
-- that no place has any more nothing is said where frames don't tell their parts; and after a hand that was taken back what came home.
abbrev pub IsKeptBy : {F : Type 0} → (F → Option Parts) → Setting → BoardState → ℕ → LastGrant → Kept → Type 0
IsKeptBy parts s told block Never k = Unit {0}
IsKeptBy parts s told block (InMaking r a n) k = (k ≡ Empty) × (parts_away block told ≡ 0)
IsKeptBy parts s told block (Made a n) k = IsFrameOn parts told block a n k ⊎ ((TellParts parts → ⊥) × IsNowhere s (past told) a)
IsKeptBy parts s told block (TakenBack n) k = TellParts parts → IsHome told block n k

-- ALL BLOCKS

-- of so many blocks something may stay away beside this entry: those of the one hand that is taken back
abbrev pub most_lost : Entry → ℕ
most_lost (Reclaim r) = 2
most_lost _ = 0

abbrev pub LoseFew : BoardState → Type 0
LoseFew [] = Unit {0}
LoseFew (t ∷ told) = (length t.lost ≤ most_lost t.entry) × LoseFew told

-- The table has a place for each known block, and there what the log says; what a role was lent is one part of what is kept of its array;
-- and of a number that names no known block nothing is kept.
pub record HoldsBlocks {F : Type 0} (parts : F → Option Parts) (s : Setting) (told : BoardState) (t : List Kept) : Type 0 where
  pub places : (b : ℕ) → has_number b (known s (past told)) ≡ true → b < length t
  pub kept : (b : ℕ) → has_number b (known s (past told)) ≡ true → IsKeptBy parts s told b (last_grant b (past told)) (kept_at t b)
  pub lent : (r b : ℕ) (a : FrameName) → has_part_of a (hand r (past told)) ≡ true → block_of (past told) a ≡ b ∷ []
      → IsPartOf (kept_at t b) a (lent_to r told)
  pub lost : LoseFew told
  pub only : (b : ℕ) → has_number b (known s (past told)) ≡ false → kept_at t b ≡ Empty

-- the log is the history of a run whose blocks are accounted, with no more threads than a graph may have
pub record IsRunOf (s : Setting) (told : BoardState) : Type 0 where
  pub pooled : s.pooled ≡ true
  pub few : threads s ≤ 64
  pub history : is_history s (past told) ≡ true
