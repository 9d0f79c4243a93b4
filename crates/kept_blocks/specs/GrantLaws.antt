-- LAWS of a grant: where the pool grants this block, a place is made for it, its storage is taken, and then the move comes.
use Rattle.std.specs.Prelude.{◌≡◌, ◌≢◌, ◌≤◌, ◌<◌, ℕ, Bool, true, false, List, [], ◌∷◌, length, Option}
use Rattle.nd_base.specs.declared.frame.FrameName.{FrameName}
use Rattle.nd_base.specs.Parts.{Parts}
use Rattle.pool_ledger.specs.Grants.{Granted, has_number}
use Rattle.flow_journal.specs.declared.entry.Entry.TheVariants.{Load}
use Rattle.flow_journal.specs.Setting.{Setting}
use Rattle.flow_journal.specs.Queued.{queued}
use Rattle.flow_journal.specs.Accounts.{block_of, known, grant}
use Rattle.flow_journal.specs.FirstEntries.{is_next}
use Rattle.flow_journal.specs.Histories.{is_legal}
use Rattle.pool_account.specs.Account.{given_up_for}
use Rattle.board_rules.specs.States.{BoardState, past, plain, lends, take_block}
use Rattle.board_rules.specs.Moving.{moved, moved_at}
use Rattle.board_rules.specs.InHand.{TellParts}
use Rattle.board_rules.specs.LastGrants.{was_taken_back}
use Rattle.board_rules.specs.Storage.{wants_storage, IsRegrown}
use Rattle.frame_table.specs.Kept.{Kept, Empty, Storage, kept_at, with_kept, with_room, at_home, was_used, IsMadeAnew, IsAway, IsSized, IsRefused, IsPartOf}
use Rattle.frame_table.specs.Kept.{less_one, without_kept}
use Rattle.kept_blocks.specs.Keeping.{HoldsBlocks, IsRunOf}
use Rattle.kept_blocks.specs.LookLaws.{IsLendable}

-- with the pool's grant for so many bytes: the log is a history of a run, the table holds its blocks, and this is what is granted
pub record IsGranted {F : Type 0} (parts : F → Option Parts) (s : Setting) (told : BoardState) (t : List Kept)
    (need block size : ℕ) (fresh : Bool) (given : ℕ) : Type 0 where
  pub run : IsRunOf s told
  pub holds : HoldsBlocks parts s told t
  pub granted : grant s (past told) need ≡ Granted block size fresh given

-- a part of what is kept of the block c was lent of a table that holds the blocks, in which that block is as it was
pub record IsRefusedLent {F : Type 0} (parts : F → Option Parts) (s : Setting) (told : BoardState) (t new : List Kept) (c : ℕ) : Type 0 where
  pub left : List Kept
  pub holds : HoldsBlocks parts s told left
  pub lent : new ≡ with_kept left c (less_one (kept_at left c))
  pub same : kept_at left c ≡ kept_at t c
  pub long : length left ≡ length t

pub record GrantLaws {F : Type 0} (parts : F → Option Parts) : Type 0 where
  -- the block has a place or is the next, and one that isn't fresh has one; the table goes on holding the blocks with a place more
  pub next : (s : Setting) (told : BoardState) (t : List Kept) (need b z : ℕ) (f : Bool) (g : ℕ) → IsGranted parts s told t need b z f g → b ≤ length t
  pub old : (s : Setting) (told : BoardState) (t : List Kept) (need b z : ℕ) (g : ℕ) → IsGranted parts s told t need b z false g → b < length t
  pub room : (s : Setting) (told : BoardState) (t : List Kept) (b : ℕ) → HoldsBlocks parts s told t → HoldsBlocks parts s told (with_room t b)
  pub room_keeps : (t : List Kept) (b c : ℕ) → kept_at (with_room t b) c ≡ kept_at t c
  pub room_of_lent : (t : List Kept) (b c : ℕ) → c < length t
      → with_room (with_kept t c (less_one (kept_at t c))) b ≡ with_kept (with_room t b) c (less_one (kept_at (with_room t b) c))
  -- Of a block that isn't fresh: what was made anew is what the log says of it; where frames tell their parts memory is wanted only where
  -- storage is, and the block has the size that is granted; and a frame stood on what is kept, unless the last hand was taken back. Of a
  -- fresh one nothing was made anew.
  pub anew : (s : Setting) (told : BoardState) (t : List Kept) (need b z : ℕ) (g : ℕ) (x : Bool) → IsGranted parts s told t need b z false g
      → IsMadeAnew (at_home z (kept_at t b)) x → IsRegrown parts told b false x
  pub used : (s : Setting) (told : BoardState) (t : List Kept) (need b z : ℕ) (g : ℕ) → IsGranted parts s told t need b z false g
      → TellParts parts → was_taken_back b (past told) ≡ false → was_used (kept_at t b) ≡ true
  pub fresh_anew : (told : BoardState) (b : ℕ) → IsRegrown parts told b true false
  pub wants : (s : Setting) (told : BoardState) (t : List Kept) (need b z : ℕ) (g : ℕ) → IsGranted parts s told t need b z false g
      → TellParts parts → IsAway (at_home z (kept_at t b)) → wants_storage told (Granted b z false g) ≡ true
  pub sized : (s : Setting) (told : BoardState) (t : List Kept) (need b z : ℕ) (g : ℕ) → IsGranted parts s told t need b z false g
      → TellParts parts → IsSized z (kept_at t b)
  -- for want of memory, with the log as it is: what a refused table keeps; and where frames don't tell their parts, storage that was taken and
  -- is put back
  pub refused : (s : Setting) (told : BoardState) (t new : List Kept) (need b z : ℕ) (g : ℕ) → IsGranted parts s told t need b z false g
      → IsRefused z b t new → HoldsBlocks parts s told new
  pub put_back : (s : Setting) (told : BoardState) (t : List Kept) (need b z : ℕ) (g : ℕ) (used : Bool) → IsGranted parts s told t need b z false g
      → (TellParts parts → ⊥) → HoldsBlocks parts s told (with_kept (with_kept t b Empty) b (Storage z used))
  -- the block isn't that of the next array of a queue; with the storage taken, a part of that may be lent
  pub apart : (s : Setting) (told : BoardState) (t : List Kept) (need b z : ℕ) (f : Bool) (g v c : ℕ) (a : FrameName)
      → IsGranted parts s told t need b z f g → is_next a (queued v (past told)) ≡ true → block_of (past told) a ≡ c ∷ [] → c ≢ b
  pub lendable : (s : Setting) (told : BoardState) (t : List Kept) (need b z : ℕ) (f : Bool) (g v : ℕ) (a : FrameName)
      → IsGranted parts s told t need b z f g → is_next a (queued v (past told)) ≡ true → IsLendable parts (past told) (with_kept t b Empty) a
  -- the same want of memory once the part was lent: given back, it leaves a table that holds the blocks
  pub refused_lent : (s : Setting) (told : BoardState) (t new : List Kept) (need b z c : ℕ) (g : ℕ) → IsGranted parts s told t need b z false g
      → c ≢ b → IsRefused z b (with_kept t c (less_one (kept_at t c))) new → IsRefusedLent parts s told t new c
  -- what was kept at the place of a fresh block goes with what is given up, whatever becomes of other places
  pub emptied : (s : Setting) (told : BoardState) (t u : List Kept) (need b z : ℕ) (g : ℕ) → IsGranted parts s told t need b z true g
      → (kept_at t b ≡ Empty → kept_at u b ≡ Empty) → kept_at (without_kept (given_up_for s (past told) true g) u) b ≡ Empty
  -- the moves, with the storage of the block taken, before or after the part was lent, and that of the blocks that are given up let go
  pub load : (s : Setting) (told : BoardState) (t : List Kept) (tick r k need b z : ℕ) (f : Bool) (g : ℕ) (x : Bool) → IsGranted parts s told t need b z f g
      → b < length t → is_legal s (past (moved_at s tick (plain (Load r k b z f g x)) told)) ≡ true
      → HoldsBlocks parts s (moved_at s tick (plain (Load r k b z f g x)) told) (without_kept (given_up_for s (past told) f g) (with_kept t b Empty))
  pub take : (s : Setting) (told : BoardState) (t : List Kept) (r v c need b z : ℕ) (f : Bool) (g : ℕ) (x : Bool) (a : FrameName) (q : Option Parts)
      → IsGranted parts s told t need b z f g → b < length t → block_of (past told) a ≡ c ∷ [] → IsPartOf (kept_at (with_kept t b Empty) c) a q
      → is_legal s (past (moved s (lends (take_block r v a b z f g x) q) told)) ≡ true
      → HoldsBlocks parts s (moved s (lends (take_block r v a b z f g x) q) told)
      (without_kept (given_up_for s (past told) f g) (with_kept (with_kept t b Empty) c (less_one (kept_at (with_kept t b Empty) c))))
  pub take_lent : (s : Setting) (told : BoardState) (t : List Kept) (r v c need b z : ℕ) (f : Bool) (g : ℕ) (x : Bool) (a : FrameName) (q : Option Parts)
      → IsGranted parts s told t need b z f g → b < length t → block_of (past told) a ≡ c ∷ [] → IsPartOf (kept_at t c) a q
      → is_legal s (past (moved s (lends (take_block r v a b z f g x) q) told)) ≡ true
      → HoldsBlocks parts s (moved s (lends (take_block r v a b z f g x) q) told)
      (without_kept (given_up_for s (past told) f g) (with_kept (with_kept t c (less_one (kept_at t c))) b Empty))
  -- what is kept of a block that isn't known, or of which nothing is kept, can be forgotten
  pub forget : (s : Setting) (told : BoardState) (t : List Kept) (b : ℕ) → IsRunOf s told → HoldsBlocks parts s told t
      → (has_number b (known s (past told)) ≡ true → kept_at t b ≡ Empty) → HoldsBlocks parts s told (with_kept t b Empty)
