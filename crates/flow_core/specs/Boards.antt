-- What a board keeps.
use Rattle.std.specs.Prelude.{◌≡◌, ◌⊎◌, ℕ, Bool, true, false, List, [], length, Option, Some, None, if◌then◌else◌}
use Rattle.nd_base.specs.Parts.{Parts}
use Rattle.flow_journal.specs.Setting.{Setting}
use Rattle.board_rules.specs.LastGrants.{LastGrant, Never, InMaking, Made, TakenBack}
use Rattle.frame_table.specs.Kept.{Kept, Empty, kept_at, with_kept, with_room, at_home, IsMadeAnew, IsAsUsed, IsAway, IsRefused}
use Rattle.run_course.specs.Courses.{Coursed}
use Rattle.kept_blocks.specs.Keeping.{HoldsBlocks, IsRunOf}

-- Nothing is on its way between two calls, the log is the history of a run, and the table holds its blocks.
pub record IsBoard {F : Type 0} (parts : F → Option Parts) (s : Setting) (course : Coursed) (table : List Kept) : Type 0 where
  pub still : course.transit ≡ []
  pub run : IsRunOf s course.told
  pub holds : HoldsBlocks parts s course.told table

-- Storage of a new block is new. That of another was made anew where it wasn't at home.
abbrev pub IsRemade : (size block : ℕ) (fresh : Bool) → List Kept → (regrown : Bool) → Type 0
IsRemade size block true t regrown = regrown ≡ false
IsRemade size block false t regrown = IsMadeAnew (at_home size (kept_at (with_room t block) block)) regrown

-- storage of a block that isn't new, and that wasn't made anew, is that which was kept
abbrev pub IsSameStorage : (block : ℕ) (fresh : Bool) → List Kept → (regrown used : Bool) → Type 0
IsSameStorage block true t regrown used = Unit {0}
IsSameStorage block false t regrown used = IsAsUsed (kept_at (with_room t block) block) regrown used

-- The table once there is storage for a block. What is kept at the place of a new one stays until the log has it.
abbrev pub with_storage : (block : ℕ) (fresh : Bool) → List Kept → List Kept
with_storage block fresh t = if fresh then with_room t block else with_kept (with_room t block) block Empty

-- there was no memory for a place of the block, or for its storage
abbrev pub IsNotStored : (size block : ℕ) (fresh : Bool) → (before after : List Kept) → Type 0
IsNotStored size block true before after = (after ≡ before) ⊎ (after ≡ with_room before block)
IsNotStored size block false before after =
    ((block ≡ length before) × (after ≡ before))
    ⊎ (IsAway (at_home size (kept_at (with_room before block) block)) × IsRefused size block (with_room before block) after)

-- the block of which nothing came back
abbrev pub lost_block : (came : Bool) → ℕ → Option ℕ
lost_block came b = if came then None else Some b

-- Whether something is kept for a known block, by what became of its last grant: nothing while the array is in the making, then the array,
-- and after a hand that was taken back its storage, where nothing of it stayed away.
abbrev pub TellsKept : (away : Bool) → LastGrant → (kept : Bool) → Type 0
TellsKept away Never kept = Unit {0}
TellsKept away (InMaking r a n) kept = kept ≡ false
TellsKept away (Made a n) kept = kept ≡ true
TellsKept away (TakenBack n) kept = away ≡ false → kept ≡ true
