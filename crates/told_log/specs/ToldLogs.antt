-- What a told log is seen as, and beside which entries something is told.
use Rattle.std.specs.Prelude.{ℕ, Bool, true, false, ◌||◌, not, length, filter}
use Rattle.flow_journal.specs.declared.entry.Entry.{Entry}
use Rattle.flow_journal.specs.declared.entry.Entry.TheVariants.{Take, TakeBlock, Save}
use Rattle.flow_journal.specs.Pasts.{Past}
use Rattle.flow_journal.specs.EntryTests.{is_reclaim}
use Rattle.board_rules.specs.States.{BoardState}

-- the entries with what was told beside them, the newest first; and how many entries, and how many Reclaims among them, there may be
pub record ToldState : Type 0 where
  pub told : BoardState
  pub room : ℕ
  pub reclaims : ℕ

-- the entry gives a hand over an array, of which a part goes out
abbrev pub gives_part : Entry → Bool
gives_part (Take r v m k) = true
gives_part (TakeBlock f x r v m k b n g) = true
gives_part (Save r v m k g) = true
gives_part _ = false

-- nothing is told beside the entry
abbrev pub is_plain : Entry → Bool
is_plain e = not (gives_part e || is_reclaim e)

abbrev pub count_reclaims : Past → ℕ
count_reclaims P = length (filter is_reclaim P)
