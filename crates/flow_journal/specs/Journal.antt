-- What a log is seen as.
use Rattle.std.specs.Prelude.{ℕ, List}
use Rattle.flow_journal.specs.declared.entry.Entry.{Entry}

-- its entries, the newest first, and how many there may be
pub record Journal : Type 0 where
  pub past : List Entry
  pub room : ℕ
