-- LAWS of the texts of logs.
use Rattle.std.specs.Prelude.{◌≡◌, ℕ, List, All}
use Rattle.flow_journal.specs.declared.entry.Entry.{Entry}
use Rattle.flow_journal.specs.Spelling.{text_of}
use Rattle.flow_journal.specs.TextFaults.{Fits, IsFirstBadLine}

-- two lists of entries that have one text are the same
abbrev pub TextsTellEntries : Type 0
TextsTellEntries = (es ds : List Entry) → All Fits es → All Fits ds → text_of es ≡ text_of ds → es ≡ ds

-- no line of such a text is bad
abbrev pub TextsHaveNoBadLine : Type 0
TextsHaveNoBadLine = (es : List Entry) (n : ℕ) → All Fits es → IsFirstBadLine (text_of es) n → ⊥
