-- The first entry of a log that isn't in its place.
use Rattle.std.specs.Prelude.{ℕ, ◌-◌, Bool, ◌&&◌, not, List, reverse, take}
use Rattle.flow_journal.specs.declared.entry.Entry.{Entry}
use Rattle.flow_journal.specs.Setting.{Setting}
use Rattle.flow_journal.specs.Histories.{is_legal}

-- entry n, from 1, of these, which stand the oldest first, is the first that isn't in its place
abbrev pub is_first_bad : Setting → List Entry → ℕ → Bool
is_first_bad s es n = is_legal s (reverse (take (n - 1) es)) && not (is_legal s (reverse (take n es)))
