-- What a checker says of a list of entries, the oldest first.
use Rattle.std.specs.Prelude.{◌≡◌, ℕ, Bool, true, ◌&&◌, not, ◌↔◌, List, reverse, Result, Ok, Err}
use Rattle.flow_journal.specs.declared.entry.Entry.{Entry}
use Rattle.flow_journal.specs.Setting.{Setting}
use Rattle.flow_journal.specs.Histories.{is_legal, is_history}
use Rattle.flow_journal.specs.Finished.{is_finished}
use Rattle.flow_journal.specs.FirstBad.{is_first_bad}
use Rattle.journal_check.specs.declared.fault.CheckFault.{CheckFault}
use Rattle.journal_check.specs.declared.fault.CheckFault.TheVariants as faults

-- these are a legal and finished history
abbrev pub is_whole : Setting → List Entry → Bool
is_whole s es = is_history s (reverse es) && is_finished s (reverse es)

-- each of these is in its place, and they aren't a legal and finished history
abbrev pub is_unfinished : Setting → List Entry → Bool
is_unfinished s es = is_legal s (reverse es) && not (is_whole s es)

-- The answer is each of these exactly where it is right.
pub record Checks (s : Setting) (es : List Entry) (answer : Result (Unit {0}) CheckFault) : Type 0 where
  pub whole : (answer ≡ Ok tt) ↔ (is_whole s es ≡ true)
  pub bad : (n : ℕ) → (answer ≡ Err (faults.Entry n)) ↔ (is_first_bad s es n ≡ true)
  pub unfinished : (answer ≡ Err faults.Unfinished) ↔ (is_unfinished s es ≡ true)
