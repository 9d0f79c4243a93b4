-- LAWS of verdicts: what they say of fronts of legal histories, and that each list of entries has one.
use Rattle.std.specs.Prelude.{◌≡◌, ◌≢◌, ℕ, ◌-◌, ◌≤◌, true, List, ◌++◌, ◌↔◌, length, reverse, take, Result, Err}
use Rattle.flow_journal.specs.declared.entry.Entry.{Entry}
use Rattle.flow_journal.specs.Setting.{Setting}
use Rattle.flow_journal.specs.Histories.{is_legal, is_history}
use Rattle.flow_journal.specs.FirstBad.{is_first_bad}
use Rattle.journal_check.specs.declared.fault.CheckFault.{CheckFault}
use Rattle.journal_check.specs.declared.fault.CheckFault.TheVariants as faults
use Rattle.journal_check.specs.Verdicts.{Checks}

-- a legal history begins with these
abbrev pub IsFront : Setting → List Entry → Type 0
IsFront s es = (newer : List Entry) × (is_history s (newer ++ reverse es) ≡ true)

-- the first n of these are a front of no legal history, and fewer of them are one
pub record IsNoFrontFrom (s : Setting) (es : List Entry) (n : ℕ) : Type 0 where
  pub some : 1 ≤ n
  pub within : n ≤ length es
  pub before : (m : ℕ) → m ≤ n - 1 → IsFront s (take m es)
  pub after : IsFront s (take n es) → ⊥

-- a legal history begins with these exactly where each of them is in its place
abbrev pub FrontsAreLegalLogs : Type 0
FrontsAreLegalLogs = (s : Setting) (es : List Entry) → IsFront s es ↔ (is_legal s (reverse es) ≡ true)

-- the first that isn't in its place is the one up to which they are a front of no legal history
abbrev pub FirstBadEndsFronts : Type 0
FirstBadEndsFronts = (s : Setting) (es : List Entry) (n : ℕ) → (is_first_bad s es n ≡ true) ↔ IsNoFrontFrom s es n

-- two right answers are one, but for want of memory
abbrev pub OneVerdict : Type 0
OneVerdict =
    (s : Setting) (es : List Entry) (a b : Result (Unit {0}) CheckFault) → a ≢ Err faults.OutOfMemory → Checks s es a → Checks s es b → a ≡ b

-- and some answer is right
abbrev pub SomeVerdict : Type 0
SomeVerdict = (s : Setting) (es : List Entry) → (a : Result (Unit {0}) CheckFault) × (a ≢ Err faults.OutOfMemory) × Checks s es a
