-- What contracts see of a publisher, of a reader, and of the readers that are left.
use Rattle.std.specs.Prelude.{◌≡◌, ℕ, Bool, false, List, Some}
use mathlib.Core.List.{IsPrefix}
use Rattle.flow_journal.specs.declared.progress.Progress.{Progress}
use Rattle.flow_journal.specs.Notes.{Watched}

-- The publisher of a monitor: the notes that it has published, the oldest first; the count of those that it refused, a `u64` that begins
-- anew at 0; and whether a reader that it told had seen a note that isn't among its own, after which it refuses all.
pub record PublisherState : Type 0 where
  pub monitor : List ℕ
  pub notes : List Progress
  pub refused : ℕ
  pub overtaken : Bool

-- a reader of a monitor: the notes that it has seen
pub record PeekState : Type 0 where
  pub monitor : List ℕ
  pub seen : List Progress

abbrev pub peek_state : List ℕ → List Progress → PeekState
peek_state monitor seen = record { monitor = monitor; seen = seen }

-- how many readers of a monitor are left
pub record MonitorState : Type 0 where
  pub monitor : List ℕ
  pub left : ℕ

-- what a publisher tells as a watch
abbrev pub watched_of : PublisherState → Watched
watched_of p = record { notes = Some p.notes; refused = p.refused }

-- The publisher has learned that a reader has seen these notes: its own begin with them, unless it refuses all.
abbrev pub HasLearned : PublisherState → List Progress → Type 0
HasLearned p seen = p.overtaken ≡ false → IsPrefix seen p.notes
