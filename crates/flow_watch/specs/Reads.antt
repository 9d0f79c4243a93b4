-- What a reader reads beside a run, and which lines come of it.
use Rattle.std.specs.Prelude.{◌≡◌, ℕ, List, [], ◌∷◌, ◌++◌, Some, nat_lt, if◌then◌else◌}
use mathlib.Core.List.{IsPrefix}
use Rattle.flow_journal.specs.declared.progress.Progress.{Progress}
use Rattle.flow_journal.specs.Notes.{Watched}
use Rattle.flow_monitor.specs.LastNotes.{last_note}
use Rattle.flow_watch.specs.SeenLines.{seen_line}

-- a watch that has been told nothing
abbrev pub unwatched : Watched
unwatched = record { notes = Some []; refused = 0 }

-- Of a reader that had seen these notes, and has seen those now: each read, the first one first, is the last note of what it had seen then.
abbrev pub ReadAfter : (seen : List Progress) → (reads : List Progress) → (now : List Progress) → Type 0
ReadAfter seen [] now = IsPrefix seen now
ReadAfter seen (note ∷ reads) now = (front : List Progress) × IsPrefix seen front × (note ≡ last_note front) × ReadAfter front reads now

-- the lines of the notes that have more entries than the line before them, the first more than these
abbrev pub lines_after : (entries : ℕ) → List Progress → List ℕ
lines_after entries [] = []
lines_after entries (note ∷ notes) =
    if nat_lt entries note.entries then seen_line note ++ lines_after note.entries notes else lines_after entries notes
