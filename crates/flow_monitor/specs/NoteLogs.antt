-- The log of a monitor's notes: its rule, and what its one step tells. It stands in proofs alone, but for the count of the notes.
use Rattle.std.specs.Prelude.{◌≡◌, ℕ, true, List, [], ◌∷◌, ◌++◌, length}
use Rattle.logbook.specs.Pages.{Cell, Step, View, Book, Named}
use Rattle.flow_journal.specs.declared.progress.Progress.{Progress}

-- The first word counts the notes. A book has two, of which the second stays 0.
abbrev pub CountsNotes : List Cell → List Progress → Type 0
CountsNotes cells log = cells ≡ (length log, true) ∷ (0, true) ∷ []

-- the word that counts the notes of a book
abbrev pub counter_of : Book → Named
counter_of b = record { tracked = true; key = 0; book = b }

-- where the count was the expected one, the note came right behind the notes that had been seen
abbrev pub Appends : Step Progress → View Progress ℕ → ℕ → View Progress ℕ → Type 0
Appends s old found new = found ≡ s.old → new.0 ≡ old.0 ++ s.ask ∷ []
