-- One frame goes through a file node with files of one array: all the calls, and the log of eleven entries.
use Rattle.std.specs.Prelude.{◌≡◌, true, false, List, [], ◌∷◌, Some, None, Ok, refl}
use Rattle.flow_journal.specs.declared.entry.Entry.TheVariants as entry
use Rattle.flow_journal.specs.WorkedRuns.{after}
use Rattle.flow_journal.specs.WorkedSaves.{one_file, eleven_entries}
use Rattle.board_rules.specs.declared.answers.Load.TheVariants as load
use Rattle.board_rules.specs.declared.answers.Take.TheVariants as take
use Rattle.board_rules.specs.declared.answers.Save.TheVariants as save
use Rattle.board_rules.specs.declared.answers.Settled.TheVariants as settled
use Rattle.board_rules.specs.States.{BoardState, past, plain, lends}
use Rattle.board_rules.specs.Moving.{moved}
use Rattle.board_rules.specs.InHand.{just}
use Rattle.flow_journal.specs.Notes.{progress_of}
use Rattle.board_rules.specs.Runs.{Frames, Call, Loads, Issues, Takes, Puts, Settles, Saves as SavesOne, Saveds, Closes, Finishes, Runs}
use Rattle.board_rules.specs.Worked.{Sample, parts_of, whole, part, Bytes, size_of, fed, taken, put, closed, settled as settled_by}

abbrev pub samples : Frames Sample Bytes
samples = record { name_of = λ f. f.name; parts = parts_of; bytes_of = size_of; measure_at = λ v a. None }

abbrev pub put_down : BoardState
put_down = put one_file 1 0 (taken one_file 1 0 (fed one_file 0 []))

abbrev pub settled_down : BoardState
settled_down = settled_by one_file 1 (closed one_file put_down)

abbrev pub handed_out : BoardState
handed_out = moved one_file (lends (entry.Save 1 1 0 0 0) (parts_of (part 0))) settled_down

abbrev pub saved_up : BoardState
saved_up = moved one_file (plain (entry.Saved 1 1 0 0)) handed_out

abbrev pub nine_calls : List (Call Sample Bytes (Unit {0}))
nine_calls =
    Loads 0 0 (load.Loaded 0 4)
    ∷ Issues 0 (whole 0) (Ok tt)
    ∷ Takes 1 1 (take.Job 1 (part 0) None)
    ∷ Puts 1 (just 1 (part 0)) (Ok tt)
    ∷ Closes 0 settled.Done
    ∷ Settles 1 1 settled.Done
    ∷ SavesOne 1 1 (save.Piece (part 0) 0 0 (Some 1))
    ∷ Saveds 1 (part 0) (Ok tt)
    ∷ Finishes true
    ∷ []

they_log_eleven_entries : past saved_up ≡ after eleven_entries
they_log_eleven_entries = refl

-- these calls, each with its conditions and its answer, lead to that log
abbrev pub OneIsSaved : Type 0
OneIsSaved = Runs samples one_file [] nine_calls saved_up

-- and how far they came
all_is_done : progress_of one_file (past saved_up) ≡ record { entries = 11; offered = 1; dropped = 0; saved = 1; left = false; done = true }
all_is_done = refl
