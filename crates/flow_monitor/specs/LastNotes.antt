-- The last of a list of notes.
use Rattle.std.specs.Prelude.{◌-◌, false, List, length, slice_index_or}
use Rattle.flow_journal.specs.declared.progress.Progress.{Progress}

-- the progress of a run that hasn't begun
abbrev pub no_progress : Progress
no_progress = record { entries = 0; offered = 0; dropped = 0; saved = 0; left = false; done = false }

-- the last note, or no progress where there is none
abbrev pub last_note : List Progress → Progress
last_note notes = slice_index_or notes (length notes - 1) no_progress
