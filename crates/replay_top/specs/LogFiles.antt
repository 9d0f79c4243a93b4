-- The file of a log's text.
use Rattle.std.specs.Prelude.{ℕ, ◌≤◌, Bool, true, false, List, [], ◌∷◌, ◌++◌, length, reverse, All, codes}
use Rattle.flow_journal.specs.Pasts.{Past}
use Rattle.flow_journal.specs.Spelling.{text_of}
use Rattle.flow_journal.specs.TextFaults.{Fits}
use Rattle.graph_files.specs.OutFiles.{OutFile}
use Rattle.check_command.specs.CheckAnswers.{most_log_bytes}

abbrev pub log_name : (prefix : List ℕ) → List ℕ
log_name prefix = prefix ++ codes "log.txt"

-- the text of the log, whose entries are these, the newest first
abbrev pub log_text : Past → List ℕ
log_text P = text_of (reverse P)

-- where it is written
abbrev pub log_files : (logs : Bool) → (prefix : List ℕ) → Past → List OutFile
log_files false prefix P = []
log_files true prefix P = record { name = log_name prefix; bytes = log_text P; late = false } ∷ []

-- the text tells these entries and no others, and is within the limit of a log that is checked
pub record IsReadable (P : Past) : Type 0 where
  pub fits : All Fits (reverse P)
  pub within : length (log_text P) ≤ most_log_bytes
