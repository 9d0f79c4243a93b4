-- The command that checks a log and the files of its run, by the words of the command line.
use Rattle.std.specs.Prelude.{ℕ, List, [], ◌∷◌, Option, None, Some, codes, if◌then◌else◌}
use Rattle.std.specs.Str.{bytes_eq}

-- the names of the graph, the stack and the log, and what begins the names of the run's files
pub record CheckCommand : Type 0 where
  pub graph : List ℕ
  pub stack : List ℕ
  pub log : List ℕ
  pub prefix : List ℕ

-- the check that the words ask for; None where they ask for none, or not with as many words as it has
abbrev pub check_command_of : List (List ℕ) → Option CheckCommand
check_command_of (word ∷ graph ∷ stack ∷ log ∷ prefix ∷ []) =
    if bytes_eq word (codes "check") then Some (record { graph = graph; stack = stack; log = log; prefix = prefix }) else None
check_command_of _ = None
