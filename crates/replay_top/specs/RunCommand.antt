-- The commands that run a graph with its threads, by the words of the command line.
use Rattle.std.specs.Prelude.{◌≡◌, ℕ, ◌≤◌, Bool, true, false, List, [], ◌∷◌, Option, None, Some, codes, if◌then◌else◌}
use Rattle.std.specs.Option.{option_map}
use Rattle.std.specs.Str.{bytes_eq}
use Rattle.decimal_words.specs.Numbers.{number_of}

-- what a run goes over: a graph and a stack that are read under these names, or the demo run of so many frames
pub data RunSource : Type 0 where
  Named : (graph stack : List ℕ) → RunSource
  Demo : (frames : ℕ) → RunSource

-- it is read from files
abbrev pub IsRead : RunSource → Type 0
IsRead (Named graph stack) = Unit {0}
IsRead (Demo frames) = ⊥

-- the demo run has 1 to 4,096 frames
abbrev pub IsInRange : RunSource → Type 0
IsInRange (Named graph stack) = Unit {0}
IsInRange (Demo frames) = (1 ≤ frames) × (frames ≤ 4096)

pub record RunCommand : Type 0 where
  pub source : RunSource
  pub prefix : List ℕ
  -- the log's text is written, too
  pub logs : Bool
  -- a reader beside the run tells how far it has come
  pub watched : Bool

-- the run reads files
abbrev pub ReadsFiles : Option RunCommand → Type 0
ReadsFiles None = ⊥
ReadsFiles (Some c) = IsRead c.source

abbrev pub named_run : (logs watched : Bool) → (graph stack prefix : List ℕ) → RunCommand
named_run logs watched graph stack prefix = record { source = Named graph stack; prefix = prefix; logs = logs; watched = watched }

abbrev pub demo_run : (frames : ℕ) → RunCommand
demo_run frames = record { source = Demo frames; prefix = codes "demo_"; logs = false; watched = false }

-- the demo run isn't watched
abbrev pub IsReadWhereWatched : RunCommand → Type 0
IsReadWhereWatched c = c.watched ≡ true → IsRead c.source

-- the command that the words are; None where they are none, or not as many words as it has, or a number isn't spelled in its range
abbrev pub run_command_of : List (List ℕ) → Option RunCommand
run_command_of (word ∷ frames ∷ []) = if bytes_eq word (codes "demo") then option_map demo_run (number_of 4 1 4096 frames) else None
run_command_of (word ∷ graph ∷ stack ∷ prefix ∷ []) =
    if bytes_eq word (codes "run") then Some (named_run false false graph stack prefix)
    else if bytes_eq word (codes "run-log") then Some (named_run true false graph stack prefix)
    else if bytes_eq word (codes "watch") then Some (named_run false true graph stack prefix)
    else None
run_command_of _ = None
