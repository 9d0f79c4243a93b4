-- What a fault of the library says of a check: what was read before it, and which file it is of.
use Rattle.std.specs.Prelude.{◌⊎◌, ℕ, List, Option, None, Some}
use Rattle.edge_traits.specs.Faults.{LibraryCall}
use Rattle.edge_traits.specs.Files.{Files}
use Rattle.flow_journal.specs.Pasts.{Past}
use Rattle.run_laws.specs.Results.{IsFinishedRun}
use Rattle.data_check.specs.ComparedFiles.{compared_files, IsFirstUnread}
use Rattle.tool_commands.specs.Unread.{FailedAt, FailsIn, IfUnread}
use Rattle.tool_commands.specs.Works.{Source, sources}
use Rattle.check_command.specs.CheckAnswers.{OfSource, OfLog, setting_of, most_log_bytes}
use Rattle.check_command.specs.CheckCommand.{CheckCommand}
use Rattle.check_command.specs.declared.status.CheckStatus.{CheckStatus}
use Rattle.check_command.specs.declared.status.CheckStatus.TheVariants.{Common, LongLog, LogBytes, LogRefused, FileDiffers}

-- the log is that of a finished run, and the library failed at one of the files, behind those that are as the run writes them
pub record FailsAtFile (told : Option Files) (before now : LibraryCall → List ℕ → ℕ) (prefix : List ℕ) (source : Source) (P : Past) : Type 0 where
  pub run : IsFinishedRun (setting_of source) P
  pub first : IsFirstUnread told before now (compared_files source.graph source.stack prefix P)

-- The library failed at the graph, or at the stack of a graph that was read; or, where these could be read and go with each other, at the log; or, where
-- this is that of a finished run, at one of its files, behind files that are as the run writes them.
abbrev pub FailsInCheck : (told : Option Files) → (before now : LibraryCall → List ℕ → ℕ) → CheckCommand → Type 0
FailsInCheck told before now c =
    FailsIn told before now (sources c.graph c.stack)
    ⊎ OfSource told c (λ source. FailedAt told most_log_bytes before now c.log ⊎ OfLog told c.log (FailsAtFile told before now c.prefix source))

-- the same of all words
abbrev pub FailsInWords : (told : Option Files) → (before now : LibraryCall → List ℕ → ℕ) → Option CheckCommand → Type 0
FailsInWords told before now None = ⊥
FailsInWords told before now (Some c) = FailsInCheck told before now c

-- where the library failed
abbrev pub IfCheckUnread : CheckStatus → Type 0 → Type 0
IfCheckUnread (Common status) P = IfUnread status P
IfCheckUnread (LongLog bytes) P = Unit {0}
IfCheckUnread (LogBytes fault) P = Unit {0}
IfCheckUnread (LogRefused fault) P = Unit {0}
IfCheckUnread (FileDiffers d) P = Unit {0}
