-- What each status of a check says of the words, of the files that were read, and of what was printed.
use Rattle.std.specs.Prelude.{◌≡◌, ◌≢◌, ℕ, ◌<◌, ◌≤◌, All, List, length, reverse, codes, Option, None, Some, Result, Ok, Err}
use Rattle.edge_traits.specs.Faults.{Rose}
use Rattle.edge_traits.specs.Files.{Files, HasFile}
use Rattle.edge_traits.specs.Written.{with_written}
use Rattle.board_rules.specs.RunMeasures.{run_setting}
use Rattle.flow_journal.specs.Pasts.{Past}
use Rattle.flow_journal.specs.Setting.{Setting}
use Rattle.flow_journal.specs.Spelling.{text_of}
use Rattle.flow_journal.specs.TextFaults.{Fits, IsFirstBadLine}
use Rattle.flow_journal.specs.declared.read.LogFault.TheVariants as text
use Rattle.journal_check.specs.Verdicts.{Checks}
use Rattle.journal_check.specs.declared.fault.CheckFault.{CheckFault}
use Rattle.journal_check.specs.declared.fault.CheckFault.TheVariants as verdict
use Rattle.run_laws.specs.Results.{IsFinishedRun}
use Rattle.data_check.specs.ComparedFiles.{AreAllSame, IsFirstDifference}
use Rattle.data_check.specs.declared.difference.Difference.{Difference}
use Rattle.tool_commands.specs.Outcomes.{Leads}
use Rattle.tool_commands.specs.Printed.{IsCutShort}
use Rattle.tool_commands.specs.Reads.{IsSized}
use Rattle.tool_commands.specs.Works.{Source, sources}
use Rattle.tool_commands.specs.declared.status.Status.TheVariants.{Done, Usage, GraphText, GraphRule, StackBytes, Limit, Sizes, ReadFault, ShelfFault, OutFault}
use Rattle.tool_commands.specs.declared.status.Status.TheVariants.{OutOfMemory}
use Rattle.check_command.specs.CheckCommand.{CheckCommand}
use Rattle.check_command.specs.declared.status.CheckStatus.{CheckStatus}
use Rattle.check_command.specs.declared.status.CheckStatus.TheVariants.{Common, LongLog, LogBytes, LogRefused, FileDiffers}

-- what a check that answered so ends with
abbrev pub check_status_of : Result (Unit {0}) CheckStatus → CheckStatus
check_status_of (Ok x) = Common Done
check_status_of (Err status) = status

-- the most bytes of a log's file
abbrev pub most_log_bytes : ℕ
most_log_bytes = 536870912

-- the log's file is the text of these entries, of which the newest is the first here
pub record IsLogRead (told : Option Files) (name : List ℕ) (P : Past) : Type 0 where
  pub file : HasFile told name (text_of (reverse P))
  pub fits : All Fits (reverse P)
  pub within : length (text_of (reverse P)) ≤ most_log_bytes

-- the log's file is within its limit, and this line is the first of it that is no entry's
pub record IsBadText (told : Option Files) (name : List ℕ) (n : ℕ) : Type 0 where
  pub bytes : List ℕ
  pub file : HasFile told name bytes
  pub within : length bytes ≤ most_log_bytes
  pub line : IsFirstBadLine bytes n

-- what a log is whose text could be read
abbrev pub OfLog : (told : Option Files) → (name : List ℕ) → (Past → Type 0) → Type 0
OfLog told name Says = (P : Past) × IsLogRead told name P × Says P

-- the graph and the stack could be read, and go with each other
abbrev pub OfSource : (told : Option Files) → CheckCommand → (Source → Type 0) → Type 0
OfSource told c Says = (source : Source) × Leads told (sources c.graph c.stack) (Ok source) × Says source

abbrev pub setting_of : Source → Setting
setting_of source = run_setting source.graph source.stack

-- the checker refuses the log for this
abbrev pub IsRefusedLog : Source → CheckFault → Past → Type 0
IsRefusedLog source fault P = Checks (setting_of source) (reverse P) (Err fault) × (fault ≢ verdict.OutOfMemory)

-- the log is that of a finished run, and each of its files is as the run writes it
pub record IsAsWritten (told : Option Files) (c : CheckCommand) (source : Source) (P : Past) : Type 0 where
  pub run : IsFinishedRun (setting_of source) P
  pub files : AreAllSame told source.graph source.stack c.prefix P

-- the log is that of a finished run, and this is the first of its files that isn't as the run writes it
pub record Differs (told : Option Files) (c : CheckCommand) (d : Difference) (source : Source) (P : Past) : Type 0 where
  pub run : IsFinishedRun (setting_of source) P
  pub first : IsFirstDifference told source.graph source.stack c.prefix P d

-- A status is the right answer on these files. Usage, faults and want of memory are none.
abbrev pub IsAnswer : (told : Option Files) → CheckCommand → CheckStatus → Type 0
IsAnswer told c (Common Done) = OfSource told c (λ source. OfLog told c.log (IsAsWritten told c source))
IsAnswer told c (Common Usage) = ⊥
IsAnswer told c (Common GraphText) = Leads told (sources c.graph c.stack) (Err GraphText)
IsAnswer told c (Common (GraphRule fault)) = Leads told (sources c.graph c.stack) (Err (GraphRule fault))
IsAnswer told c (Common (StackBytes fault)) = Leads told (sources c.graph c.stack) (Err (StackBytes fault))
IsAnswer told c (Common (Limit fault)) = Leads told (sources c.graph c.stack) (Err (Limit fault))
IsAnswer told c (Common Sizes) = ⊥
IsAnswer told c (Common ReadFault) = ⊥
IsAnswer told c (Common ShelfFault) = ⊥
IsAnswer told c (Common OutFault) = ⊥
IsAnswer told c (Common OutOfMemory) = ⊥
IsAnswer told c (LongLog bytes) = OfSource told c (λ source. (most_log_bytes < bytes) × IsSized told c.log bytes)
IsAnswer told c (LogBytes text.OutOfMemory) = ⊥
IsAnswer told c (LogBytes (text.Line n)) = OfSource told c (λ source. IsBadText told c.log n)
IsAnswer told c (LogRefused fault) = OfSource told c (λ source. OfLog told c.log (IsRefusedLog source fault))
IsAnswer told c (FileDiffers d) = OfSource told c (λ source. OfLog told c.log (Differs told c d source))

-- what is printed where all is as it should be
abbrev pub yes : List ℕ
yes = codes "yes\n"

-- What a status of a check says of its command, where the words are one, of the files that were read, and of what was printed. The sink failed
-- only where `Done` was the right answer.
abbrev pub CommandEnds : CheckStatus → CheckCommand → (told : Option Files) → (sink sink_now : Option (List ℕ)) → Type 0
CommandEnds (Common Done) c told sink now = IsAnswer told c (Common Done) × (now ≡ with_written sink yes)
CommandEnds (Common OutFault) c told sink now = IsAnswer told c (Common Done) × IsCutShort sink yes now
CommandEnds (Common ReadFault) c told sink now = now ≡ sink
CommandEnds (Common OutOfMemory) c told sink now = now ≡ sink
CommandEnds (Common Usage) c told sink now = ⊥
CommandEnds (Common GraphText) c told sink now = IsAnswer told c (Common GraphText) × (now ≡ sink)
CommandEnds (Common (GraphRule fault)) c told sink now = IsAnswer told c (Common (GraphRule fault)) × (now ≡ sink)
CommandEnds (Common (StackBytes fault)) c told sink now = IsAnswer told c (Common (StackBytes fault)) × (now ≡ sink)
CommandEnds (Common (Limit fault)) c told sink now = IsAnswer told c (Common (Limit fault)) × (now ≡ sink)
CommandEnds (Common Sizes) c told sink now = ⊥
CommandEnds (Common ShelfFault) c told sink now = ⊥
CommandEnds (LongLog bytes) c told sink now = IsAnswer told c (LongLog bytes) × (now ≡ sink)
CommandEnds (LogBytes fault) c told sink now = IsAnswer told c (LogBytes fault) × (now ≡ sink)
CommandEnds (LogRefused fault) c told sink now = IsAnswer told c (LogRefused fault) × (now ≡ sink)
CommandEnds (FileDiffers d) c told sink now = IsAnswer told c (FileDiffers d) × (now ≡ sink)

-- the same of all words: Usage exactly where they ask for no check
abbrev pub CheckEnds : CheckStatus → Option CheckCommand → (told : Option Files) → (sink sink_now : Option (List ℕ)) → Type 0
CheckEnds status None told sink now = (status ≡ Common Usage) × (now ≡ sink)
CheckEnds status (Some c) told sink now = CommandEnds status c told sink now

-- a fault comes only where its object's count rose, and the other one stays; at any other status both stay
abbrev pub IsCheckCause : CheckStatus → (library library_now sink sink_now : ℕ) → Type 0
IsCheckCause (Common ReadFault) library library_now sink sink_now = Rose library library_now × (sink_now ≡ sink)
IsCheckCause (Common OutFault) library library_now sink sink_now = (library_now ≡ library) × Rose sink sink_now
IsCheckCause status library library_now sink sink_now = (library_now ≡ library) × (sink_now ≡ sink)
