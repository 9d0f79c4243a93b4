-- Why each stage of a check stopped.
use Rattle.std.specs.Prelude.{◌≡◌, ℕ, ◌<◌, List, Option}
use Rattle.edge_traits.specs.Faults.{Rose}
use Rattle.edge_traits.specs.Files.{Files}
use Rattle.flow_journal.specs.declared.read.LogFault.{LogFault}
use Rattle.flow_journal.specs.declared.read.LogFault.TheVariants as text
use Rattle.journal_check.specs.declared.fault.CheckFault.{CheckFault}
use Rattle.journal_check.specs.declared.fault.CheckFault.TheVariants as verdict
use Rattle.data_check.specs.declared.fault.CompareFault.{CompareFault}
use Rattle.data_check.specs.declared.fault.CompareFault.TheVariants as compare
use Rattle.tool_commands.specs.Reads.{IsSized}
use Rattle.tool_commands.specs.declared.reading.ReadRefusal.{ReadRefusal}
use Rattle.tool_commands.specs.declared.reading.ReadRefusal.TheVariants as reading
use Rattle.tool_commands.specs.declared.status.Status.TheVariants.{ReadFault, OutOfMemory}
use Rattle.check_command.specs.CheckAnswers.{most_log_bytes, IsBadText}
use Rattle.check_command.specs.declared.status.CheckStatus.{CheckStatus}
use Rattle.check_command.specs.declared.status.CheckStatus.TheVariants.{Common, LongLog, LogBytes, LogRefused}

-- the status of a log's file that wasn't read
abbrev pub log_read_status : ReadRefusal → CheckStatus
log_read_status (reading.TooLong bytes) = LongLog bytes
log_read_status reading.Failed = Common ReadFault
log_read_status reading.OutOfMemory = Common OutOfMemory

-- of bytes that are no text of a log
abbrev pub log_fault_status : LogFault → CheckStatus
log_fault_status text.OutOfMemory = Common OutOfMemory
log_fault_status (text.Line n) = LogBytes (text.Line n)

-- of a log that is refused
abbrev pub check_fault_status : CheckFault → CheckStatus
check_fault_status verdict.OutOfMemory = Common OutOfMemory
check_fault_status fault = LogRefused fault

-- of files that weren't compared
abbrev pub compare_fault_status : CompareFault → CheckStatus
compare_fault_status compare.Failed = Common ReadFault
compare_fault_status compare.OutOfMemory = Common OutOfMemory

-- why no log was read
abbrev pub LogStops : CheckStatus → (told : Option Files) → (name : List ℕ) → (before now : ℕ) → Type 0
LogStops (LongLog bytes) told name before now = (most_log_bytes < bytes) × IsSized told name bytes × (now ≡ before)
LogStops (LogBytes (text.Line n)) told name before now = IsBadText told name n × (now ≡ before)
LogStops (Common ReadFault) told name before now = Rose before now
LogStops (Common OutOfMemory) told name before now = now ≡ before
LogStops _ told name before now = ⊥
