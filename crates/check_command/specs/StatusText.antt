-- The number and the text of each status of a check.
use Rattle.std.specs.Prelude.{ℕ, List, [], ◌∷◌, ◌++◌, codes}
use Rattle.std.specs.Fmt.{decimal}
use Rattle.data_check.specs.declared.difference.Difference.{Difference}
use Rattle.flow_journal.specs.declared.read.LogFault.{LogFault}
use Rattle.flow_journal.specs.declared.read.LogFault.TheVariants as text
use Rattle.journal_check.specs.declared.fault.CheckFault.{CheckFault}
use Rattle.journal_check.specs.declared.fault.CheckFault.TheVariants as verdict
use Rattle.tool_commands.specs.StatusText.{status_number, status_line}
use Rattle.check_command.specs.declared.status.CheckStatus.{CheckStatus}
use Rattle.check_command.specs.declared.status.CheckStatus.TheVariants.{Common, LongLog, LogBytes, LogRefused, FileDiffers}

-- what the process ends with
abbrev pub check_number : CheckStatus → ℕ
check_number (Common status) = status_number status
check_number (LongLog bytes) = 5
check_number (LogBytes fault) = 11
check_number (LogRefused fault) = 12
check_number (FileDiffers d) = 13

-- the name and the fields of a fault, with one space between
abbrev pub fault_words : LogFault → List ℕ
fault_words (text.Line n) = codes "Line " ++ decimal n
fault_words text.OutOfMemory = codes "OutOfMemory"

abbrev pub verdict_words : CheckFault → List ℕ
verdict_words (verdict.Entry n) = codes "Entry " ++ decimal n
verdict_words verdict.Unfinished = codes "Unfinished"
verdict_words verdict.OutOfMemory = codes "OutOfMemory"

abbrev pub place_words : Difference → List ℕ
place_words d = decimal d.node ++ 32 ∷ [] ++ decimal d.group

-- `status`, its number, its name, and what it carries, with one space between
abbrev pub check_line : CheckStatus → List ℕ
check_line (Common status) = status_line status
check_line (LongLog bytes) = codes "status 5 Limit LogFile " ++ decimal bytes
check_line (LogBytes fault) = codes "status 11 LogBytes " ++ fault_words fault
check_line (LogRefused fault) = codes "status 12 LogRefused " ++ verdict_words fault
check_line (FileDiffers d) = codes "status 13 FileDiffers " ++ place_words d
