-- What is known where the library failed, stage by stage.
use Rattle.std.proofs.Common.{ℕ, List, Option, Ok, Err, subst, inl, inr}
use Rattle.edge_traits.specs.Faults.{LibraryCall}
use Rattle.edge_traits.specs.Files.{Files}
use Rattle.flow_journal.specs.Pasts.{Past}
use Rattle.journal_check.specs.declared.fault.CheckFault.{CheckFault}
use Rattle.journal_check.specs.declared.fault.CheckFault.TheVariants as verdict
use Rattle.data_check.specs.ComparedFiles.{compared_files, IsFirstUnread, TellsFault}
use Rattle.data_check.specs.declared.fault.CompareFault.{CompareFault}
use Rattle.data_check.specs.declared.fault.CompareFault.TheVariants as compare
use Rattle.data_check.proofs.Unread.{unread-then}
use Rattle.run_laws.specs.Results.{IsFinishedRun}
use Rattle.tool_commands.specs.Outcomes.{Leads}
use Rattle.tool_commands.specs.Stages.{PrintStops}
use Rattle.tool_commands.specs.Unread.{NoneFailed, FailedAt, FailsIn, IfFailed, IfUnread}
use Rattle.tool_commands.specs.Works.{Source, sources}
use Rattle.tool_commands.specs.declared.reading.ReadRefusal.{ReadRefusal}
use Rattle.tool_commands.specs.declared.reading.ReadRefusal.TheVariants as reading
use Rattle.tool_commands.specs.declared.status.Status.{Status}
use Rattle.tool_commands.proofs.Unread.{failed-after, unread-to, no-fault}
use Rattle.check_command.specs.CheckAnswers.{IsLogRead, setting_of, most_log_bytes, yes}
use Rattle.check_command.specs.CheckCommand.{CheckCommand}
use Rattle.check_command.specs.CheckStages.{log_read_status, check_fault_status, compare_fault_status}
use Rattle.check_command.specs.CheckUnread.{FailsInCheck, IfCheckUnread}
use Rattle.check_command.specs.declared.status.CheckStatus.{CheckStatus}
use Rattle.check_command.specs.declared.status.CheckStatus.TheVariants.{Common, LongLog, LogBytes, LogRefused, FileDiffers}

-- what is known of a file's fault is known of the status that it leads to
pub unread_log_at : (P : Type 0) (why : ReadRefusal) → IfFailed why P → IfCheckUnread (log_read_status why) P
unread_log_at P reading.Failed h = h
unread_log_at P (reading.TooLong n) h = tt
unread_log_at P reading.OutOfMemory h = tt

check-unread-to : (P Q : Type 0) → (P → Q) → (status : CheckStatus) → IfCheckUnread status P → IfCheckUnread status Q
check-unread-to P Q to (Common status) h = unread-to P Q to status h
check-unread-to P Q to (LongLog bytes) h = tt
check-unread-to P Q to (LogBytes fault) h = tt
check-unread-to P Q to (LogRefused fault) h = tt
check-unread-to P Q to (FileDiffers d) h = tt

module _ (told : Option Files) (before now : LibraryCall → List ℕ → ℕ) (c : CheckCommand) where
  abbrev Fails : Type 0
  Fails = FailsInCheck told before now c

  pub sources_unread : (status : Status) → IfUnread status (FailsIn told before now (sources c.graph c.stack)) → IfCheckUnread (Common status) Fails
  sources_unread status h = unread-to (FailsIn told before now (sources c.graph c.stack)) Fails (λ fails. inl fails) status h

  module _ (source : Source) (read : Leads told (sources c.graph c.stack) (Ok source)) where
    pub log_unread : (middle : LibraryCall → List ℕ → ℕ) → NoneFailed before middle → (status : CheckStatus)
        → IfCheckUnread status (FailedAt told most_log_bytes middle now c.log) → IfCheckUnread status Fails
    log_unread middle none status h =
        check-unread-to (FailedAt told most_log_bytes middle now c.log) Fails
        (λ failed. inr (source, read, inl (failed-after told most_log_bytes before middle now c.log none failed))) status h

    pub files_unread : (middle : LibraryCall → List ℕ → ℕ) → NoneFailed before middle → (P : Past) → IsLogRead told c.log P
        → IsFinishedRun (setting_of source) P → (T : Type 0) (fault : CompareFault)
        → TellsFault {T = T} (Err fault) (IsFirstUnread told middle now (compared_files source.graph source.stack c.prefix P)) middle now
        → IfCheckUnread (compare_fault_status fault) Fails
    files_unread middle none P log run T compare.Failed first =
        let files = compared_files source.graph source.stack c.prefix P in
        inr (source, read, inr (P, log, record { run = run; first = unread-then before middle now none told files first }))
    files_unread middle none P log run T compare.OutOfMemory first = tt

-- a log that is refused, and a print that stops, are no fault of the library
pub verdict_unread : (P : Type 0) (fault : CheckFault) → IfCheckUnread (check_fault_status fault) P
verdict_unread P verdict.OutOfMemory = tt
verdict_unread P (verdict.Entry n) = tt
verdict_unread P verdict.Unfinished = tt

pub print_unread : (P : Type 0) (status : Status) (sink printed : Option (List ℕ)) (faults faults_now : ℕ)
    → PrintStops status sink yes printed faults faults_now → IfCheckUnread (Common status) P
print_unread P status sink printed faults faults_now stops =
    no-fault P status (λ e. absurd (subst (λ (s : Status). PrintStops s sink yes printed faults faults_now) e stops))
