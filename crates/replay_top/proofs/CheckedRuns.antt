-- What `run-log` left, `check` accepts.
use Rattle.std.proofs.Common.{◌≡◌, ◌≢◌, ℕ, Bool, true, List, ◌++◌, Option, Some, None, Ok, All, refl, sym, ap, subst, ◌∙◌, inl, inr}
use Rattle.std.specs.FinMap as map
use Rattle.std.specs.List.{Contains}
use Rattle.std.proofs.lemmas.List.Elements.{All-weaker, All-contains_itself}
use Rattle.edge_traits.specs.FileLaws.{get-insert_same, get-insert_other}
use Rattle.edge_traits.specs.Files.{Files, file_at, with_file, HasFile}
use Rattle.flow_journal.specs.Pasts.{Past}
use Rattle.flow_journal.specs.declared.read.LogFault.TheVariants as text
use Rattle.flow_saver.specs.HistoryFiles.{HoldsFilesOf, IsFileOf}
use Rattle.data_check.specs.ComparedFiles.{ComparedFile, IsSame, compared_files}
use Rattle.data_check.specs.ComparedLaws.{ComparedAreOfHistory, IsOfHistory}
use Rattle.tool_commands.specs.Outcomes.{Leads}
use Rattle.tool_commands.specs.Works.{Source, sources}
use Rattle.tool_commands.specs.declared.status.Status.TheVariants.{Done, Usage, GraphText, GraphRule, StackBytes, Limit, Sizes, ReadFault, ShelfFault, OutFault}
use Rattle.tool_commands.specs.declared.status.Status.TheVariants.{OutOfMemory}
use Rattle.check_command.specs.CheckAnswers.{IsAnswer, CommandEnds, IsCheckCause}
use Rattle.check_command.specs.CheckCommand.{CheckCommand}
use Rattle.check_command.specs.CheckLaws.{OneAnswer}
use Rattle.check_command.specs.declared.status.CheckStatus.{CheckStatus}
use Rattle.check_command.specs.declared.status.CheckStatus.TheVariants.{Common, LongLog, LogBytes, LogRefused, FileDiffers}
use Rattle.replay_top.specs.CheckedRuns.{check_of, AreAmong, IsAccepted, ChecksAcceptRuns}
use Rattle.replay_top.specs.LogFiles.{log_name, log_text}
use Rattle.replay_top.specs.RunAnswers.{RunObjects, IsRunDone}
use Rattle.replay_top.specs.RunCommand.{RunCommand}
use Rattle.replay_top.specs.RunFiles.{HoldsFiles}
use Rattle.replay_top.proofs.FileNames.{log_is}

-- WHERE DONE IS RIGHT, each other answer is wrong

module _ (one : OneAnswer) (files : Files) (c : CheckCommand) (right : IsAnswer (Some files) c (Common Done)) (library library_now faults faults_now : ℕ) where
  same : (status : CheckStatus) → IsAnswer (Some files) c status → IsAccepted status library library_now faults faults_now
  same status is = inl (one files c status (Common Done) is right)

  accepted : (status : CheckStatus) (sink now : Option (List ℕ)) → CommandEnds status c (Some files) sink now
      → IsCheckCause status library library_now faults faults_now → IsAccepted status library library_now faults faults_now
  accepted (Common Done) sink now ends cause = inl refl
  accepted (Common OutOfMemory) sink now ends cause = inr (inl refl)
  accepted (Common OutFault) sink now ends cause = inr (inr (inl (refl, cause.1)))
  accepted (Common ReadFault) sink now ends cause = inr (inr (inr (refl, cause.0)))
  accepted (Common Usage) sink now ends cause = absurd ends
  accepted (Common GraphText) sink now ends cause = same (Common GraphText) ends.0
  accepted (Common (GraphRule fault)) sink now ends cause = same (Common (GraphRule fault)) ends.0
  accepted (Common (StackBytes fault)) sink now ends cause = same (Common (StackBytes fault)) ends.0
  accepted (Common (Limit fault)) sink now ends cause = same (Common (Limit fault)) ends.0
  accepted (Common Sizes) sink now ends cause = absurd ends
  accepted (Common ShelfFault) sink now ends cause = absurd ends
  accepted (LongLog bytes) sink now ends cause = same (LongLog bytes) ends.0
  accepted (LogBytes fault) sink now ends cause = same (LogBytes fault) ends.0
  accepted (LogRefused fault) sink now ends cause = same (LogRefused fault) ends.0
  accepted (FileDiffers d) sink now ends cause = same (FileDiffers d) ends.0

-- WHAT A RUN LEAVES

-- the shelf that got the log's text last
told_rows : (rows : Option Files) (held : Files) (name bytes : List ℕ) → Some held ≡ with_file rows name bytes
    → (r : Files) × (rows ≡ Some r) × (held ≡ map.insert r name bytes)
told_rows None held name bytes is = absurd (cc)
told_rows (Some r) held name bytes is = (r, refl, cc)

module _ (history : ComparedAreOfHistory) (source : Source) (prefix : List ℕ) (P : Past) (before : Option Files) (held files : Files)
    (among : AreAmong held files) (holds : HoldsFiles true source prefix P before (Some held)) where
  last : (r : Files) × (holds.0 ≡ Some r) × (held ≡ map.insert r (log_name prefix) (log_text P))
  last = told_rows holds.0 held (log_name prefix) (log_text P) holds.2

  pub log_file : HasFile (Some files) (log_name prefix) (log_text P)
  log_file =
      among (log_name prefix) (log_text P)
      (subst (λ (m : Files). map.get m (log_name prefix) ≡ Some (log_text P)) (sym last.2) (get-insert_same last.0 (log_name prefix) (log_text P)))

  one_file : (name bytes : List ℕ) → IsFileOf source.graph source.stack prefix P name bytes → name ≢ log_name prefix → HasFile (Some files) name bytes
  one_file name bytes is other =
      let rows : map.get last.0 name ≡ Some bytes =
      subst (λ (told : Option Files). HasFile told name bytes) last.1 (holds.1.each name bytes is) in
      among name bytes
      (subst (λ (m : Files). map.get m name ≡ Some bytes) (sym last.2) (get-insert_other last.0 (log_name prefix) (log_text P) name other ∙ rows))

  abbrev listed : List ComparedFile
  listed = compared_files source.graph source.stack prefix P

  pub all_files : All (IsSame (Some files)) (compared_files source.graph source.stack prefix P)
  all_files =
      All-weaker (Contains listed) (IsSame (Some files))
      (λ f here. let of : IsOfHistory source.graph source.stack prefix P f = history source.graph source.stack prefix P f here in
      one_file f.name f.bytes of.file (λ e. of.named (e ∙ sym (log_is prefix))))
      listed (All-contains_itself listed)

by_logs : (o : RunObjects) (c : RunCommand) (P : Past) (done : IsRunDone o c P) (held : Files) → c.logs ≡ true → o.objects.shelf_after ≡ Some held
    → HoldsFiles true done.source c.prefix P o.objects.shelf_before (Some held)
by_logs o c P done held logs is =
    subst (λ (now : Option Files). HoldsFiles true done.source c.prefix P o.objects.shelf_before now) is
    (subst (λ (b : Bool). HoldsFiles b done.source c.prefix P o.objects.shelf_before o.objects.shelf_after) logs done.files)

pub checks_accept : ComparedAreOfHistory → OneAnswer → ChecksAcceptRuns
checks_accept history one o c P done logs held files is among graph stack leads status sink now ends library library_now faults faults_now cause =
    let holds = by_logs o c P done held logs is in
    let before = o.objects.shelf_before in
    let right : IsAnswer (Some files) (check_of graph stack c.prefix) (Common Done) = (
      done.source,
      leads,
      (
        P,
        record {
          file = log_file history done.source c.prefix P before held files among holds;
          fits = holds.3.fits;
          within = holds.3.within;
        },
        record { run = done.log.run; files = all_files history done.source c.prefix P before held files among holds },
      ),
    ) in
    accepted one files (check_of graph stack c.prefix) right library library_now faults faults_now status sink now ends cause
