-- Where a stage of a run stopped, the run ends so.
use Rattle.std.proofs.Common.{◌≡◌, ◌≢◌, ℕ, Bool, true, false, List, ◌++◌, length, reverse, All, Option, None, Some, Ok, Err, refl, ap, sym, subst, ◌∙◌}
use Rattle.std.proofs.Common.{inl, inr}
use Rattle.std.specs.Prelude.{Result, OnOk, IfErr}
use Rattle.std.proofs.lemmas.Bool.{and_parts}
use Rattle.std.proofs.lemmas.List.{append-nil}
use Rattle.nd_base.specs.Array.{StackValue}
use Rattle.nd_base.specs.declared.graph.Graph.{Graph}
use Rattle.nd_base.specs.declared.measure.Measure.{Measure}
use Rattle.chain_plain.specs.Plans.{makers_of}
use Rattle.edge_traits.specs.Faults.{Rose}
use Rattle.edge_traits.specs.Files.{Files}
use Rattle.edge_traits.specs.Written.{with_written}
use Rattle.flow_journal.specs.Following.{owed}
use Rattle.flow_journal.specs.Histories.{is_legal, is_nothing}
use Rattle.flow_journal.specs.Journal.{Journal}
use Rattle.flow_journal.specs.Pasts.{Past}
use Rattle.flow_journal.specs.TextFaults.{Fits}
use Rattle.log_lengths.specs.TextLengths.{LogTextsAreShort}
use Rattle.board_rules.specs.RunMeasures.{run_setting}
use Rattle.board_rules.specs.Storage.{is_never_regrown}
use Rattle.run_laws.specs.Results.{IsFinishedRun}
use Rattle.run_laws.specs.RunHolds.{FinishedRunsHold}
use Rattle.plain_saver.proofs.KeptStacks.{IsKeptStack-IsStack}
use Rattle.graph_files.specs.BegunLaws.{with_files-append}
use Rattle.graph_files.specs.OutFiles.{OutFile, with_files}
use Rattle.flow_saver.specs.ReadBack.{GroupsReadBack}
use Rattle.flow_saver.specs.HistoryFiles.{HoldsFilesOf, HoldsGroupsOf, RowsComplete, rows_files}
use Rattle.flow_saver.specs.KeptNames.{IsGroupName, AreKeptBut}
use Rattle.flow_saver.specs.Saver.{CountsSo}
use Rattle.flow_run.specs.RunFiles.{HasSavedRun}
use Rattle.flow_run.specs.Strangers.{AreOwnMoves}
use Rattle.flow_run.specs.Ticks.{IsFedByTheClock}
use Rattle.tool_commands.specs.declared.status.Status.{Status}
use Rattle.tool_commands.specs.declared.status.Status.TheVariants.{Done, Usage, GraphText, GraphRule, StackBytes, Limit, Sizes, ReadFault, ShelfFault, OutFault}
use Rattle.tool_commands.specs.declared.status.Status.TheVariants.{OutOfMemory}
use Rattle.tool_commands.specs.Outcomes.{Leads}
use Rattle.replay_top.specs.RunAnswers.{RunObjects, IsLogOf, RunEnds, IsRunCause, IsRunUntouched, IsSeen, Prints, run_print}
use Rattle.replay_top.specs.RunCommand.{RunCommand, IsRead}
use Rattle.replay_top.specs.MeasuredFiles.{measured_files}
use Rattle.replay_top.specs.RunFiles.{IsRunName, later_files, HoldsFiles, HaveGroupsBack, AtGroups, AfterGroups}
use Rattle.replay_top.specs.LogFiles.{log_files, IsReadable}
use Rattle.replay_top.specs.RunSources.{run_sources, IsSourceRead}
use Rattle.replay_top.specs.RunStages.{LaterStops, RestEnds, RestCause}
use Rattle.tool_commands.specs.Answers.{status_of}
use Rattle.tool_commands.specs.Stages.{ReadStops, PrintStops, WritesAll}
use Rattle.tool_commands.specs.Unread.{IfUnread}
use Rattle.tool_commands.specs.Works.{Source}
use Rattle.tool_commands.proofs.Unread.{no-fault}
use Rattle.replay_top.proofs.KeptRuns.{begun-all, groups-named, later-kept}

-- READING

-- what there is to run wasn't read
pub RunEnds-unread : (status : Status) (c : RunCommand) (o : RunObjects) (before now : ℕ)
    → ReadStops (λ s. Leads o.objects.library (run_sources c.source) (Err s)) status before now → (status ≡ ReadFault → IsRead c.source) → IsRunUntouched o
    → RunEnds status None (Some c) o
RunEnds-unread GraphText c o before now stops read still = (refl, (stops.0, still))
RunEnds-unread (GraphRule f) c o before now stops read still = (refl, (stops.0, still))
RunEnds-unread (StackBytes f) c o before now stops read still = (refl, (stops.0, still))
RunEnds-unread (Limit f) c o before now stops read still = (refl, (stops.0, still))
RunEnds-unread Sizes c o before now stops read still = (refl, (stops.0, still))
RunEnds-unread ReadFault c o before now stops read still = (refl, read refl, still)
RunEnds-unread OutOfMemory c o before now stops read still = (refl, inl still)
RunEnds-unread Done c o before now stops read still = absurd stops
RunEnds-unread Usage c o before now stops read still = absurd stops
RunEnds-unread ShelfFault c o before now stops read still = absurd stops
RunEnds-unread OutFault c o before now stops read still = absurd stops

-- what comes after it is no fault of the library
pub rest-unread : (P : Type 0) (status : Status) (fault : Bool) (files : List OutFile) (print : List ℕ) (held now : Option Files)
    (before after : Option (List ℕ)) → RestEnds status fault files print held now before after → IfUnread status P
rest-unread P status fault files print held now before after ends =
    no-fault P status (λ is. subst (λ (x : Status). RestEnds x fault files print held now before after) is ends)

-- WANT OF MEMORY

module _ (c : RunCommand) (o : RunObjects) (g : Graph) (stack : StackValue)
    (read : IsSourceRead o.objects.library c.source (record { graph = g; stack = stack })) where
  wanted : AreKeptBut (IsRunName c g) o.objects.shelf_before o.objects.shelf_after → o.objects.sink_after ≡ o.objects.sink_before
      → RunEnds OutOfMemory None (Some c) o
  wanted kept same = (refl, inr (record { source = record { graph = g; stack = stack }; read = read.read; files = kept; unprinted = same }))

  -- while the run went on
  pub RunEnds-wanted : AreKeptBut (IsGroupName g c.prefix) o.objects.shelf_before o.objects.shelf_after → o.objects.sink_after ≡ o.objects.sink_before
      → RunEnds OutOfMemory None (Some c) o
  RunEnds-wanted kept same = wanted (groups-named c g o.objects.shelf_before o.objects.shelf_after kept) same

  -- and after it
  pub RunEnds-wanted_later : (status : Status) (fault : Bool) (ms : List (List Measure)) (P : Past) (print : List ℕ) (mid : Option Files)
      → status ≡ OutOfMemory → AreKeptBut (IsGroupName g c.prefix) o.objects.shelf_before mid
      → RestEnds status fault (measured_files c.prefix g.nodes ms ++ log_files c.logs c.prefix P) print mid o.objects.shelf_after
      o.objects.sink_before o.objects.sink_after
      → RunEnds OutOfMemory None (Some c) o
  RunEnds-wanted_later status fault ms P print mid is kept ends =
      let rest : RestEnds OutOfMemory fault (measured_files c.prefix g.nodes ms ++ log_files c.logs c.prefix P) print mid o.objects.shelf_after
      o.objects.sink_before o.objects.sink_after =
      subst (λ (s : Status). RestEnds s fault (measured_files c.prefix g.nodes ms ++ log_files c.logs c.prefix P) print mid o.objects.shelf_after
      o.objects.sink_before o.objects.sink_after) is ends in
      wanted (later-kept c g o.objects.shelf_before mid o.objects.shelf_after ms P kept rest.1) rest.2

-- THE LAST STAGE

-- all of these files were written, and the shelf failed then
pub LaterStops-last : {X : Type 0} (r : Result X Status) (held now : Option Files) (files : List OutFile) (before after : ℕ) → now ≡ with_files held files
    → IfErr r (λ s. (s ≡ ShelfFault) × Rose before after) → IfErr r (λ s. LaterStops s held files now before after)
LaterStops-last (Ok x) held now files before after all fails = tt
LaterStops-last (Err s) held now files before after all fails =
    subst (λ (x : Status). LaterStops x held files now before after) (sym fails.0) (begun-all held now files all, fails.1)

module _ (files : List OutFile) (print : List ℕ) (held now : Option Files) (written out : Option (List ℕ)) where
  print-stops : (s : Status) (fault : Bool) (before after : ℕ) → fault ≡ false → now ≡ with_files held files → PrintStops s written print out before after
      → RestEnds s fault files print held now written out
  print-stops OutFault fault before after is all stops = (is, all, stops.0)
  print-stops OutOfMemory fault before after is all stops = (is, begun-all held now files all, stops.0)
  print-stops Done fault before after is all stops = absurd stops
  print-stops Usage fault before after is all stops = absurd stops
  print-stops GraphText fault before after is all stops = absurd stops
  print-stops (GraphRule f) fault before after is all stops = absurd stops
  print-stops (StackBytes f) fault before after is all stops = absurd stops
  print-stops (Limit f) fault before after is all stops = absurd stops
  print-stops Sizes fault before after is all stops = absurd stops
  print-stops ReadFault fault before after is all stops = absurd stops
  print-stops ShelfFault fault before after is all stops = absurd stops

  -- once the rows and the log's text were written
  pub RestEnds-print : {X : Type 0} (r : Result X Status) (fault : Bool) (before after : ℕ) → fault ≡ false → now ≡ with_files held files
      → OnOk r (out ≡ with_written written print) → IfErr r (λ s. PrintStops s written print out before after)
      → RestEnds (status_of r) fault files print held now written out
  RestEnds-print (Ok x) fault before after is all ok err = (is, all, ok)
  RestEnds-print (Err s) fault before after is all ok err = print-stops s fault before after is all err

-- AFTER THE RUN

module _ (g : Graph) (stack : StackValue) (prefix : List ℕ) (P : Past) (held mid now : Option Files) where
  abbrev rows : Option Files
  rows = with_files mid (rows_files g stack prefix P)

  holds-by : (logs : Bool) → HoldsFilesOf g stack prefix P held rows → now ≡ with_files mid (rows_files g stack prefix P ++ log_files logs prefix P)
      → (logs ≡ true → IsReadable P) → HoldsFiles logs (record { graph = g; stack = stack }) prefix P held now
  holds-by false holds is text =
      let same : rows ≡ now = ap (with_files mid) (sym (append-nil (rows_files g stack prefix P))) ∙ sym is in
      subst (λ (w : Option Files). HoldsFilesOf g stack prefix P held w) same holds
  holds-by true holds is text = (rows, holds, is ∙ with_files-append mid (rows_files g stack prefix P) (log_files true prefix P), text refl)

module _ (complete : RowsComplete) (reads : GroupsReadBack) (points : FinishedRunsHold) (short : LogTextsAreShort) (c : RunCommand) (o : RunObjects) (g : Graph)
    (stack : StackValue) (log : Journal) (mid : Option Files) (read : IsSourceRead o.objects.library c.source (record { graph = g; stack = stack }))
    (run : IsFinishedRun (run_setting g stack) log.past) (roles : AreOwnMoves (run_setting g stack) log.past)
    (ticks : IsFedByTheClock (run_setting g stack) log.past o.coming o.later) (storage : is_never_regrown log.past ≡ true) where
  abbrev held : Option Files
  held = o.objects.shelf_before

  abbrev now : Option Files
  now = o.objects.shelf_after

  abbrev written : Option (List ℕ)
  written = o.objects.sink_before

  abbrev out : Option (List ℕ)
  out = o.objects.sink_after

  abbrev source : Source
  source = record { graph = g; stack = stack }

  is_log : IsLogOf o c source log.past
  is_log =
      record {
        read = read.read;
        sound = read.sound;
        within = read.within;
        run = run;
        roles = roles;
        ticks = ticks;
        storage = storage;
        points = points g (makers_of g.nodes stack.shape) stack log.past read.sound run;
      }

  back : HaveGroupsBack source log.past
  back v i n r at kind some = reads g stack log.past v i n r read.sound read.kept read.within run.legal at kind some

  readable : All Fits (reverse log.past) → IsReadable log.past
  readable fits =
      let legal = and_parts (is_legal (run_setting g stack) log.past) (is_nothing (owed (run_setting g stack) log.past)) run.legal in
      let sound = IsKeptStack-IsStack stack read.kept in
      record { fits = fits; within = short g (makers_of g.nodes stack.shape) stack log.past read.sound sound read.within legal.0 fits }

  holds : HoldsGroupsOf g stack c.prefix log.past held mid → now ≡ with_files mid (later_files c source log.past)
      → (c.logs ≡ true → All Fits (reverse log.past)) → HoldsFiles c.logs source c.prefix log.past held now
  holds groups is fits =
      holds-by g stack c.prefix log.past held mid now c.logs (complete g stack c.prefix log.past held mid read.sound groups) is
      (λ logs. readable (fits logs))

  -- what was left to write and to print, where the log is kept
  ends : (status : Status) (fault : Bool) (text : List ℕ) → HasSavedRun g stack c.prefix log.past held fault mid → status ≢ OutOfMemory
      → (fault ≡ false → Prints c.watched source log.past text) → (WritesAll status → c.logs ≡ true → All Fits (reverse log.past))
      → RestEnds status fault (later_files c source log.past) text mid now written out → RunEnds status (Some log) (Some c) o
  ends Done true text groups some prints fits rest = absurd (let no : true ≡ false = rest.0 in cc)
  ends Done false text groups some prints fits rest =
      record { source = source; log = is_log; files = holds groups rest.1 (fits tt); back = back; text = text; prints = prints refl; printed = rest.2 }
  ends ShelfFault true text groups some prints fits rest =
      record {
        source = source;
        log = is_log;
        files = AtGroups (subst (λ (w : Option Files). HasSavedRun g stack c.prefix log.past held true w) (sym rest.0) groups);
        unprinted = rest.1;
      }
  ends ShelfFault false text groups some prints fits rest = record { source = source; log = is_log; files = AfterGroups mid groups rest.0; unprinted = rest.1 }
  ends OutFault true text groups some prints fits rest = absurd (let no : true ≡ false = rest.0 in cc)
  ends OutFault false text groups some prints fits rest =
      record { source = source; log = is_log; files = holds groups rest.1 (fits tt); back = back; text = text; prints = prints refl; printed = rest.2 }
  ends OutOfMemory fault text groups some prints fits rest = absurd (some refl)
  ends Usage fault text groups some prints fits rest = absurd rest
  ends GraphText fault text groups some prints fits rest = absurd rest
  ends (GraphRule f) fault text groups some prints fits rest = absurd rest
  ends (StackBytes f) fault text groups some prints fits rest = absurd rest
  ends (Limit f) fault text groups some prints fits rest = absurd rest
  ends Sizes fault text groups some prints fits rest = absurd rest
  ends ReadFault fault text groups some prints fits rest = absurd rest

  -- the same by what the nodes measured and what the plan says
  pub RunEnds-rest : (status : Status) (fault : Bool) (files : List OutFile) (seen print : List ℕ)
      → HasSavedRun g stack c.prefix log.past held fault mid → status ≢ OutOfMemory
      → files ≡ later_files c source log.past → print ≡ run_print source log.past
      → (fault ≡ false → IsSeen c.watched (run_setting g stack) log.past seen) → (WritesAll status → c.logs ≡ true → All Fits (reverse log.past))
      → RestEnds status fault files (seen ++ print) mid now written out
      → RunEnds status (Some log) (Some c) o
  RunEnds-rest status fault files seen print groups some same_files same_print before fits rest =
      ends status fault (seen ++ print) groups some (λ none. record { seen = seen; before = before none; whole = ap (λ t. seen ++ t) same_print }) fits
      (subst (λ (fs : List OutFile). RestEnds status fault fs (seen ++ print) mid now written out) same_files rest)

-- the counts
rose : (before mid now : ℕ) → mid ≡ before → Rose mid now → Rose before now
rose before mid now same up = subst (λ (n : ℕ). Rose n now) same up

pub IsRunCause-rest : (status : Status) (fault : Bool) (files : List OutFile) (print : List ℕ) (held_mid held_now : Option Files)
    (written out : Option (List ℕ)) (library shelf mid shelf_now sink sink_now : ℕ)
    → RestEnds status fault files print held_mid held_now written out → CountsSo fault shelf mid → RestCause status fault mid shelf_now sink sink_now
    → IsRunCause status (record { library = library; shelf = shelf; sink = sink }) (record { library = library; shelf = shelf_now; sink = sink_now })
IsRunCause-rest Done true files print held_mid held_now written out library shelf mid shelf_now sink sink_now rest counts cause =
    absurd (let no : true ≡ false = rest.0 in cc)
IsRunCause-rest Done false files print held_mid held_now written out library shelf mid shelf_now sink sink_now rest counts cause =
    ap (λ (n : ℕ). record { library = library; shelf = n; sink = sink_now }) (cause.0 ∙ counts)
    ∙ ap (λ (n : ℕ). record { library = library; shelf = shelf; sink = n }) cause.1
IsRunCause-rest ShelfFault true files print held_mid held_now written out library shelf mid shelf_now sink sink_now rest counts cause =
    (refl, subst (λ (n : ℕ). Rose shelf n) (sym cause.0) counts, cause.1)
IsRunCause-rest ShelfFault false files print held_mid held_now written out library shelf mid shelf_now sink sink_now rest counts cause =
    (refl, rose shelf mid shelf_now counts cause.0, cause.1)
IsRunCause-rest OutFault true files print held_mid held_now written out library shelf mid shelf_now sink sink_now rest counts cause =
    absurd (let no : true ≡ false = rest.0 in cc)
IsRunCause-rest OutFault false files print held_mid held_now written out library shelf mid shelf_now sink sink_now rest counts cause =
    (refl, cause.0 ∙ counts, cause.1)
IsRunCause-rest OutOfMemory fault files print held_mid held_now written out library shelf mid shelf_now sink sink_now rest counts cause = (refl, cause)
IsRunCause-rest Usage fault files print held_mid held_now written out library shelf mid shelf_now sink sink_now rest counts cause = absurd rest
IsRunCause-rest GraphText fault files print held_mid held_now written out library shelf mid shelf_now sink sink_now rest counts cause = absurd rest
IsRunCause-rest (GraphRule f) fault files print held_mid held_now written out library shelf mid shelf_now sink sink_now rest counts cause = absurd rest
IsRunCause-rest (StackBytes f) fault files print held_mid held_now written out library shelf mid shelf_now sink sink_now rest counts cause = absurd rest
IsRunCause-rest (Limit f) fault files print held_mid held_now written out library shelf mid shelf_now sink sink_now rest counts cause = absurd rest
IsRunCause-rest Sizes fault files print held_mid held_now written out library shelf mid shelf_now sink sink_now rest counts cause = absurd rest
IsRunCause-rest ReadFault fault files print held_mid held_now written out library shelf mid shelf_now sink sink_now rest counts cause = absurd rest
