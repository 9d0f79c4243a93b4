-- A demo run whose ticks are near to each other prints the same at each run.
use Rattle.std.proofs.Common.{◌≡◌, ℕ, Bool, true, false, List, [], ◌∷◌, ◌++◌, length, Option, None, Some, Ok, Result, refl, sym, ap, subst, ◌∙◌}
use Rattle.std.specs.Prelude.{filter}
use Rattle.std.specs.List.{list_any, count_by}
use Rattle.std.proofs.lemmas.Bool.{or_parts, not-true}
use Rattle.std.proofs.lemmas.List.Sums.{length-filter}
use Rattle.edge_traits.specs.Files.{Files}
use Rattle.edge_traits.specs.Written.{with_written}
use Rattle.flow_journal.specs.Journal.{Journal}
use Rattle.flow_journal.specs.EntryTests.{says_regrown}
use Rattle.flow_journal.specs.Pasts.{Past}
use Rattle.board_rules.specs.RunMeasures.{run_setting}
use Rattle.board_rules.specs.Storage.{is_never_regrown}
use Rattle.run_laws.specs.Results.{IsFinishedRun}
use Rattle.run_report.specs.Text.{report_text}
use Rattle.demo_laws.specs.Demo.{demo_graph, demo_stack}
use Rattle.demo_laws.specs.DemoLaws.{DemosAreWhole}
use Rattle.demo_laws.specs.Reports.{whole_counters}
use Rattle.tool_commands.specs.declared.status.Status.{Status}
use Rattle.tool_commands.specs.declared.status.Status.TheVariants.{Done}
use Rattle.tool_commands.specs.Outcomes.{Leads}
use Rattle.tool_commands.specs.Works.{Source}
use Rattle.replay_top.specs.DemoRuns.{IsDemoSteady}
use Rattle.replay_top.specs.RunAnswers.{RunObjects, OfLog, IsRunDone, Prints, RunEnds, run_print}
use Rattle.replay_top.specs.RunCommand.{RunCommand, RunSource, Demo, IsInRange, IsRead, IsReadWhereWatched}
use Rattle.replay_top.specs.RunSources.{run_sources}

-- the demo run leads to itself alone
made : (told : Option Files) (from : RunSource) (frames : ℕ) (source : Source) → from ≡ Demo frames → Leads told (run_sources from) (Ok source)
    → source ≡ record { graph = demo_graph frames; stack = demo_stack frames }
made told from frames source is read =
    let same : ◌≡◌ {A = Result Source Status} (Ok source) (Ok (record { graph = demo_graph frames; stack = demo_stack frames })) =
    subst (λ (f : RunSource). Leads told (run_sources f) (Ok source)) is read in
    cc

-- what no grant says isn't counted
never-counted : (P : Past) → is_never_regrown P ≡ true → count_by says_regrown P ≡ 0
never-counted P h = sym (length-filter says_regrown P) ∙ ap (λ (es : Past). length es) (none P (not-true (list_any says_regrown P) h))
  where
    none : (P : Past) → list_any says_regrown P ≡ false → filter says_regrown P ≡ []
    none [] h = refl
    none (e ∷ P) h = let both = or_parts (says_regrown e) (list_any says_regrown P) h in rw both.0 (none P both.1)

-- it isn't watched, so the report is all that it prints
report-alone : (watched : Bool) (from : RunSource) (frames : ℕ) (source : Source) (P : Past) (text : List ℕ) → from ≡ Demo frames
    → (watched ≡ true → IsRead from) → Prints watched source P text → text ≡ run_print source P
report-alone true from frames source P text is read prints = absurd (subst IsRead is (read refl))
report-alone false from frames source P text is read prints = prints.whole ∙ ap (λ (seen : List ℕ). seen ++ run_print source P) prints.before

module _ (whole : DemosAreWhole) (o : RunObjects) (c : RunCommand) (range : IsInRange c.source) (read : IsReadWhereWatched c) where
  steady : (P : Past) → IsRunDone o c P → IsDemoSteady o.objects.sink_before o.objects.sink_after c P
  steady P done frames is ticks =
      let ours = made o.objects.library c.source frames done.source is done.log.read in
      let within : IsInRange (Demo frames) = subst IsInRange is range in
      let run : IsFinishedRun (run_setting (demo_graph frames) (demo_stack frames)) P =
      subst (λ (s : Source). IsFinishedRun (run_setting s.graph s.stack) P) ours done.log.run in
      let w = whole frames P within.0 within.1 run ticks in
      record {
        smooth = w.smooth;
        printed = done.printed ∙ ap (with_written o.objects.sink_before) (report-alone c.watched c.source frames done.source P done.text is read done.prints
            ∙ (ap (λ (s : Source). run_print s P) ours
            ∙ ap (report_text (demo_graph frames))
            (w.counts ∙ ap (λ (n : ℕ). whole_counters frames n (demo_graph frames)) (never-counted P done.log.storage))));
      }

  done-steady : (log : Option Journal) → OfLog (IsRunDone o) (Some c) log → OfLog (IsDemoSteady o.objects.sink_before o.objects.sink_after) (Some c) log
  done-steady None ends = ends
  done-steady (Some log) ends = steady log.past ends

  -- how a run ends that is done
  pub RunEnds-steady : (s : Status) (log : Option Journal) → RunEnds s log (Some c) o → s ≡ Done
      → OfLog (IsDemoSteady o.objects.sink_before o.objects.sink_after) (Some c) log
  RunEnds-steady s log ends is = done-steady log (subst (λ (t : Status). RunEnds t log (Some c) o) is ends)
