use Rattle.std.proofs.Common.{◌++◌, refl, ap, sym}
use Rattle.run_report.specs.Report.{report}
use Rattle.run_report.specs.Text.{report_text}
use Rattle.replay_top.specs.LogFiles.{log_files}
use Rattle.replay_top.specs.RunWords.{run_told}
use Rattle.replay_top.proofs.MeasuredRows.{measured-rows, length-measured}
use Rattle.replay_top.proofs.RunStops.{RunEnds-unread, RunEnds-wanted, RunEnds-wanted_later, RunEnds-rest, IsRunCause-rest, rest-unread}
use Rattle.replay_top.proofs.run.run_words.Goals as goal

pub returns-in-Err-clause-ends : goal.returns-in-Err-clause-ends
returns-in-Err-clause-ends g c =
    rw (c.unfinished.ensures.status, c.unfinished.ensures.log) (RunEnds-unread c.in-Err.status (run_told c.args.words) _ _ _ c.in-Err.ensures.err
    c.in-Err.ensures.read_fault (refl, refl, refl))

pub returns-in-Err-clause-unread : goal.returns-in-Err-clause-unread
returns-in-Err-clause-unread g c = rw c.unfinished.ensures.status c.in-Err.ensures.unread

pub returns-in_default-clause-ends : goal.returns-in_default-clause-ends
returns-in_default-clause-ends g c =
    rw (c.unfinished-in_default.ensures.status, c.unfinished-in_default.ensures.log) (RunEnds-wanted (run_told c.args.words) _ c.in-Ok.loaded.0.graph c.in-Ok.loaded.1
    c.in-Ok.ensures.read c.run_plan.ensures.elsewhere refl)

pub returns-in-OutOfMemory-clause-ends : goal.returns-in-OutOfMemory-clause-ends
returns-in-OutOfMemory-clause-ends g c =
    let run = c.in-Ok-run_plan.ended.run in
    rw (c.unfinished-in-OutOfMemory.ensures.status, c.unfinished-in-OutOfMemory.ensures.log) (RunEnds-wanted_later (run_told c.args.words) _ c.in-Ok.loaded.0.graph c.in-Ok.loaded.1
    c.in-Ok.ensures.read c.status_of.result run.fault run.measures run.log.past _ (g.K.Shelf.held c.run_plan.new.shelf) c.in-OutOfMemory.is
    c.run_plan.ensures.elsewhere (rw (sym c.status_of.ensures) at c.finish.ensures.ends))

pub finish-requires-clause-measures : goal.finish-requires-clause-measures
finish-requires-clause-measures g c =
    length-measured c.in-Ok.loaded.0.graph c.in-Ok.loaded.1 c.in-Ok-run_plan.ended.run.log.past
    c.in-Ok-run_plan.ended.run.measures c.in-Ok-run_plan.ensures.run.1.measures

pub returns : goal.returns
returns g c =
    let graph = c.in-Ok.loaded.0.graph in
    let stack = c.in-Ok.loaded.1 in
    let ended = c.in-Ok-run_plan.ended in
    let history = ended.run in
    let P = history.log.past in
    let h = c.in-Ok-run_plan.ensures.run.1 in
    let words = run_told c.args.words in
    record {
      ends =
          RunEnds-rest c.rows_complete_the_files.ensures c.groups_read_back.ensures c.finished_runs_hold.ensures
          c.log_texts_are_short.ensures words _ graph stack
          history.log (g.K.Shelf.held c.run_plan.new.shelf) c.in-Ok.ensures.read h.finished h.roles h.ticks h.storage c.status_of.result history.fault _ _ _ (h.files words.prefix refl) c.in_default-status_of.not-OutOfMemory
          (ap (λ fs. fs ++ log_files words.logs words.prefix P) (measured-rows graph stack words.prefix P history.measures h.measures))
          (ap (λ p. report_text graph (report p P)) c.in-Ok.ensures.plan) c.in-Ok-run_plan.ensures.seen
          (rw (sym c.status_of.ensures) at c.finish.ensures.fits) (rw (sym c.status_of.ensures) at c.finish.ensures.ends);
      cause =
          rw c.in-Ok.ensures.stays
          (IsRunCause-rest c.status_of.result history.fault _ _ _ _ _ _ _ _
          (g.K.Shelf.faults c.run_plan.new.shelf) _ _ _ (rw (sym c.status_of.ensures) at c.finish.ensures.ends) h.fault
          (rw (sym c.status_of.ensures) at c.finish.ensures.cause));
      unread = rest-unread _ c.status_of.result history.fault _ _ _ _ _ _ (rw (sym c.status_of.ensures) at c.finish.ensures.ends);
      library = c.in-Ok.ensures.files;
      finished = rw (sym c.status_of.ensures) at c.finish.ensures.finished;
    }
