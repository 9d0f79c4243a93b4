use Rattle.std.proofs.Common.{refl, sym, ap, ◌∙◌}
use Rattle.std.specs.Option.{option_map}
use Rattle.replay_top.specs.RunWords.{run_told}
use Rattle.replay_top.proofs.DemoRuns.{RunEnds-steady}
use Rattle.replay_top.proofs.RunClaims.{RunEnds-read, RunEnds-refused, RunEnds-untouched, RunEnds-stopped, RunEnds-log, answered_run, decided_run}
use Rattle.tool_commands.specs.declared.status.Status.TheVariants.{Usage}
use Rattle.tool_commands.specs.Unread.{Asked}
use Rattle.tool_commands.proofs.Unread.{unread-is}
use Rattle.replay_top.proofs.run.run_top.Goals as goal

pub returns-in-Some-clause-holds : goal.returns-in-Some-clause-holds
returns-in-Some-clause-holds g c =
    rw (sym c.run_in.ensures.told ∙ ap (option_map run_told) c.in-Some.is)
    (RunEnds-log c.run_words.result.status c.run_words.result.log (run_told c.in-Some.words) _ c.run_words.ensures.ends)

pub returns-in-Some-clause-demo : goal.returns-in-Some-clause-demo
returns-in-Some-clause-demo g c =
    rw (sym c.run_in.ensures.told ∙ ap (option_map run_told) c.in-Some.is)
    (RunEnds-steady c.demos_are_whole.ensures.whole _ (run_told c.in-Some.words) (rw c.in-Some.is at c.run_in.ensures.sound)
    (rw c.in-Some.is at c.run_in.ensures.watched) c.run_words.result.status
    c.run_words.result.log c.run_words.ensures.ends)

pub returns-in-Some-clause-refused : goal.returns-in-Some-clause-refused
returns-in-Some-clause-refused g c =
    rw (sym c.run_in.ensures.told ∙ ap (option_map run_told) c.in-Some.is)
    (RunEnds-refused c.run_words.result.log (run_told c.in-Some.words) _ c.run_words.result.status c.run_words.ensures.ends)

pub returns-in-Some-clause-read_fault : goal.returns-in-Some-clause-read_fault
returns-in-Some-clause-read_fault g c =
    rw (sym c.run_in.ensures.told ∙ ap (option_map run_told) c.in-Some.is)
    (RunEnds-read c.run_words.result.log (run_told c.in-Some.words) _ c.run_words.result.status c.run_words.ensures.ends)

pub returns-in-Some-clause-untouched : goal.returns-in-Some-clause-untouched
returns-in-Some-clause-untouched g c =
    RunEnds-untouched c.run_words.result.log (run_told c.in-Some.words) _ c.run_words.result.status c.run_words.ensures.ends

pub returns-in-Some-clause-memory : goal.returns-in-Some-clause-memory
returns-in-Some-clause-memory g c =
    rw (sym c.run_in.ensures.told ∙ ap (option_map run_told) c.in-Some.is)
    (RunEnds-stopped c.run_words.result.log (run_told c.in-Some.words) _ c.run_words.result.status c.run_words.ensures.ends)

pub returns-in-Some-clause-complete : goal.returns-in-Some-clause-complete
returns-in-Some-clause-complete g c =
    rw (sym c.run_in.ensures.told ∙ ap (option_map run_told) c.in-Some.is)
    (answered_run c.run_words.result.status c.run_words.result.log
    (run_told c.in-Some.words) _ _ _ c.run_words.ensures.ends c.run_words.ensures.cause)

pub returns-in-Some-clause-unread : goal.returns-in-Some-clause-unread
returns-in-Some-clause-unread g c =
    rw (sym c.run_in.ensures.told ∙ ap (option_map run_told) c.in-Some.is) (unread-is _ c.run_words.result.status c.run_words.ensures.unread)

pub returns-in-Some-clause-decides : goal.returns-in-Some-clause-decides
returns-in-Some-clause-decides g c =
    rw (sym c.run_in.ensures.told ∙ ap (option_map run_told) c.in-Some.is)
    (decided_run c.run_words.result.status c.run_words.result.log (run_told c.in-Some.words) _ _ _ c.run_words.ensures.ends c.run_words.ensures.unread)

pub returns-in-None-clause-decides : goal.returns-in-None-clause-decides
returns-in-None-clause-decides g c =
    rw (c.unfinished.ensures.status, sym c.run_in.ensures.told ∙ ap (option_map run_told) c.in-None.is) (Asked Usage refl)
