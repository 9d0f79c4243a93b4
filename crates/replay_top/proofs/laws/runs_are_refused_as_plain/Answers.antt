use Rattle.replay_top.proofs.RunLaws.{run_refused, run_asked}
use Rattle.replay_top.proofs.laws.runs_are_refused_as_plain.Goals as goal

pub returns-clause-refusals : goal.returns-clause-refusals
returns-clause-refusals c = run_refused

pub returns-clause-asked : goal.returns-clause-asked
returns-clause-asked c = run_asked
