use Rattle.run_laws.proofs.PlainRuns.{is_plain}
use Rattle.run_laws.proofs.laws.smooth_runs_are_plain.Goals as goal

pub returns : goal.returns
returns c g makers stack P v n sound rule whole apart smooth = is_plain g makers stack P sound whole apart smooth v n rule
