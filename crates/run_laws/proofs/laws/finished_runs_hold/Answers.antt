use Rattle.run_laws.proofs.RunHolds.{run_holds}
use Rattle.run_laws.proofs.laws.finished_runs_hold.Goals as goal

pub returns : goal.returns
returns c = run_holds
