use Rattle.demo_laws.proofs.AmpleRuns.{ample-smooth}
use Rattle.demo_laws.proofs.laws.ample_runs_are_smooth.Goals as goal

pub returns : goal.returns
returns c = ample-smooth
