use Rattle.run_report.proofs.Offers.{counts-run}
use Rattle.run_report.proofs.laws.counts_are_of_runs.Goals as goal

pub returns : goal.returns
returns c = counts-run
