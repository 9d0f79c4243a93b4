use Rattle.demo_laws.proofs.Reports.{report-whole}
use Rattle.demo_laws.proofs.laws.ample_reports_are_whole.Goals as goal

pub returns : goal.returns
returns c = report-whole
