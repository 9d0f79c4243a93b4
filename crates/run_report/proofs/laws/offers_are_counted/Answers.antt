use Rattle.run_report.proofs.Offers.{counts-offers, counts-frames}
use Rattle.run_report.proofs.laws.offers_are_counted.Goals as goal

pub returns : goal.returns
returns c = record { nodes = counts-offers; driver = counts-frames }
