use Rattle.cdf_read.specs.FirstFaultLaws.{file}
use Rattle.cdf_read.proofs.header.faults_are_first.Goals as goal

pub returns : goal.returns
returns c = λ bytes fault. ((file bytes).to fault, (file bytes).from fault)
