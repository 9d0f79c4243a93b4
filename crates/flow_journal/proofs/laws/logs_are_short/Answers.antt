use Rattle.flow_journal.proofs.Lengths.{length_laws}
use Rattle.flow_journal.proofs.laws.logs_are_short.Goals as goal

pub returns : goal.returns
returns c = length_laws
