use Rattle.flow_drain.proofs.EndLaws.{end_laws}
use Rattle.flow_drain.proofs.laws.ended_nodes_are_empty.Goals as goal

pub returns : goal.returns
returns c = end_laws
