use Rattle.flow_journal.proofs.Outputs.{output_laws}
use Rattle.flow_journal.proofs.laws.nodes_emit_their_results.Goals as goal

pub returns : goal.returns
returns c = output_laws
