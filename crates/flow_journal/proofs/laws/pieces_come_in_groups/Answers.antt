use Rattle.flow_journal.proofs.Dues.{due_laws}
use Rattle.flow_journal.proofs.laws.pieces_come_in_groups.Goals as goal

pub returns : goal.returns
returns c = due_laws
