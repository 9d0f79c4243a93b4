use Rattle.flow_journal.proofs.Rows.{test_laws, row_laws}
use Rattle.flow_journal.proofs.laws.moves_begin_by_rows.Goals as goal

pub returns-clause-tests : goal.returns-clause-tests
returns-clause-tests c = test_laws

pub returns-clause-rows : goal.returns-clause-rows
returns-clause-rows c = row_laws
