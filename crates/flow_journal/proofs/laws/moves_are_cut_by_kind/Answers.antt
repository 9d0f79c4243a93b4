use Rattle.flow_journal.proofs.Goings.{move_laws, logs_go_on}
use Rattle.flow_journal.proofs.laws.moves_are_cut_by_kind.Goals as goal

pub returns-clause-moves : goal.returns-clause-moves
returns-clause-moves c = move_laws

pub returns-clause-goes_on : goal.returns-clause-goes_on
returns-clause-goes_on c = logs_go_on
