use Rattle.flow_journal.proofs.Leasts.{least_laws}
use Rattle.flow_journal.proofs.Looks.{look_laws}
use Rattle.flow_journal.proofs.SortLists.{sort_list_laws}
use Rattle.flow_journal.proofs.laws.least_goes_first.Goals as goal

pub returns-clause-order : goal.returns-clause-order
returns-clause-order c = least_laws

pub returns-clause-list : goal.returns-clause-list
returns-clause-list c = sort_list_laws

pub returns-clause-looks : goal.returns-clause-looks
returns-clause-looks c = look_laws
