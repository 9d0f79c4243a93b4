use Rattle.data_check.proofs.Compared.{compared-are, history-is}
use Rattle.data_check.proofs.laws.history_is_compared.Goals as goal

pub returns : goal.returns
returns c = record { compared = compared-are; all = history-is }
