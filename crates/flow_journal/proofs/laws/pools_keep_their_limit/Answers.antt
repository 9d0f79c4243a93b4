use Rattle.flow_journal.proofs.Limits.{limit_laws}
use Rattle.flow_journal.proofs.laws.pools_keep_their_limit.Goals as goal

pub returns : goal.returns
returns c = limit_laws
