use Rattle.pool_account.proofs.Laws.{tell_laws}
use Rattle.pool_account.proofs.ledgers_tell_the_past.Goals as goal

pub returns : goal.returns
returns c = tell_laws
