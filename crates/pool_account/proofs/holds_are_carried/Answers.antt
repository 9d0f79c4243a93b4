use Rattle.pool_account.proofs.Laws.{hold_laws}
use Rattle.pool_account.proofs.holds_are_carried.Goals as goal

pub returns : goal.returns
returns c = hold_laws
