use Rattle.pool_account.proofs.Laws.{grant_laws}
use Rattle.pool_account.proofs.grants_go_by_the_past.Goals as goal

pub returns : goal.returns
returns c = grant_laws
