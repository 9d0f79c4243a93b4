use Rattle.pool_account.proofs.Laws.{array_laws}
use Rattle.pool_account.proofs.arrays_carry_blocks.Goals as goal

pub returns : goal.returns
returns c = array_laws
