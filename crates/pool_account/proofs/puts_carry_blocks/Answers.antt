use Rattle.pool_account.proofs.Laws.{put_laws}
use Rattle.pool_account.proofs.puts_carry_blocks.Goals as goal

pub returns : goal.returns
returns c = put_laws
