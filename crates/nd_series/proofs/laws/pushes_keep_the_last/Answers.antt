use Rattle.nd_series.proofs.Pushes.{rows_after_pushes}
use Rattle.nd_series.proofs.laws.pushes_keep_the_last.Goals as goal

pub returns : goal.returns
returns c = rows_after_pushes
