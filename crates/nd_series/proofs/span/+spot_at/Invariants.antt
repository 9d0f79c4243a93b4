use Rattle.std.proofs.Common.{length}
use Rattle.nd_series.proofs.span.+spot_at.Given as goal

abbrev pub decreases-spot_at : goal.decreases-spot_at
decreases-spot_at l = length l.dims.now
