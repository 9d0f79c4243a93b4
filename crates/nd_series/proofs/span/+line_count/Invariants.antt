use Rattle.std.proofs.Common.{length}
use Rattle.nd_series.proofs.span.+line_count.Given as goal

abbrev pub decreases-line_count : goal.decreases-line_count
decreases-line_count l = length l.dims.now
