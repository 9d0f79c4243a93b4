use Rattle.std.proofs.Common.{◌+◌, ◌*◌}
use Rattle.nd_stats.proofs.chunks.+chunks.Given as goal

abbrev pub decreases-measure_by : goal.decreases-measure_by
decreases-measure_by g l = 2 * l.threads + 1

abbrev pub decreases-of_front : goal.decreases-of_front
decreases-of_front g l = 2 * l.threads
