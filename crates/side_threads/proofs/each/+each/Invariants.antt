use Rattle.std.proofs.Common.{length, ◌+◌, ◌*◌}
use Rattle.side_threads.proofs.each.+each.Given as goal

abbrev pub decreases-each_beside : goal.decreases-each_beside
decreases-each_beside g l = 4 * length l.xs.now

abbrev pub decreases-one_beside-others : goal.decreases-one_beside-others
decreases-one_beside-others g l = 4 * length l.rest.now + 1

abbrev pub decreases-one_beside : goal.decreases-one_beside
decreases-one_beside g l = 4 * length l.rest.now + 2
