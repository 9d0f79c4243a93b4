use Rattle.std.proofs.Common.{◌≡◌, length}
use Rattle.flow_emit.proofs.settling.release_all.Given as goal

abbrev pub invariant-loop-course : goal.invariant-loop-course
invariant-loop-course g l = l.course.told ≡ l.initial.course.told

abbrev pub decreases-loop-course : goal.decreases-loop-course
decreases-loop-course g l = length l.course.transit
