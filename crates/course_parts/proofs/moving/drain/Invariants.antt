use Rattle.std.proofs.Common.{◌≡◌, ◌++◌, length}
use Rattle.std.specs.VecDeque.{deque_capacity}
use Rattle.course_parts.proofs.moving.drain.Given as goal

abbrev pub invariant-loop-name : goal.invariant-loop-name
invariant-loop-name l =
    (l.window ≡ record l.initial.window { pending = l.window.pending })
    × (l.transit.items ++ l.window.pending ≡ l.initial.transit.items ++ l.initial.window.pending)
    × (deque_capacity l.transit ≡ deque_capacity l.initial.transit)

abbrev pub decreases-loop-name : goal.decreases-loop-name
decreases-loop-name l = length l.window.pending
