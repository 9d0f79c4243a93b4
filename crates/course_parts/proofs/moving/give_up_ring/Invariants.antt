use Rattle.std.proofs.Common.{◌≡◌, ◌++◌, [], length}
use Rattle.std.specs.VecDeque.{deque_capacity}
use Rattle.course_parts.proofs.moving.give_up_ring.Given as goal

abbrev pub invariant-loop-name : goal.invariant-loop-name
invariant-loop-name l = record {
  all : l.transit.items ++ l.window.ring ≡ l.initial.window.ring;
  none : l.window.pending ≡ [];
  room : deque_capacity l.transit ≡ deque_capacity l.initial.transit;
}

abbrev pub decreases-loop-name : goal.decreases-loop-name
decreases-loop-name l = length l.window.ring
