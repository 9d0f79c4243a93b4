use Rattle.std.proofs.Common.{◌≡◌, ◌≤◌, ◌-◌}
use Rattle.turn_lock.specs.Counting.{HasCounted}
use Rattle.turn_lock.proofs.crowd.count_times.Given as goal

abbrev pub invariant-loop-done : goal.invariant-loop-done
invariant-loop-done g l = (l.pass.lock ≡ l.lock.id) × HasCounted l.role l.done l.pass.made × (l.done ≤ l.times)

abbrev pub decreases-loop-done : goal.decreases-loop-done
decreases-loop-done g l = l.times - l.done
