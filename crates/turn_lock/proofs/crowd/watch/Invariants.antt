use Rattle.std.proofs.Common.{◌≡◌}
use Rattle.turn_lock.specs.Counting.{HasRole}
use Rattle.turn_lock.proofs.crowd.watch.Given as goal

abbrev pub invariant-loop : goal.invariant-loop
invariant-loop g l = (l.pass.lock ≡ l.lock.id) × HasRole l.role l.pass.made
