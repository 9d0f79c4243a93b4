use Rattle.std.proofs.Common.{◌≡◌, ◌++◌, length}
use Rattle.trig_window.proofs.passing.drain_ring.Given as goal

abbrev pub invariant-loop-item : goal.invariant-loop-item
invariant-loop-item g l =
    (l.window ≡ record l.initial.window { pending = l.window.pending })
    × (l.out.items ++ l.window.pending ≡ l.initial.out.items ++ l.initial.window.pending)

abbrev pub decreases-loop-item : goal.decreases-loop-item
decreases-loop-item g l = length l.window.pending
