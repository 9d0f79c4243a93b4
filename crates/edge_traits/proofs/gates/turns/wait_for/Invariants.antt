use Rattle.std.proofs.Common.{◌≡◌}
use Rattle.edge_traits.proofs.gates.turns.wait_for.Given as goal

abbrev pub invariant-loop-waited : goal.invariant-loop-waited
invariant-loop-waited l = l.waited.all ≡ l.turns

abbrev pub decreases-loop-waited : goal.decreases-loop-waited
decreases-loop-waited l = l.waited.left
