use Rattle.std.proofs.Common.{◌≡◌, ℕ, ◌-◌, ◌<◌, ◌≤◌}
use Rattle.nd_orient.specs.Walk.{cell}
use Rattle.nd_orient.proofs.reverse.reverse_by.Given as goal

abbrev pub invariant-loop-done : goal.invariant-loop-done
invariant-loop-done l = record {
  within : l.done ≤ l.samples;
  cells : (k : ℕ) → k < l.done → cell l.width l.out k ≡ cell l.width l.input (l.samples - 1 - k);
}

abbrev pub decreases-loop-done : goal.decreases-loop-done
decreases-loop-done l = l.samples - l.done
