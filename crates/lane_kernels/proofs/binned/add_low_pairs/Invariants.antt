use Rattle.std.proofs.Common.{◌≡◌, ℕ, ◌+◌, ◌-◌, ◌*◌, ◌<◌, ◌≤◌, length, get_or, pos, ◌+ℤ◌}
use Rattle.std.specs.Int.{w32, int_wrap}
use Rattle.lane_kernels.specs.Plain.{run}
use Rattle.lane_kernels.proofs.binned.add_low_pairs.Given as goal

abbrev pub invariant-loop-sums : goal.invariant-loop-sums
invariant-loop-sums l = record {
  done : l.done ≤ length l.sums;
  added : (k : ℕ) → k < l.done → get_or l.sums k (pos 0) ≡ int_wrap w32 (get_or l.initial.sums k (pos 0) +ℤ run l.kind l.line 2 (0 + k * 2));
  rest : (k : ℕ) → l.done ≤ k → get_or l.sums k (pos 0) ≡ get_or l.initial.sums k (pos 0);
}

abbrev pub decreases-loop-sums : goal.decreases-loop-sums
decreases-loop-sums l = length l.sums - l.done
