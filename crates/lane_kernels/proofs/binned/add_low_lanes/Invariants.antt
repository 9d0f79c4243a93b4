use Rattle.std.proofs.Common.{◌≡◌, ℕ, ◌+◌, ◌*◌, ◌<◌, ◌≤◌, get_or, pos, ◌+ℤ◌, length}
use Rattle.std.specs.Int.{w32, int_wrap}
use Rattle.lane_kernels.specs.Plain.{run}
use Rattle.lane_kernels.proofs.binned.add_low_lanes.Given as goal

abbrev pub invariant-loop-k : goal.invariant-loop-k
invariant-loop-k l = record {
  lanes : length l.sums ≡ 8;
  added : (j : ℕ) → j < l.k → get_or l.sums j (pos 0) ≡ int_wrap w32 (get_or l.initial.sums j (pos 0) +ℤ run l.fn.kind l.line 2 (l.place + j * 2));
  rest : (j : ℕ) → l.k ≤ j → get_or l.sums j (pos 0) ≡ get_or l.initial.sums j (pos 0);
}
