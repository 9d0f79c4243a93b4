use Rattle.std.proofs.Common.{◌≡◌, ℕ, ◌*◌, ◌<◌, ◌≤◌, get_or, pos, ◌+ℤ◌}
use Rattle.std.specs.Int.{w32, int_wrap}
use Rattle.nd_base.specs.Samples.{width}
use Rattle.lane_kernels.specs.Plain.{run}
use Rattle.lane_kernels.proofs.binned.add_low_each.Given as goal

abbrev pub invariant-loop-sum : goal.invariant-loop-sum
invariant-loop-sum l = record {
  at : l.at ≡ l.sum-index * (l.bin * width l.kind);
  added : (k : ℕ) → k < l.sum-index → get_or l.sums k (pos 0) ≡ int_wrap w32 (get_or l.initial.sums k (pos 0) +ℤ run l.kind l.line l.bin (k * l.bin));
  rest : (k : ℕ) → l.sum-index ≤ k → get_or l.sums k (pos 0) ≡ get_or l.initial.sums k (pos 0);
}
