use Rattle.std.proofs.Common.{◌≡◌, ◌≤◌, ◌<◌, ◌*◌, ◌+◌, ℕ, length, get_or, pos, ◌-ℤ◌}
use Rattle.std.specs.Simd.Lanes.{sum_l}
use Rattle.nd_base.specs.Samples.{numbers}
use Rattle.nd_stats.specs.Samples.{placed}
use Rattle.nd_stats.specs.Over.{IsOver}
use Rattle.nd_stats.specs.Columns.{moment}
use Rattle.nd_stats.proofs.columns.rows_over.Given as goal

abbrev pub invariant-loop-k : goal.invariant-loop-k
invariant-loop-k l = record {
  over : IsOver l.threshold (placed 0 (numbers l.kind (l.k * 8) l.rows)) (record {
    count = l.reached_count;
    sum = pos (sum_l l.sums);
    weighted = pos (moment 0 l.sums + l.k * 8 * sum_l l.sums) -ℤ pos (8 * sum_l l.running);
  });
  long : length l.sums ≡ 8;
  as_long : length l.running ≡ 8;
  few : l.reached_count ≤ l.k * 8;
  most : (j : ℕ) → j < 8 → get_or l.sums j 0 ≤ l.k * 65535;
  most_running : (j : ℕ) → j < 8 → get_or l.running j 0 ≤ l.k * (l.k * 65535);
}
