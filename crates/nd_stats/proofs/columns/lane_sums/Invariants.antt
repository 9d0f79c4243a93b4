use Rattle.std.proofs.Common.{◌≡◌, ◌≤◌, ◌*◌, take}
use Rattle.std.specs.Simd.Lanes.{sum_l}
use Rattle.nd_stats.specs.Columns.{moment}
use Rattle.nd_stats.proofs.columns.lane_sums.Given as goal

abbrev pub invariant-loop-k : goal.invariant-loop-k
invariant-loop-k l = record {
  sum : l.sum ≡ sum_l (take l.k l.lanes);
  moment : l.moment ≡ moment 0 (take l.k l.lanes);
  few : l.sum ≤ l.k * 4294967296;
  most : l.moment ≤ l.k * 34359738368;
}
