use Rattle.std.proofs.Common.{◌≡◌, ◌*◌, ◌≤◌}
use Rattle.std.specs.Prelude.{unsigned_abs}
use Rattle.lane_kernels.specs.Plain.{run}
use Rattle.lane_kernels.proofs.sums.sum_block.Given as goal

abbrev pub invariant-loop-k : goal.invariant-loop-k
invariant-loop-k l = record {
  sum : l.sum ≡ run l.kind l.samples l.k l.place;
  bound : unsigned_abs l.sum ≤ l.k * 65535;
}
