use Rattle.std.proofs.Common.{◌≡◌, ◌*◌, ◌≤◌}
use Rattle.std.specs.Prelude.{unsigned_abs}
use Rattle.nd_base.specs.Samples.{numbers}
use Rattle.lane_kernels.specs.Plain.{total}
use Rattle.lane_kernels.proofs.sums.sum_each.Given as goal

abbrev pub invariant-loop-k : goal.invariant-loop-k
invariant-loop-k l = record {
  sum : l.sum ≡ total (numbers l.kind l.k l.samples);
  bound : unsigned_abs l.sum ≤ l.k * 4294967296;
}
