use Rattle.std.proofs.Common.{◌≡◌, ◌*◌, ◌≤◌}
use Rattle.nd_base.specs.Samples.{numbers}
use Rattle.lane_kernels.specs.Plain.{squares}
use Rattle.lane_kernels.proofs.sums.narrow_squares.Given as goal

abbrev pub invariant-loop-k : goal.invariant-loop-k
invariant-loop-k l = record {
  sum : l.sum ≡ squares (numbers l.kind l.k l.samples);
  bound : l.sum ≤ l.k * 4294836225;
}
