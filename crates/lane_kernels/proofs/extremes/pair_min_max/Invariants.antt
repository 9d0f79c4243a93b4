use Rattle.std.proofs.Common.{◌≡◌, ◌+ℤ◌}
use Rattle.nd_base.specs.Samples.{numbers}
use Rattle.lane_kernels.specs.Plain.{least_with, greatest_with, stored}
use Rattle.lane_kernels.specs.Lanes.{offset}
use Rattle.lane_kernels.proofs.extremes.pair_min_max.Given as goal

abbrev pub invariant-loop-k : goal.invariant-loop-k
invariant-loop-k l = record {
  least : l.least +ℤ offset l.kind ≡ least_with (stored l.kind l.samples 0) (numbers l.kind l.k l.samples);
  greatest : l.greatest +ℤ offset l.kind ≡ greatest_with (stored l.kind l.samples 0) (numbers l.kind l.k l.samples);
}
