use Rattle.std.proofs.Common.{◌≡◌}
use Rattle.nd_base.specs.Samples.{numbers}
use Rattle.lane_kernels.specs.Plain.{least_with, greatest_with}
use Rattle.lane_kernels.proofs.extremes.ends_with.Given as goal

abbrev pub invariant-loop-k : goal.invariant-loop-k
invariant-loop-k l = record {
  min : l.min ≡ least_with l.fn.ends.min (numbers l.kind l.k l.samples);
  max : l.max ≡ greatest_with l.fn.ends.max (numbers l.kind l.k l.samples);
}
