use Rattle.std.proofs.Common.{◌≢◌, ℕ, ◌<◌, ◌≤◌, ◌/◌, ◌-◌, length}
use Rattle.nd_base.specs.Samples.{width}
use Rattle.lane_kernels.specs.Plain.{stored}
use Rattle.lane_kernels.proofs.extremes.chunk_with.Given as goal

abbrev pub invariant-loop-place : goal.invariant-loop-place
invariant-loop-place l = record {
  within : l.place ≤ length l.samples / width l.kind;
  before : (k : ℕ) → k < l.place → stored l.kind l.samples k ≢ l.value;
}

abbrev pub decreases-loop-place : goal.decreases-loop-place
decreases-loop-place l = l.count - l.place
