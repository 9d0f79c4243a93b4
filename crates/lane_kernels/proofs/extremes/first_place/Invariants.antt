use Rattle.std.proofs.Common.{◌≢◌, ℕ, ◌<◌}
use Rattle.lane_kernels.specs.Plain.{stored}
use Rattle.lane_kernels.proofs.extremes.first_place.Given as goal

abbrev pub invariant-loop-k : goal.invariant-loop-k
invariant-loop-k l = (j : ℕ) → j < l.k → stored l.kind l.samples j ≢ l.value
