use Rattle.std.proofs.Common.{◌≡◌, ◌≢◌, ℕ, ◌+◌, ◌<◌, false}
use Rattle.std.specs.Int.{w32, int_wrap}
use Rattle.lane_kernels.specs.Plain.{stored}
use Rattle.lane_kernels.proofs.extremes.has_low.Given as goal

abbrev pub invariant-loop-k : goal.invariant-loop-k
invariant-loop-k l = l.found ≡ false → (j : ℕ) → j < l.k → int_wrap w32 (stored l.kind l.samples (l.place + j)) ≢ l.low
