use Rattle.std.proofs.Common.{◌≡◌}
use Rattle.std.specs.Int.{w32, int_wrap}
use Rattle.lane_kernels.specs.Plain.{run}
use Rattle.lane_kernels.proofs.binned.low_run_each.Given as goal

abbrev pub invariant-loop-j : goal.invariant-loop-j
invariant-loop-j l = l.sum ≡ int_wrap w32 (run l.kind l.samples l.j 0)
