use Rattle.std.proofs.Common.{◌≡◌}
use Rattle.std.specs.Int.{w64, int_wrap}
use Rattle.lane_kernels.specs.Plain.{run}
use Rattle.lane_kernels.proofs.binned.sum_run.Given as goal

abbrev pub invariant-loop-j : goal.invariant-loop-j
invariant-loop-j l = l.sum ≡ int_wrap w64 (run l.kind l.input l.j l.place)
