use Rattle.std.proofs.Common.{◌≡◌, ◌*◌, drop}
use Rattle.nd_base.specs.Samples.{numbers, width}
use Rattle.lane_kernels.specs.Plain.{total}
use Rattle.nd_stats.proofs.border.sum_run.Given as goal

abbrev pub invariant-loop-k : goal.invariant-loop-k
invariant-loop-k l = l.sum ≡ total (numbers l.kind l.k (drop (l.done * width l.kind) l.samples))
