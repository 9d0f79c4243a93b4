use Rattle.std.proofs.Common.{◌*◌, w64}
use Rattle.nd_base.specs.Samples.{numbers}
use Rattle.lane_kernels.specs.Plain.{total}
use Rattle.lane_kernels.proofs.Summed.{IsSummed}
use Rattle.lane_kernels.proofs.sums.wide_sum.Given as goal

abbrev pub invariant-loop-k : goal.invariant-loop-k
invariant-loop-k l = IsSummed w64 4 l.sums (total (numbers l.kind (l.k * 8) l.samples))
