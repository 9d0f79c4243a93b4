use Rattle.std.proofs.Common.{◌*◌, pos, w32}
use Rattle.nd_base.specs.Samples.{numbers}
use Rattle.lane_kernels.specs.Plain.{squares}
use Rattle.lane_kernels.proofs.Summed.{IsSummed}
use Rattle.lane_kernels.proofs.sums.square_rows.Given as goal

abbrev pub invariant-loop-k : goal.invariant-loop-k
invariant-loop-k l = IsSummed w32 8 l.sums (pos (squares (numbers l.kind (l.k * 16) l.samples)))
