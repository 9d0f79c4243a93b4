use Rattle.std.proofs.Common.{◌*◌, pos, w64}
use Rattle.nd_base.specs.declared.array.SampleType.TheVariants.{Int16}
use Rattle.nd_base.specs.Samples.{numbers}
use Rattle.lane_kernels.specs.Plain.{squares}
use Rattle.lane_kernels.proofs.Summed.{IsSummed}
use Rattle.lane_kernels.proofs.sums.pair_squares.Given as goal

abbrev pub invariant-loop-k : goal.invariant-loop-k
invariant-loop-k l = IsSummed w64 8 l.sums (pos (squares (numbers Int16 (l.k * 8) l.samples)))
