use Rattle.std.proofs.Common.{◌≡◌, ◌*◌, pos, ◌+ℤ◌, map}
use Rattle.std.specs.Int.{int_min, int_max}
use Rattle.nd_base.specs.Samples.{numbers}
use Rattle.lane_kernels.specs.Lanes.{offset}
use Rattle.lane_kernels.proofs.Ends.{one_of}
use Rattle.lane_kernels.proofs.extremes.byte_ends.Given as goal

abbrev pub invariant-loop-k : goal.invariant-loop-k
invariant-loop-k l = record {
  low : one_of int_min (map (λ b. pos b +ℤ offset l.kind) l.lows) ≡ one_of int_min (numbers l.kind (l.k * 16) l.samples);
  high : one_of int_max (map (λ b. pos b +ℤ offset l.kind) l.highs) ≡ one_of int_max (numbers l.kind (l.k * 16) l.samples);
}
