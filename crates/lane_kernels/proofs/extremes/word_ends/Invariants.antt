use Rattle.std.proofs.Common.{◌≡◌, ◌*◌, pos, ◌+ℤ◌, map}
use Rattle.std.specs.Int.{int_min, int_max}
use Rattle.nd_base.specs.Samples.{numbers}
use Rattle.nd_base.specs.declared.array.SampleType.TheVariants.{UInt32}
use Rattle.lane_kernels.proofs.Ends.{one_of}
use Rattle.lane_kernels.proofs.extremes.word_ends.Given as goal

abbrev pub invariant-loop-k : goal.invariant-loop-k
invariant-loop-k l = record {
  low : one_of int_min (map (λ b. pos b +ℤ pos 0) l.lows) ≡ one_of int_min (numbers UInt32 (l.k * 4) l.samples);
  high : one_of int_max (map (λ b. pos b +ℤ pos 0) l.highs) ≡ one_of int_max (numbers UInt32 (l.k * 4) l.samples);
}
