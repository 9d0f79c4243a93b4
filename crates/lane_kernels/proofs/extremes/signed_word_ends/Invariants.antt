use Rattle.std.proofs.Common.{◌≡◌, ◌*◌, to_z, w32, pos, ◌+ℤ◌, map, length}
use Rattle.std.specs.Int.{int_min, int_max}
use Rattle.nd_base.specs.Samples.{numbers}
use Rattle.nd_base.specs.declared.array.SampleType.TheVariants.{Int32}
use Rattle.lane_kernels.proofs.Ends.{one_of}
use Rattle.lane_kernels.proofs.extremes.signed_word_ends.Given as goal

abbrev pub invariant-loop-k : goal.invariant-loop-k
invariant-loop-k l = record {
  low : one_of int_min (map (λ b. to_z w32 b +ℤ pos 0) l.lows) ≡ one_of int_min (numbers Int32 (l.k * 4) l.samples);
  high : one_of int_max (map (λ b. to_z w32 b +ℤ pos 0) l.highs) ≡ one_of int_max (numbers Int32 (l.k * 4) l.samples);
  long : length l.lows ≡ 4;
  as_long : length l.highs ≡ 4;
}
