use Rattle.std.proofs.Common.{◌≡◌, ◌+◌, ◌*◌, ◌≤◌, pos}
use Rattle.nd_base.specs.declared.array.SampleType.TheVariants.{UInt16}
use Rattle.lane_kernels.specs.Plain.{run, square_run}
use Rattle.lane_kernels.proofs.words.word_block.Given as goal

abbrev pub invariant-loop-k : goal.invariant-loop-k
invariant-loop-k l = record {
  sum : pos l.sum ≡ run UInt16 l.samples (l.k * 2) (l.place * 2);
  squares : l.low + 65536 * l.high + 65536 * l.sum ≡ square_run UInt16 l.samples (l.k * 2) (l.place * 2) + l.k * 2147483648;
  few : l.sum ≤ l.k * 131070;
  low : l.low ≤ l.k * 65535;
  high : l.high ≤ l.k * 32768;
}
