use Rattle.std.proofs.Common.{◌≡◌, ◌*◌, ◌/◌, ◌-◌, ◌≤◌, length, pos}
use Rattle.nd_base.specs.declared.array.SampleType.TheVariants.{UInt16}
use Rattle.nd_base.specs.Samples.{numbers}
use Rattle.lane_kernels.specs.Plain.{total, squares}
use Rattle.lane_kernels.proofs.words.word_blocks.Given as goal

abbrev pub invariant-loop-done : goal.invariant-loop-done
invariant-loop-done l = record {
  done : l.done ≤ length l.samples / 4;
  sum : pos l.sum ≡ total (numbers UInt16 (l.done * 2) l.samples);
  squares : l.squares ≡ squares (numbers UInt16 (l.done * 2) l.samples);
  small : l.sum ≤ l.done * 131070;
  small_squares : l.squares ≤ l.done * 8589869055;
}

abbrev pub decreases-loop-done : goal.decreases-loop-done
decreases-loop-done l = l.count - l.done
