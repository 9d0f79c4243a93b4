use Rattle.std.proofs.Common.{◌≡◌, ◌*◌, ◌≤◌, ◌-◌, length}
use Rattle.nd_base.specs.Samples.{numbers}
use Rattle.lane_kernels.specs.Plain.{squares}
use Rattle.lane_kernels.proofs.sums.byte_squares.Given as goal

abbrev pub invariant-loop-done : goal.invariant-loop-done
invariant-loop-done l = record {
  done : l.done * 16 ≤ length l.samples;
  sum : l.sum ≡ squares (numbers l.kind (l.done * 16) l.samples);
}

abbrev pub decreases-loop-done : goal.decreases-loop-done
decreases-loop-done l = l.rows - l.done
