use Rattle.std.proofs.Common.{◌≡◌, ◌*◌, ◌≤◌, ◌-◌, ◌/◌, length}
use Rattle.nd_base.specs.Samples.{width, numbers}
use Rattle.lane_kernels.specs.Plain.{total}
use Rattle.lane_kernels.proofs.sums.narrow_sum.Given as goal

abbrev pub invariant-loop-done : goal.invariant-loop-done
invariant-loop-done l = record {
  done : l.done * 8 ≤ length l.samples / width l.kind;
  sum : l.sum ≡ total (numbers l.kind (l.done * 8) l.samples);
}

abbrev pub decreases-loop-done : goal.decreases-loop-done
decreases-loop-done l = l.rows - l.done
