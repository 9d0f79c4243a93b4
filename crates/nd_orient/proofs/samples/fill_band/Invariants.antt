use Rattle.std.proofs.Common.{ℕ, ◌+◌, ◌-◌, ◌*◌, ◌<◌, ◌≤◌}
use Rattle.nd_orient.specs.Walk.{line_size, IsFilled}
use Rattle.nd_orient.proofs.samples.fill_band.Given as goal

abbrev pub invariant-loop-left : goal.invariant-loop-left
invariant-loop-left l = record {
  within : l.left ≤ l.line;
  band : (x y : ℕ) → x < l.left → l.top ≤ y → y < l.bottom → IsFilled l.job.width l.job.plane l.job.input.now l.out (y * line_size l.job.plane + x);
  keeps : (k : ℕ) → IsFilled l.job.width l.job.plane l.job.input.now l.initial.out k → IsFilled l.job.width l.job.plane l.job.input.now l.out k;
}

abbrev pub decreases-loop-left : goal.decreases-loop-left
decreases-loop-left l = l.line - l.left
