use Rattle.std.proofs.Common.{ℕ, ◌+◌, ◌*◌, ◌<◌, ◌≤◌}
use Rattle.nd_orient.specs.Walk.{line_size, IsFilled}
use Rattle.nd_orient.proofs.samples.fill_block.Given as goal

abbrev pub invariant-loop-y : goal.invariant-loop-y
invariant-loop-y l = record {
  block : (x y : ℕ) → l.block.left ≤ x → x < l.block.right → l.block.top ≤ y → y < l.y
      → IsFilled l.job.width l.job.plane l.job.input.now l.out (y * line_size l.job.plane + x);
  keeps : (k : ℕ) → IsFilled l.job.width l.job.plane l.job.input.now l.initial.out k → IsFilled l.job.width l.job.plane l.job.input.now l.out k;
}
