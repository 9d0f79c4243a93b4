use Rattle.std.proofs.Common.{ℕ, ◌+◌, ◌*◌, ◌<◌, ◌≤◌}
use Rattle.nd_orient.specs.Walk.{line_size, IsFilled}
use Rattle.nd_orient.proofs.samples.fill_each.Given as goal

abbrev pub invariant-loop-x : goal.invariant-loop-x
invariant-loop-x l = record {
  line : (x : ℕ) → l.fn.block.left ≤ x → x < l.x → IsFilled l.job.width l.job.plane l.job.input.now l.out (l.y * line_size l.job.plane + x);
  keeps : (k : ℕ) → IsFilled l.job.width l.job.plane l.job.input.now l.initial.out k → IsFilled l.job.width l.job.plane l.job.input.now l.out k;
}
