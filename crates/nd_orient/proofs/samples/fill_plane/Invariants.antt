use Rattle.std.proofs.Common.{ℕ, ◌+◌, ◌-◌, ◌*◌, ◌<◌, ◌≤◌}
use Rattle.nd_orient.specs.Walk.{line_size, IsFilled}
use Rattle.nd_orient.proofs.samples.fill_plane.Given as goal

abbrev pub invariant-loop-top : goal.invariant-loop-top
invariant-loop-top l = record {
  within : l.top ≤ l.lines;
  plane : (x y : ℕ) → x < line_size l.fn.plane → y < l.top → IsFilled l.width l.fn.plane l.input l.out (y * line_size l.fn.plane + x);
}

abbrev pub decreases-loop-top : goal.decreases-loop-top
decreases-loop-top l = l.lines - l.top
