use Rattle.std.proofs.Common.{◌≡◌, ℕ, ◌+◌, ◌*◌, ◌<◌}
use Rattle.nd_orient.specs.Walk.{cell, line_size, line_count, source}
use Rattle.nd_orient.proofs.samples.fill_planes.Given as goal

-- the planes so far
abbrev pub invariant-loop-z : goal.invariant-loop-z
invariant-loop-z l = (x y z : ℕ) → x < line_size l.plane → y < line_count l.plane → z < l.z
    → cell l.width l.out (z * (l.plane.columns * l.plane.rows) + (y * line_size l.plane + x))
    ≡ cell l.width l.input (z * (l.plane.columns * l.plane.rows) + source l.plane x y)
