use Rattle.std.proofs.Common.{◌≡◌, ◌+◌, ◌*◌, ◌++◌, take, drop}
use Rattle.nd_base.specs.Shapes.{sample_count}
use Rattle.nd_roi.specs.Walk.{axes_from}
use Rattle.nd_roi.proofs.fill.set_axes.Given as goal

abbrev pub invariant-loop-k : goal.invariant-loop-k
invariant-loop-k l = record {
  set : take l.k l.axes ++ axes_from l.rule (l.k + 1) l.stride (drop l.k l.dims) ≡ axes_from l.rule 1 l.initial.stride l.dims;
  left : l.stride * sample_count (drop l.k l.dims) ≡ l.initial.stride * sample_count l.dims;
}
