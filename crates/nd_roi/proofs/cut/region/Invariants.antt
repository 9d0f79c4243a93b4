use Rattle.std.proofs.Common.{◌≡◌, ◌++◌, drop}
use Rattle.nd_roi.specs.Cut.{dims_from, region_dims}
use Rattle.nd_roi.proofs.cut.region.Given as goal

abbrev pub invariant-loop-k : goal.invariant-loop-k
invariant-loop-k l = l.region.items ++ dims_from l.rule l.k (drop l.k l.dims) ≡ region_dims l.rule l.dims
