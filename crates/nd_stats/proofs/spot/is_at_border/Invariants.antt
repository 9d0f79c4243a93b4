use Rattle.std.proofs.Common.{◌≡◌, drop}
use Rattle.nd_stats.specs.Samples.{is_at_border}
use Rattle.nd_stats.proofs.Places.{AreSizes}
use Rattle.nd_stats.proofs.spot.is_at_border.Given as goal

abbrev pub invariant-loop-dim : goal.invariant-loop-dim
invariant-loop-dim l = record {
  same : is_at_border l.border l.dims l.place ≡ is_at_border l.border (drop l.dim-index l.dims) l.rest;
  sizes : AreSizes (drop l.dim-index l.dims);
}
