use Rattle.std.proofs.Common.{◌≡◌, take}
use Rattle.nd_base.specs.Shapes.{sample_count}
use Rattle.cdf_write.proofs.lengths.samples_of_dims.Given as goal

abbrev pub invariant-loop-dim : goal.invariant-loop-dim
invariant-loop-dim l = l.count ≡ sample_count (take l.dim-index l.dims)
