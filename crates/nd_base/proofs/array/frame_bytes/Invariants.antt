use Rattle.std.proofs.Common.{◌≡◌, take}
use Rattle.nd_base.specs.Shapes.{sample_count}
use Rattle.nd_base.proofs.array.frame_bytes.Given as goal

-- the samples of the dimensions so far
abbrev pub invariant-loop-dim : goal.invariant-loop-dim
invariant-loop-dim l = l.count ≡ sample_count (take l.dim-index l.dims)
