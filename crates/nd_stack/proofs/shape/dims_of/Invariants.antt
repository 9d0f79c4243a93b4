use Rattle.std.proofs.Common.{◌≡◌, map}
use Rattle.std.specs.List.{range_with_len}
use Rattle.nd_stack.specs.FrameShape.{frame_dim}
use Rattle.nd_stack.proofs.shape.dims_of.Given as goal

-- the dimensions so far
abbrev pub invariant-loop-i : goal.invariant-loop-i
invariant-loop-i l = l.dims.items ≡ map (frame_dim l.header l.var) (range_with_len 0 l.i)
