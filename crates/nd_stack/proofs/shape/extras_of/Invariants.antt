use Rattle.std.proofs.Common.{◌≡◌, take}
use Rattle.nd_stack.specs.FrameShape.{extras_in}
use Rattle.nd_stack.proofs.shape.extras_of.Given as goal

-- the extras so far
abbrev pub invariant-loop-attr : goal.invariant-loop-attr
invariant-loop-attr l = l.extras.items ≡ extras_in (take l.attr-index l.header.gatts)
