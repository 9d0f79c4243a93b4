use Rattle.std.proofs.Common.{◌≡◌, map}
use Rattle.std.specs.List.{range_with_len}
use Rattle.nd_stack.specs.Generated.{frame_head}
use Rattle.nd_stack.proofs.generated.frame_heads.Given as goal

-- the heads of the frames so far
abbrev pub invariant-loop-frame : goal.invariant-loop-frame
invariant-loop-frame l = l.heads.items ≡ map frame_head (range_with_len 0 l.frame)
