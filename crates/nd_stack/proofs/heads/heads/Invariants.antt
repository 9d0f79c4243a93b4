use Rattle.std.proofs.Common.{◌≡◌, map}
use Rattle.std.specs.List.{range_with_len}
use Rattle.nd_stack.specs.StackRules.{head_for}
use Rattle.nd_stack.proofs.heads.heads.Given as goal

-- the heads of the frames so far
abbrev pub invariant-loop-frame : goal.invariant-loop-frame
invariant-loop-frame l = l.heads.items ≡ map (head_for l.bytes l.times l.attrs) (range_with_len 0 l.frame)
