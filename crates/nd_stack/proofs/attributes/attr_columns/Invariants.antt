use Rattle.std.proofs.Common.{◌≡◌, take}
use Rattle.nd_stack.specs.FrameShape.{attr_columns}
use Rattle.nd_stack.proofs.attributes.attr_columns.Given as goal

-- the columns of the variables so far
abbrev pub invariant-loop-var : goal.invariant-loop-var
invariant-loop-var l = l.columns.items ≡ attr_columns (take l.var-index l.vars)
