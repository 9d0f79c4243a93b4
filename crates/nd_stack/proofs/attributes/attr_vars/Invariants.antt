use Rattle.std.proofs.Common.{◌≡◌, take}
use Rattle.std.specs.Prelude.{map, filter}
use Rattle.nd_stack.specs.AttrVars.{is_attr_var, attr_var}
use Rattle.nd_stack.proofs.attributes.attr_vars.Given as goal

-- the attribute variables so far
abbrev pub invariant-loop-var : goal.invariant-loop-var
invariant-loop-var l = l.list.items ≡ map (attr_var l.header) (filter is_attr_var (take l.var-index l.header.vars))
