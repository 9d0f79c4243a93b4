use Rattle.std.proofs.Common.{◌≡◌, ◌++◌, string_bytes, take}
use Rattle.tool_commands.specs.Info.{sizes}
use Rattle.tool_commands.proofs.info.push_sizes.Given as goal

-- the sizes so far
abbrev pub invariant-loop-dim : goal.invariant-loop-dim
invariant-loop-dim l = string_bytes l.text ≡ string_bytes l.initial.text ++ sizes (take l.dim-index l.dims)
