use Rattle.std.proofs.Common.{◌≡◌, ◌++◌, string_bytes, take}
use Rattle.tool_commands.specs.Info.{attr_lines}
use Rattle.tool_commands.proofs.info.push_attrs.Given as goal

-- the lines so far
abbrev pub invariant-loop-attr : goal.invariant-loop-attr
invariant-loop-attr l = string_bytes l.text ≡ string_bytes l.initial.text ++ attr_lines (take l.attr-index l.attrs)
