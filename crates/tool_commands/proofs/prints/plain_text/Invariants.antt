use Rattle.std.proofs.Common.{◌≡◌, ◌++◌, length, string_bytes}
use Rattle.std.specs.List.{flat_map, range_with_len}
use Rattle.tool_commands.specs.PlainText.{node_line}
use Rattle.tool_commands.specs.Printed.{frames_line}
use Rattle.tool_commands.proofs.prints.plain_text.Given as goal

-- the lines so far
abbrev pub invariant-loop-place : goal.invariant-loop-place
invariant-loop-place l =
    string_bytes l.text ≡ frames_line (length l.stack.arrays) ++ flat_map (node_line l.plan.graph l.stack) (range_with_len 1 l.place)
