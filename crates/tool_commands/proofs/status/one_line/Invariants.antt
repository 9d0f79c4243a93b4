use Rattle.std.proofs.Common.{◌≡◌, ◌++◌, string_bytes}
use Rattle.std.specs.Str.{IsUtf8}
use Rattle.std.specs.Str.Iter.{chars_rest}
use Rattle.tool_commands.specs.StatusText.{one_line}
use Rattle.tool_commands.proofs.status.one_line.Given as goal

-- the characters so far, and then those that are left
abbrev pub invariant-loop-character : goal.invariant-loop-character
invariant-loop-character l =
    (goal.iterator-loop-character).can_next l.character-iterator ×
    (goal.iterator-loop-character).is_finite l.character-iterator ×
    IsUtf8 (chars_rest l.character-iterator) ×
    (string_bytes l.line ++ one_line (chars_rest l.character-iterator) ≡ one_line l.text)
