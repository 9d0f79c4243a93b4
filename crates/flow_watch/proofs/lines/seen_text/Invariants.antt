use Rattle.std.proofs.Common.{◌≡◌, ◌++◌, drop, string_bytes}
use Rattle.flow_watch.specs.Reads.{lines_after}
use Rattle.flow_watch.proofs.lines.seen_text.Given as goal

-- the lines so far, and those of the notes that are left
abbrev pub invariant-loop-note : goal.invariant-loop-note
invariant-loop-note l = string_bytes l.text ++ lines_after l.entries (drop l.note-index l.notes) ≡ lines_after 0 l.notes
