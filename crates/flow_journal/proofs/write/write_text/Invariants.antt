-- The text so far is that of the entries so far, and these fit.
use Rattle.std.proofs.Common.{◌≡◌, string_bytes, take, All}
use Rattle.flow_journal.specs.Spelling.{text_of}
use Rattle.flow_journal.specs.TextFaults.{Fits}
use Rattle.flow_journal.proofs.write.write_text.Given as goal

abbrev pub invariant-loop-entry : goal.invariant-loop-entry
invariant-loop-entry l = record {
  text : string_bytes l.text ≡ text_of (take l.entry-index l.entry-items);
  fit : All Fits (take l.entry-index l.entry-items);
}
