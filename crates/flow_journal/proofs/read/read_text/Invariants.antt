-- The lines so far are those of the entries so far.
use Rattle.std.proofs.Common.{◌≡◌, ◌+◌, ◌≤◌, ◌++◌, length, All}
use Rattle.flow_journal.specs.Spelling.{text_of}
use Rattle.flow_journal.specs.TextFaults.{Fits}
use Rattle.flow_journal.proofs.read.read_text.Given as goal

abbrev pub invariant-loop-rest : goal.invariant-loop-rest
invariant-loop-rest l = record {
  whole : l.text ≡ text_of l.entries.items ++ l.rest;
  fit : All Fits l.entries.items;
  few : length l.entries.items + length l.rest ≤ length l.text;
}

abbrev pub decreases-loop-rest : goal.decreases-loop-rest
decreases-loop-rest l = length l.rest
