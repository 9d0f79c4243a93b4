use Rattle.std.proofs.Common.{◌≡◌, ◌≤◌, length, take, reverse}
use Rattle.std.specs.List.{filter, list_any}
use Rattle.flow_journal.specs.Ended.{leaves}
use Rattle.flow_journal.specs.Notes.{offers, drops, saves}
use Rattle.flow_watch.proofs.whole.whole_progress.Given as goal

abbrev pub invariant-loop-entry : goal.invariant-loop-entry
invariant-loop-entry l = record {
  entries : l.entry-items ≡ reverse l.log.past;
  offered : l.offered ≡ length (filter offers (take l.entry-index l.entry-items));
  dropped : l.dropped ≡ length (filter drops (take l.entry-index l.entry-items));
  saved : l.saved ≡ length (filter saves (take l.entry-index l.entry-items));
  few : (l.offered ≤ l.entry-index) × (l.dropped ≤ l.entry-index) × (l.saved ≤ l.entry-index);
  left : l.left ≡ list_any leaves (take l.entry-index l.entry-items);
}
