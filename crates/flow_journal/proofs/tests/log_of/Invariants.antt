-- One entry each turn.
use Rattle.std.proofs.Common.{◌≡◌, length}
use Rattle.flow_journal.proofs.tests.log_of.Given as goal

abbrev pub invariant-loop-entry : goal.invariant-loop-entry
invariant-loop-entry l = (l.log.room ≡ 23) × (length l.log.past ≡ l.entry-index)
