-- What was tallied so far, and the entries that are left, come to the report.
use Rattle.std.proofs.Common.{length, drop, reverse}
use Rattle.run_report.proofs.Readings.{Reads}
use Rattle.run_report.proofs.counting.tallied.Given as goal

abbrev pub invariant-loop-entry : goal.invariant-loop-entry
invariant-loop-entry l = Reads l.plan (reverse l.entries) (drop (length l.yielded) (reverse l.entries)) l.tally
