-- The numbers so far, and those of the rest.
use Rattle.std.proofs.Common.{◌≡◌, ◌++◌, drop}
use Rattle.flow_journal.specs.Reading.{numbers_after, numbers_in}
use Rattle.flow_journal.proofs.read.read_numbers.Given as goal

abbrev pub invariant-loop-byte : goal.invariant-loop-byte
invariant-loop-byte l = l.numbers.items ++ numbers_after l.so_far (drop l.byte-index l.line) ≡ numbers_in l.line
