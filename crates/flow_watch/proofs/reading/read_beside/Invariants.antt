use Rattle.std.proofs.Common.{◌≡◌, ◌-◌, ◌≤◌, vec_len}
use Rattle.std.specs.Prelude.{vec_capacity}
use Rattle.flow_watch.specs.Reads.{ReadAfter}
use Rattle.flow_watch.proofs.reading.read_beside.Given as goal

abbrev pub invariant-loop-reads : goal.invariant-loop-reads
invariant-loop-reads g l = record {
  monitor : l.peek.monitor ≡ l.fn.peek.monitor;
  reads : ReadAfter l.fn.peek.seen l.reads.items l.peek.seen;
  few : vec_len l.reads ≤ 16;
  room : 17 ≤ vec_capacity l.reads;
}

abbrev pub decreases-loop-reads : goal.decreases-loop-reads
decreases-loop-reads g l = 16 - vec_len l.reads
