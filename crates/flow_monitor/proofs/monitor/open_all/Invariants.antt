use Rattle.std.proofs.Common.{◌≡◌, ◌-◌, ◌≤◌, drop, vec_len}
use Rattle.std.specs.Prelude.{vec_capacity}
use Rattle.std.specs.List.{All}
use Rattle.left_right.specs.Sides.{view as known}
use Rattle.flow_monitor.specs.Registers.{name_of}
use Rattle.flow_monitor.specs.Monitors.{peek_state}
use Rattle.flow_monitor.proofs.monitor.open_all.Given as goal

abbrev pub invariant-loop-writer : goal.invariant-loop-writer
invariant-loop-writer l = record {
  shown : l.writer.desk.shown ≡ l.fn.writer.desk.shown;
  idle : drop l.writer.behind l.writer.log.items ≡ drop l.fn.writer.behind l.fn.writer.log.items;
  knows : known l.writer.desk.place ≡ name_of l.latest.seen.book;
  few : vec_len l.peeks ≤ l.count;
  room : l.count ≤ vec_capacity l.peeks;
  peeks : All (λ p. p ≡ peek_state (name_of l.latest.seen.book) l.latest.seen.log) l.peeks.items;
}

abbrev pub decreases-loop-writer : goal.decreases-loop-writer
decreases-loop-writer l = l.count - vec_len l.peeks
