use Rattle.std.proofs.Common.{◌≡◌, ◌-◌, ◌≤◌, length, take}
use Rattle.edge_traits.specs.Written.{with_written}
use Rattle.tool_commands.proofs.printing.write_all.Given as goal

abbrev pub invariant-loop-at : goal.invariant-loop-at
invariant-loop-at g l =
    let written = g.T.Sink.written in
    let faults = g.T.Sink.faults in
    record {
      within : l.at ≤ length l.text;
      so_far : written l.out ≡ with_written (written l.fn.out) (take l.at l.text);
      none : faults l.out ≡ faults l.fn.out;
    }

abbrev pub decreases-loop-at : goal.decreases-loop-at
decreases-loop-at g l = length l.text - l.at
