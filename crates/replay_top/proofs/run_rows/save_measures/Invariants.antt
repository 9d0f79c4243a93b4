use Rattle.std.proofs.Common.{◌≡◌, ◌-◌, ◌≤◌, length, take}
use Rattle.std.specs.List.{flat_map}
use Rattle.edge_traits.specs.Files.{with_file}
use Rattle.nd_stats.specs.Row.{row}
use Rattle.replay_top.proofs.run_rows.save_measures.Given as goal

-- the rows so far
abbrev pub invariant-loop-done : goal.invariant-loop-done
invariant-loop-done g l =
    let held = g.K.Shelf.held in
    let faults = g.K.Shelf.faults in
    record {
      most : l.done ≤ length l.measures;
      files : held l.shelf ≡ with_file (held l.fn.shelf) l.name (flat_map row (take l.done l.measures));
      none : faults l.shelf ≡ faults l.fn.shelf;
    }

abbrev pub decreases-loop-done : goal.decreases-loop-done
decreases-loop-done g l = length l.measures - l.done
