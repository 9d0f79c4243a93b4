use Rattle.std.proofs.Common.{◌≡◌, take}
use Rattle.graph_files.specs.OutFiles.{with_files}
use Rattle.replay_top.specs.MeasuredFiles.{measured_files}
use Rattle.replay_top.proofs.run_rows.save_rows.Given as goal

-- the files of the nodes so far
abbrev pub invariant-loop-place : goal.invariant-loop-place
invariant-loop-place g l =
    let held = g.K.Shelf.held in
    let faults = g.K.Shelf.faults in
    record {
      files : held l.shelf ≡ with_files (held l.fn.shelf) (measured_files l.prefix (take l.place l.graph.nodes) (take l.place l.measures));
      none : faults l.shelf ≡ faults l.fn.shelf;
    }
