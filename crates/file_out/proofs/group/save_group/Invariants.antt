use Rattle.std.proofs.Common.{◌≡◌, ◌≤◌, Some, length, take}
use Rattle.edge_traits.specs.Files.{with_file}
use Rattle.file_out.specs.Streams.{begun_file}
use Rattle.file_out.specs.Groups.{arrays_of}
use Rattle.file_out.proofs.group.save_group.Given as goal

-- the header and the rows so far
abbrev pub invariant-loop-row : goal.invariant-loop-row
invariant-loop-row g l =
    let held = g.K.Shelf.held in
    let faults = g.K.Shelf.faults in
    record {
      files : held l.shelf ≡ with_file (held l.fn.shelf) l.name (begun_file l.shape (Some (length l.rows)) (arrays_of l.shape (take l.row-index l.rows)));
      stream : l.file ≡ record { name = l.name; shape = l.shape; numrecs = Some (length l.rows); room = length l.rows; count = l.row-index };
      within : l.row-index ≤ length l.rows;
      none : faults l.shelf ≡ faults l.fn.shelf;
    }
