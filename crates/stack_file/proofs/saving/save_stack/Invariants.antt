use Rattle.std.proofs.Common.{◌≡◌, ◌-◌, ◌≤◌, Some, length, take}
use Rattle.std.specs.Prelude.{map, All}
use Rattle.nd_base.specs.Stacks.{frame_size}
use Rattle.edge_traits.specs.Files.{with_file}
use Rattle.stack_file.specs.Gathered.{IsGiven}
use Rattle.stack_file.proofs.Writing.{rows_to}
use Rattle.stack_file.proofs.saving.save_stack.Given as goal

-- the header and the rows so far
abbrev pub invariant-loop-done : goal.invariant-loop-done
invariant-loop-done g l =
    let held = g.K.Shelf.held in
    let faults = g.K.Shelf.faults in
    let n = length l.stack.arrays in
    let changed = map (g.C.Change.change l.change) l.stack.arrays in
    record {
      files : held l.shelf ≡ with_file (held l.fn.shelf) l.name (rows_to l.shape changed l.done);
      stream : l.file ≡ record { name = l.name; shape = l.shape; numrecs = Some n; room = n; count = l.done };
      within : l.done ≤ n;
      given : All (IsGiven l.shape) (take l.done changed);
      room : length l.rooms.frame.items ≡ frame_size l.stack.shape;
      none : faults l.shelf ≡ faults l.fn.shelf;
    }

-- the frames that are left
abbrev pub decreases-loop-done : goal.decreases-loop-done
decreases-loop-done g l = length l.stack.arrays - l.done
