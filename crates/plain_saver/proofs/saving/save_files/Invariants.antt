use Rattle.std.proofs.Common.{◌≡◌}
use Rattle.plain_saver.specs.Rooms.{AreRooms}
use Rattle.plain_saver.specs.Saved.{IsSaved, AreLeftFrom}
use Rattle.plain_saver.proofs.saving.save_files.Given as goal

-- the arrays of the frames so far are written
abbrev pub invariant-loop-index : goal.invariant-loop-index
invariant-loop-index g l =
    let held = g.K.Shelf.held in
    record {
      rooms : AreRooms l.plan.graph l.stack l.saver.rooms;
      left : AreLeftFrom l.plan.graph l.saver.passes.items l.saver.files l.index l.index;
      saved : IsSaved l.plan.graph l.stack l.prefix (held l.fn.shelf) l.saver.passes.items l.saver.texts l.saver.files (held l.shelf);
      none : g.K.Shelf.faults l.shelf ≡ g.K.Shelf.faults l.fn.shelf;
    }
