use Rattle.std.proofs.Common.{◌≡◌}
use Rattle.std.specs.Prelude.{Option}
use Rattle.edge_traits.specs.Files.{Files}
use Rattle.plain_saver.specs.Rooms.{AreRooms}
use Rattle.plain_saver.specs.Saved.{IsSaved}
use Rattle.plain_saver.proofs.Turns.{RowTurns}
use Rattle.plain_saver.proofs.saver.Saver.write_rows.Given as goal

-- the first nodes have this frame's rows
abbrev pub invariant-loop-place : goal.invariant-loop-place
invariant-loop-place g l =
    let held = g.K.Shelf.held in
    record {
      rooms : AreRooms l.source.graph l.source.stack l.self.rooms;
      turns : RowTurns l.source.graph l.self.passes.items l.self.files l.place l.index;
      some : (before : Option Files) × IsSaved l.source.graph l.source.stack l.prefix before l.self.passes.items l.self.texts l.self.files (held l.shelf);
      saved : (before : Option Files)
          → IsSaved l.source.graph l.source.stack l.prefix before l.fn.self.passes.items l.fn.self.texts l.fn.self.files (held l.fn.shelf)
          → IsSaved l.source.graph l.source.stack l.prefix before l.self.passes.items l.self.texts l.self.files (held l.shelf);
      none : g.K.Shelf.faults l.shelf ≡ g.K.Shelf.faults l.fn.shelf;
    }
