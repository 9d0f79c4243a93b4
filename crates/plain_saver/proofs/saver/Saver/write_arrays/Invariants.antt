use Rattle.std.proofs.Common.{◌≡◌, List, ℕ, length}
use Rattle.std.specs.Prelude.{Option}
use Rattle.edge_traits.specs.Files.{Files}
use Rattle.plain_saver.specs.Rooms.{AreRooms}
use Rattle.plain_saver.specs.Saved.{IsSaved}
use Rattle.plain_saver.proofs.Turns.{ArrayTurns}
use Rattle.plain_saver.proofs.saver.Saver.write_arrays.Given as goal

-- the first file nodes have this frame's arrays
abbrev pub invariant-loop-at : goal.invariant-loop-at
invariant-loop-at g l =
    let held = g.K.Shelf.held in
    record {
      rooms : AreRooms l.source.graph l.source.stack l.self.rooms;
      count : length l.self.files ≡ length l.fn.self.files;
      turns : ArrayTurns l.source.graph l.self.passes.items l.self.files l.at l.index;
      some : (prefix : List ℕ)
          × ((before : Option Files) × IsSaved l.source.graph l.source.stack prefix before l.self.passes.items l.self.texts l.self.files (held l.shelf));
      saved : (prefix : List ℕ) (before : Option Files)
          → IsSaved l.source.graph l.source.stack prefix before l.fn.self.passes.items l.fn.self.texts l.fn.self.files (held l.fn.shelf)
          → IsSaved l.source.graph l.source.stack prefix before l.self.passes.items l.self.texts l.self.files (held l.shelf);
      none : g.K.Shelf.faults l.shelf ≡ g.K.Shelf.faults l.fn.shelf;
    }
