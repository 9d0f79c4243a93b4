use Rattle.std.proofs.Common.{◌≡◌}
use Rattle.std.specs.Prelude.{Option}
use Rattle.edge_traits.specs.Files.{Files}
use Rattle.plain_saver.specs.Saved.{IsSaved}
use Rattle.plain_saver.specs.Texts.{AreEmptyTo}
use Rattle.plain_saver.proofs.saver.Saver.put_all_rows.Given as goal

-- the first nodes keep nothing back
abbrev pub invariant-loop-place : goal.invariant-loop-place
invariant-loop-place g l =
    let held = g.K.Shelf.held in
    record {
      files : l.self.files ≡ l.fn.self.files;
      passes : l.self.passes ≡ l.fn.self.passes;
      empty : AreEmptyTo l.source.graph l.self.texts l.place;
      some : (before : Option Files) × IsSaved l.source.graph l.source.stack l.prefix before l.self.passes.items l.self.texts l.self.files (held l.shelf);
      saved : (before : Option Files)
          → IsSaved l.source.graph l.source.stack l.prefix before l.fn.self.passes.items l.fn.self.texts l.fn.self.files (held l.fn.shelf)
          → IsSaved l.source.graph l.source.stack l.prefix before l.self.passes.items l.self.texts l.self.files (held l.shelf);
      none : g.K.Shelf.faults l.shelf ≡ g.K.Shelf.faults l.fn.shelf;
    }
