use Rattle.std.proofs.Common.{◌≡◌, ℕ, ◌≤◌, List, Some}
use Rattle.std.specs.Prelude.{slice_get, Option}
use Rattle.nd_base.specs.Array.{Array}
use Rattle.edge_traits.specs.Files.{Files, file_at}
use Rattle.graph_files.specs.NodeFiles.{NodeFile, name_of}
use Rattle.graph_files.specs.OpenFiles.{AllWritten}
use Rattle.graph_files.specs.EndedFiles.{AllStand, ended_to, open_group}
use Rattle.graph_files.proofs.open_files.OpenFiles.end.Given as goal

abbrev pub invariant-loop-at : goal.invariant-loop-at
invariant-loop-at g l =
    record {
      files : l.files ≡ ended_to l.at l.fn.self;
      stands : (before : Option Files) (written : ℕ → List Array) → AllWritten before l.fn.self written (g.K.Shelf.held l.fn.shelf)
          → AllStand before (ended_to l.at l.fn.self) written (g.K.Shelf.held l.shelf);
      names : (before : Option Files) (written : ℕ → List Array) → AllWritten before l.fn.self written (g.K.Shelf.held l.fn.shelf) → (k : ℕ) (x : NodeFile)
          → l.at ≤ k → slice_get l.fn.self k ≡ Some x
          → file_at (g.K.Shelf.held l.shelf) (name_of x (open_group x written)) ≡ file_at (g.K.Shelf.held l.fn.shelf) (name_of x (open_group x written));
      cause : g.K.Shelf.faults l.shelf ≡ g.K.Shelf.faults l.fn.shelf;
    }
