use Rattle.std.proofs.Common.{◌≡◌, length, Some}
use Rattle.std.specs.Prelude.{slice_get}
use Rattle.board_rules.specs.RunMeasures.{run_setting}
use Rattle.graph_files.specs.NodeFiles.{NodeFile}
use Rattle.graph_files.specs.OpenFiles.{file_nodes}
use Rattle.flow_saver.specs.Saver.{Start, IsSaving, CountsStep}
use Rattle.flow_saver.specs.Turns.{HasGoneOn, AreAt}
use Rattle.flow_saver.proofs.saving.save_node.Given as goal

abbrev pub invariant-loop : goal.invariant-loop
invariant-loop g l =
    record {
      ours : g.D.Desk.ours l.desk l.pass;
      saving : (start : Start) → IsSaving g.R.Run.graph g.R.Run.stack start l.role (g.D.Desk.knows l.fn.pass) l.fn.files l.fn.fault (g.K.Shelf.held l.fn.shelf)
          → IsSaving g.R.Run.graph g.R.Run.stack start l.role (g.D.Desk.knows l.pass) l.files l.fault (g.K.Shelf.held l.shelf);
      count : length l.files ≡ length l.fn.files;
      cause : CountsStep l.fn.fault l.fault (g.K.Shelf.faults l.fn.shelf) (g.K.Shelf.faults l.shelf) (g.K.Shelf.held l.fn.shelf) (g.K.Shelf.held l.shelf);
      goes : (start : Start) → IsSaving g.R.Run.graph g.R.Run.stack start l.role (g.D.Desk.knows l.fn.pass) l.fn.files l.fn.fault (g.K.Shelf.held l.fn.shelf)
          → (x : NodeFile) → slice_get (file_nodes g.R.Run.graph g.R.Run.stack start.prefix) l.at ≡ Some x
          → HasGoneOn (run_setting g.R.Run.graph g.R.Run.stack) (AreAt x.node) (g.D.Desk.knows l.fn.pass) (g.D.Desk.knows l.pass);
    }
