use Rattle.std.proofs.Common.{◌≡◌, length}
use Rattle.board_rules.specs.RunMeasures.{run_setting}
use Rattle.graph_files.specs.OpenFiles.{file_nodes}
use Rattle.flow_saver.specs.Saver.{Start, IsSaving, CountsStep}
use Rattle.flow_saver.specs.Turns.{HasGoneOn, FallBefore}
use Rattle.flow_saver.proofs.saving.save_turn.Given as goal

abbrev pub invariant-loop-at : goal.invariant-loop-at
invariant-loop-at g l =
    record {
      ours : g.D.Desk.ours l.desk l.pass;
      saving : (start : Start) → IsSaving g.R.Run.graph g.R.Run.stack start l.role (g.D.Desk.knows l.fn.pass) l.fn.files l.fn.fault (g.K.Shelf.held l.fn.shelf)
          → IsSaving g.R.Run.graph g.R.Run.stack start l.role (g.D.Desk.knows l.pass) l.files l.fault (g.K.Shelf.held l.shelf);
      count : length l.files ≡ length l.fn.files;
      cause : CountsStep l.fn.fault l.fault (g.K.Shelf.faults l.fn.shelf) (g.K.Shelf.faults l.shelf) (g.K.Shelf.held l.fn.shelf) (g.K.Shelf.held l.shelf);
      goes : (start : Start) → IsSaving g.R.Run.graph g.R.Run.stack start l.role (g.D.Desk.knows l.fn.pass) l.fn.files l.fn.fault (g.K.Shelf.held l.fn.shelf)
          → HasGoneOn (run_setting g.R.Run.graph g.R.Run.stack) (FallBefore (file_nodes g.R.Run.graph g.R.Run.stack start.prefix) l.at)
          (g.D.Desk.knows l.fn.pass) (g.D.Desk.knows l.pass);
    }
