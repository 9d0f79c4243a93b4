use Rattle.std.proofs.Common.{◌≡◌, ◌<◌, ℕ, List, [], true, map, Some}
use Rattle.std.specs.Prelude.{slice_get, Option}
use Rattle.edge_traits.specs.Files.{Files}
use Rattle.flow_journal.specs.Histories.{is_history}
use Rattle.flow_journal.specs.Unsaved.{unsaved}
use Rattle.board_rules.specs.States.{past}
use Rattle.board_rules.specs.RunMeasures.{run_setting}
use Rattle.flow_drain.specs.Drains.{IsDrained}
use Rattle.graph_files.specs.NodeFiles.{NodeFile}
use Rattle.graph_files.specs.OpenFiles.{closed}
use Rattle.flow_saver.specs.Saver.{CountsStep}
use Rattle.flow_saver.specs.Remaining.{RestMoves, IsSavingAlone}
use Rattle.flow_saver.proofs.remaining.save_rest.Given as goal

abbrev pub invariant-loop-at : goal.invariant-loop-at
invariant-loop-at g l =
    record {
      saving : (prefix : List ℕ) (before : Option Files)
          → IsSavingAlone g.R.Run.graph g.R.Run.stack prefix before (g.B.BoardCalls.shown l.fn.board) l.fn.files l.fn.fault (g.K.Shelf.held l.fn.shelf)
          → IsSavingAlone g.R.Run.graph g.R.Run.stack prefix before (g.B.BoardCalls.shown l.board) l.files l.fault (g.K.Shelf.held l.shelf);
      drained : IsDrained (run_setting g.R.Run.graph g.R.Run.stack) (past (g.B.BoardCalls.shown l.board));
      empty : (k : ℕ) (x : NodeFile) → k < l.at → slice_get l.fn.files k ≡ Some x
          → unsaved (run_setting g.R.Run.graph g.R.Run.stack) x.node (past (g.B.BoardCalls.shown l.board)) ≡ [];
      moves : RestMoves (run_setting g.R.Run.graph g.R.Run.stack) (g.B.BoardCalls.shown l.fn.board) (g.B.BoardCalls.shown l.board);
      legal : is_history (run_setting g.R.Run.graph g.R.Run.stack) (past (g.B.BoardCalls.shown l.board)) ≡ true;
      nodes : map closed l.files ≡ map closed l.fn.files;
      cause : CountsStep l.fn.fault l.fault (g.K.Shelf.faults l.fn.shelf) (g.K.Shelf.faults l.shelf) (g.K.Shelf.held l.fn.shelf) (g.K.Shelf.held l.shelf);
    }
