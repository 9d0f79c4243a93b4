use Rattle.std.proofs.Common.{◌≡◌, ◌≢◌, ◌-◌, ℕ, List, true, length, map, Some}
use Rattle.std.specs.Prelude.{slice_get, Option}
use Rattle.edge_traits.specs.Files.{Files}
use Rattle.flow_journal.specs.LengthLaws.{most_entries}
use Rattle.flow_journal.specs.Histories.{is_history}
use Rattle.flow_journal.specs.Unsaved.{unsaved}
use Rattle.board_rules.specs.States.{past}
use Rattle.board_rules.specs.RunMeasures.{run_setting}
use Rattle.flow_drain.specs.Drains.{IsDrained}
use Rattle.graph_files.specs.NodeFiles.{NodeFile}
use Rattle.graph_files.specs.OpenFiles.{closed}
use Rattle.flow_saver.specs.Saver.{CountsStep}
use Rattle.flow_saver.specs.Remaining.{RestMoves, IsSavingAlone}
use Rattle.flow_saver.proofs.remaining.save_all.Given as goal

abbrev pub invariant-pieces : goal.invariant-pieces
invariant-pieces g l =
    record {
      saving : (prefix : List ℕ) (before : Option Files)
          → IsSavingAlone g.R.Run.graph g.R.Run.stack prefix before (g.B.BoardCalls.shown l.fn.board) l.fn.files l.fn.fault (g.K.Shelf.held l.fn.shelf)
          → IsSavingAlone g.R.Run.graph g.R.Run.stack prefix before (g.B.BoardCalls.shown l.board) l.files l.fault (g.K.Shelf.held l.shelf);
      drained : IsDrained (run_setting g.R.Run.graph g.R.Run.stack) (past (g.B.BoardCalls.shown l.board));
      others : (x : NodeFile) → slice_get l.fn.files l.at ≡ Some x → (w : ℕ) → w ≢ x.node
          → unsaved (run_setting g.R.Run.graph g.R.Run.stack) w (past (g.B.BoardCalls.shown l.board))
          ≡ unsaved (run_setting g.R.Run.graph g.R.Run.stack) w (past (g.B.BoardCalls.shown l.fn.board));
      moves : RestMoves (run_setting g.R.Run.graph g.R.Run.stack) (g.B.BoardCalls.shown l.fn.board) (g.B.BoardCalls.shown l.board);
      legal : is_history (run_setting g.R.Run.graph g.R.Run.stack) (past (g.B.BoardCalls.shown l.board)) ≡ true;
      nodes : map closed l.files ≡ map closed l.fn.files;
      cause : CountsStep l.fn.fault l.fault (g.K.Shelf.faults l.fn.shelf) (g.K.Shelf.faults l.shelf) (g.K.Shelf.held l.fn.shelf) (g.K.Shelf.held l.shelf);
    }

abbrev pub decreases-pieces : goal.decreases-pieces
decreases-pieces g l = most_entries (run_setting g.R.Run.graph g.R.Run.stack) - length (past (g.B.BoardCalls.shown l.board))
