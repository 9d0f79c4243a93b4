use Rattle.std.proofs.Common.{◌≡◌, ◌-◌, ◌^◌, true, List, [], length}
use Rattle.std.specs.Prelude.{min}
use Rattle.flow_journal.specs.Pasts.{Past}
use Rattle.flow_journal.specs.Notes.{WereNoted}
use Rattle.board_rules.specs.RunMeasures.{run_setting}
use Rattle.board_rules.specs.States.{past}
use Rattle.flow_roles.specs.Passes.{Pass}
use Rattle.graph_files.specs.OpenFiles.{file_nodes}
use Rattle.flow_saver.specs.Saver.{Start, IsSaving, CountsSo}
use Rattle.flow_saver.specs.Turns.{AreTurns, KnowsItsOwn, HasGoneOn, AreNone}
use Rattle.flow_saver.proofs.saving.save_role.Given as goal

abbrev pub invariant-loop : goal.invariant-loop
invariant-loop g l =
    record {
      ours : g.D.Desk.ours l.desk l.pass;
      start : Start;
      began : start.held ≡ g.K.Shelf.held l.fn.shelf;
      first : start.made ≡ [];
      named : file_nodes g.R.Run.graph g.R.Run.stack start.prefix ≡ l.fn.files;
      saving : IsSaving g.R.Run.graph g.R.Run.stack start l.role (g.D.Desk.knows l.pass) l.files l.fault (g.K.Shelf.held l.shelf);
      cause : CountsSo l.fault (g.K.Shelf.faults l.fn.shelf) (g.K.Shelf.faults l.shelf);
      fronts : List Past;
      noted : WereNoted (run_setting g.R.Run.graph g.R.Run.stack) fronts (g.N.Watch.watched l.fn.watch) (g.N.Watch.watched l.watch);
      turns : (q : Pass) → HasGoneOn (run_setting g.R.Run.graph g.R.Run.stack) AreNone (g.D.Desk.knows l.pass) q
          → KnowsItsOwn (run_setting g.R.Run.graph g.R.Run.stack) q → AreTurns fronts (past q.seen);
      owned : (g.D.Desk.knows l.pass).said.owned ≡ true;
      asked : (g.D.Desk.knows l.pass).said.asked ≡ min (length fronts) (2 ^ 64 - 1);
      home : g.N.Watch.home l.watch ≡ g.N.Watch.home l.fn.watch;
    }
