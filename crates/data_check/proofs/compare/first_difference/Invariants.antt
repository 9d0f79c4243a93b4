use Rattle.std.proofs.Common.{◌≡◌, ℕ, ◌<◌, ◌≤◌}
use Rattle.std.specs.Prelude.{All}
use Rattle.data_check.specs.ComparedFiles.{node_files, IsSame, NoneFailed}
use Rattle.data_check.proofs.compare.first_difference.Given as goal

-- the files of the nodes so far are as they are to be
abbrev pub invariant-loop-node : goal.invariant-loop-node
invariant-loop-node g l =
    let holds = g.L.Library.holds in
    record {
      same : holds l.library ≡ holds l.fn.library;
      none : g.L.Library.faults l.library ≡ g.L.Library.faults l.fn.library;
      at : NoneFailed (g.L.Library.faults_at l.fn.library) (g.L.Library.faults_at l.library);
      all : (k : ℕ) → 1 ≤ k → k < l.node
          → All (IsSame (holds l.fn.library)) (node_files l.history.graph l.history.stack l.history.prefix l.history.past k);
    }
