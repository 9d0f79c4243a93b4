use Rattle.std.proofs.Common.{◌≡◌, ℕ, List, ◌++◌, take}
use Rattle.std.specs.List.{flat_map}
use Rattle.data_check.specs.ComparedFiles.{NoneFailed}
use Rattle.data_check.specs.Fronts.{HasFront}
use Rattle.data_check.specs.Histories.{arrays_at}
use Rattle.data_check.specs.Rows.{row_by}
use Rattle.data_check.proofs.rows.go_on.Given as goal

-- the file goes on with the rows at the first positions
abbrev pub invariant-loop-index : goal.invariant-loop-index
invariant-loop-index g l =
    let holds = g.L.Library.holds in
    record {
      same : holds l.library ≡ holds l.fn.library;
      none : g.L.Library.faults l.library ≡ g.L.Library.faults l.fn.library;
      at : NoneFailed (g.L.Library.faults_at l.fn.library) (g.L.Library.faults_at l.library);
      name : l.front.name ≡ l.fn.front.name;
      size : l.front.size ≡ l.fn.front.size;
      goes : (before : List ℕ) → HasFront (holds l.fn.library) l.fn.front before
          → HasFront (holds l.fn.library) l.front (before ++ flat_map (row_by l.kind) (arrays_at l.history l.node (take l.index-index l.positions)));
    }
