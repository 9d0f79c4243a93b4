use Rattle.std.proofs.Common.{◌≡◌, ◌-◌, ◌≤◌, ℕ, List, length, take, drop}
use Rattle.edge_traits.specs.Files.{IsTold}
use Rattle.data_check.specs.ComparedFiles.{NoneFailed}
use Rattle.data_check.proofs.part.has_part.Given as goal

-- the first bytes are those of the file
abbrev pub invariant-loop-done : goal.invariant-loop-done
invariant-loop-done g l =
    let holds = g.L.Library.holds in
    let faults = g.L.Library.faults in
    record {
      within : l.done ≤ length l.bytes;
      same : holds l.library ≡ holds l.fn.library;
      none : faults l.library ≡ faults l.fn.library;
      at : NoneFailed (g.L.Library.faults_at l.fn.library) (g.L.Library.faults_at l.library);
      front : (file : List ℕ) → IsTold (holds l.fn.library) l.name file → take l.done (drop l.off file) ≡ take l.done l.bytes;
    }

abbrev pub decreases-loop-done : goal.decreases-loop-done
decreases-loop-done g l = length l.bytes - l.done
