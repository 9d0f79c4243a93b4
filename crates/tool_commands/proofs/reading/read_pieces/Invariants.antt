use Rattle.std.proofs.Common.{◌≡◌, ◌-◌, ◌<◌, ◌≤◌, ℕ, List, length, take}
use Rattle.edge_traits.specs.Files.{IsTold}
use Rattle.tool_commands.specs.Unread.{NoneFailed}
use Rattle.tool_commands.proofs.reading.read_pieces.Given as goal

abbrev pub invariant-loop-bytes : goal.invariant-loop-bytes
invariant-loop-bytes g l =
    let holds = g.L.Library.holds in
    let faults = g.L.Library.faults in
    record {
      room : 0 < length l.piece;
      within : length l.bytes.items ≤ l.size;
      same : holds l.library ≡ holds l.fn.library;
      none : faults l.library ≡ faults l.fn.library;
      others : NoneFailed (g.L.Library.faults_at l.fn.library) (g.L.Library.faults_at l.library);
      bytes : (file : List ℕ) → IsTold (holds l.fn.library) l.name file → l.bytes.items ≡ take (length l.bytes.items) file;
    }

abbrev pub decreases-loop-bytes : goal.decreases-loop-bytes
decreases-loop-bytes g l = l.size - length l.bytes.items
