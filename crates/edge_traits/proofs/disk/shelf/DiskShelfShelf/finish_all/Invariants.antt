use Rattle.std.proofs.Common.{◌≡◌, length}
use Rattle.edge_traits.proofs.disk.shelf.DiskShelfShelf.finish_all.Given as goal

abbrev pub invariant-loop-file : goal.invariant-loop-file
invariant-loop-file g l = l.self.faults ≡ l.initial.self.faults

abbrev pub decreases-loop-file : goal.decreases-loop-file
decreases-loop-file g l = length l.self.files
