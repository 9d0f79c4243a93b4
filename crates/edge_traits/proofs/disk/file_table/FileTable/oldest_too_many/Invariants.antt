use Rattle.std.proofs.Common.{◌≤◌, ◌<◌, length, IfSome}
use Rattle.edge_traits.proofs.disk.file_table.FileTable.oldest_too_many.Given as goal

abbrev pub invariant-loop-index : goal.invariant-loop-index
invariant-loop-index g l = (l.open ≤ l.index) × IfSome l.oldest (λ i. i < length l.self)
