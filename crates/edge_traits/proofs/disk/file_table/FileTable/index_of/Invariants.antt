use Rattle.edge_traits.proofs.BegunFiles.{Searched}
use Rattle.edge_traits.proofs.disk.file_table.FileTable.index_of.Given as goal

abbrev pub invariant-loop-index : goal.invariant-loop-index
invariant-loop-index g l = Searched l.self l.name l.index
