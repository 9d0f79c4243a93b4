use Rattle.edge_traits.proofs.Arenas.{SearchedTo}
use Rattle.edge_traits.proofs.memory.arena.find_place.Given as goal

abbrev pub invariant-loop-index : goal.invariant-loop-index
invariant-loop-index l = SearchedTo l.extents l.storage l.name l.index l.start
