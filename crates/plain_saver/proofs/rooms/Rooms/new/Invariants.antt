use Rattle.std.proofs.Common.{◌≡◌, [], length}
use Rattle.std.specs.Prelude.{All}
use Rattle.plain_saver.proofs.rooms.Rooms.new.Given as goal

-- so many nodes, which have no rooms
abbrev pub invariant-loop-node : goal.invariant-loop-node
invariant-loop-node l = (length l.nodes.items ≡ l._node-index) × All (λ own. own ≡ []) l.nodes.items
