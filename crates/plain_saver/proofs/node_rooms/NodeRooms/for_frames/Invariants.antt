use Rattle.std.proofs.Common.{◌≡◌, length}
use Rattle.std.specs.Prelude.{All, None}
use Rattle.plain_saver.proofs.node_rooms.NodeRooms.for_frames.Given as goal

-- so many rooms, which are empty
abbrev pub invariant-loop-place : goal.invariant-loop-place
invariant-loop-place l = (length l.rooms.items ≡ l._place) × All (λ room. room.index ≡ None) l.rooms.items
