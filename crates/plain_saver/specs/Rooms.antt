-- The samples that are kept of the arrays that region nodes make.
use Rattle.std.specs.Prelude.{◌≡◌, ◌⊎◌, ℕ, ◌-◌, ◌%◌, ◌≤◌, List, [], length, Option, Some, IsSomeAnd, slice_get, slice_index_or, slice_set}
use Rattle.nd_base.specs.Array.{StackValue}
use Rattle.nd_base.specs.declared.graph.Graph.{Graph}
use Rattle.chain_plain.specs.Content.{IsContent}
use Rattle.chain_plain.specs.ContentLaws.{frame}
use Rattle.chain_plain.specs.Nodes.{maker_at}
use Rattle.plain_saver.specs.declared.node_rooms.Room.{Room}

-- the room of frame k among those of a node: number k modulo their count
abbrev pub own_room : List Room → ℕ → Option Room
own_room own k = slice_get own (k % length own)

-- the rooms of a node, where that of frame k is this one
abbrev pub with_own : List Room → ℕ → Room → List Room
with_own own k room = slice_set own (k % length own) room

-- the room of frame k has it
abbrev pub HasOwn : List Room → ℕ → Type 0
HasOwn own k = IsSomeAnd (own_room own k) (λ room. room.index ≡ Some k)

-- the rooms of node v, where the first of these are those of node 1
abbrev pub rooms_of : List (List Room) → ℕ → List Room
rooms_of rooms v = slice_index_or rooms (v - 1) []

-- the rooms of all nodes, where node v has these
abbrev pub with_rooms : List (List Room) → ℕ → List Room → List (List Room)
with_rooms rooms v own = slice_set rooms (v - 1) own

-- the rooms of all nodes, where that of frame k at node v is this one
abbrev pub with_room : List (List Room) → (v k : ℕ) → Room → List (List Room)
with_room rooms v k room = with_rooms rooms v (with_own (rooms_of rooms v) k room)

-- the room of frame k at node v has what the node makes of it
abbrev pub HasRegion : List (List Room) → (v k : ℕ) → Type 0
HasRegion rooms v k = HasOwn (rooms_of rooms v) k

-- each room that has a frame has the samples of this frame as they go out of node v
abbrev pub HasOnly : Graph → StackValue → (v : ℕ) → List Room → Type 0
HasOnly g s v own = (j k : ℕ) (room : Room) → slice_get own j ≡ Some room → room.index ≡ Some k → IsContent g s (frame v k) room.bytes

-- each room that has a frame has the samples of this frame as they go out of its node
abbrev pub AreCut : Graph → StackValue → List (List Room) → Type 0
AreCut g s rooms = (v : ℕ) → 1 ≤ v → HasOnly g s v (rooms_of rooms v)

-- the samples of frame k as they go out of node v are at hand: the stack has them, or the frame's room at their maker
abbrev pub HasFrame : Graph → List (List Room) → (v k : ℕ) → Type 0
HasFrame g rooms v k = (maker_at g.nodes v ≡ 0) ⊎ HasRegion rooms (maker_at g.nodes v) k

-- what is at hand of frame k stays at hand
abbrev pub KeepsFrames : Graph → (k : ℕ) → (old new : List (List Room)) → Type 0
KeepsFrames g k old new = (v : ℕ) → HasFrame g old v k → HasFrame g new v k

-- there are rooms for each node, with nothing but samples of its own
pub record AreRooms (g : Graph) (s : StackValue) (rooms : List (List Room)) : Type 0 where
  pub size : length rooms ≡ length g.nodes
  pub cut : AreCut g s rooms
