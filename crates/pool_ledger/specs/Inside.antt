-- How the tables of a pool are read.
use Rattle.std.specs.Prelude.{ℕ, ◌+◌, ◌*◌, ◌/◌, ◌%◌, ◌≡◌, ◌≤◌, ◌<◌, ◌==◌, ◌^◌, Bool, ◌&&◌, not, List, [], ◌∷◌, length, sum_by, if◌then◌else◌, vec_capacity}
use Rattle.std.specs.List.{AllByRecursion}
use Rattle.std.specs.VecDeque.{deque_capacity}
use Rattle.pool_ledger.specs.Grants.{Block}
use Rattle.pool_ledger.specs.Keys.{with_key}
use Rattle.pool_ledger.specs.Ledger.{Known, Ledger}
use Rattle.pool_ledger.specs.declared.pools.Slot.{Slot}
use Rattle.pool_ledger.specs.declared.pools.Pool.TheInside.{Inside}

-- the blocks of the slots from this number on
abbrev pub known_from : ℕ → List Slot → List Known
known_from i [] = []
known_from i (s ∷ ss) =
    if s.size == 0 then known_from (i + 1) ss else record { number = i; size = s.size; count = s.count } ∷ known_from (i + 1) ss

-- the numbers from this one on that name no block
abbrev pub unused_from : ℕ → List Slot → List ℕ
unused_from i [] = []
unused_from i (s ∷ ss) = if s.size == 0 then i ∷ unused_from (i + 1) ss else unused_from (i + 1) ss

-- the block has no hold
abbrev pub is_open : Slot → Bool
is_open s = not (s.size == 0) && (s.count == 0)

-- the key by which a free block stands in order
abbrev pub key_of : (size number : ℕ) → ℕ
key_of size number = size * 4294967296 + number

-- the keys of the free blocks in order
abbrev pub free_from : ℕ → List Slot → List ℕ
free_from i [] = []
free_from i (s ∷ ss) = if is_open s then with_key (key_of s.size i) (free_from (i + 1) ss) else free_from (i + 1) ss

-- the bytes of a slot's block, where it has a hold
abbrev pub held_bytes : Slot → ℕ
held_bytes s = if s.count == 0 then 0 else s.size

-- the block that a key stands for
abbrev pub block_at : ℕ → Block
block_at key = record { number = key % 4294967296; size = key / 4294967296 }

-- a slot that holds nothing
abbrev pub empty_slot : Slot
empty_slot = record { size = 0; count = 0 }

-- what the pool's callers see
abbrev pub ledger_of : Inside → Ledger
ledger_of a = record { limit = a.limit; room = a.room; known = known_from 0 a.slots.items; unnamed = a.unnamed.items }

-- What a pool's tables keep. The slots are no more than the room, which fits a number: so does the number that follows theirs, and a
-- grant can be told where the room is used up.
pub record IsSound (a : Inside) : Type 0 where
  pub slots_fit : length a.slots.items ≤ a.room
  pub slots_room : a.room ≤ vec_capacity a.slots
  pub room_fits : a.room < 2 ^ 32
  pub in_range : AllByRecursion (λ (s : Slot). (s.size < 2 ^ 32) × (s.size ≡ 0 → s.count ≡ 0)) a.slots.items
  pub free_keys : a.free.keys ≡ free_from 0 a.slots.items
  pub free_room : a.room ≤ a.free.room
  pub unused_keys : a.unused.keys ≡ unused_from 0 a.slots.items
  pub unused_room : a.room ≤ a.unused.room
  pub unnamed_fit : length a.unnamed.items + length (known_from 0 a.slots.items) ≤ a.room
  pub unnamed_room : a.room ≤ deque_capacity a.unnamed
  pub standing_is : a.standing ≡ sum_by (λ (s : Slot). s.size) a.slots.items
  pub held_is : a.held ≡ sum_by held_bytes a.slots.items
