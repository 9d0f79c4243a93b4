-- The pool account: which places have a block, which blocks are known, and what a request is granted.
use Rattle.std.specs.Prelude.{ℕ, ◌==◌, Bool, false, nat_lt, List, [], ◌∷◌, ◌++◌, length, filter, flat_map, map, if◌then◌else◌}
use Rattle.nd_base.specs.declared.frame.FrameName.{FrameName}
use Rattle.pool_ledger.specs.Grants.{Block, sizes, Answer, Granted, granted, known_after}
use Rattle.flow_journal.specs.declared.entry.Entry.{Entry}
use Rattle.flow_journal.specs.declared.entry.Entry.TheVariants.{Load, Take, TakeBlock, Save}
use Rattle.flow_journal.specs.Setting.{Setting, node_numbers}
use Rattle.flow_journal.specs.Pasts.{Past, frame, same}
use Rattle.flow_journal.specs.Hands.{hands, standing}
use Rattle.flow_journal.specs.Queued.{queued}
use Rattle.flow_journal.specs.Waiting.{waiting}
use Rattle.flow_journal.specs.Rings.{ring}
use Rattle.flow_journal.specs.Unsaved.{unsaved}

-- PLACES

-- the block that the entry gives a frame: a Load its own, and a TakeBlock the one that the node makes
abbrev pub granted_for : FrameName → Entry → List ℕ
granted_for a (Load r k b n f g x) = if same a (frame 0 k) then b ∷ [] else []
granted_for a (TakeBlock f x r v m k b n g) = if same a (frame v k) then b ∷ [] else []
granted_for a _ = []

abbrev pub first_of : List ℕ → List ℕ
first_of [] = []
first_of (b ∷ bs) = b ∷ []

-- the block of a frame, if it has one: that of its standing Load or TakeBlock
abbrev pub block_of : Past → FrameName → List ℕ
block_of P a = first_of (flat_map (granted_for a) (standing P))

-- the blocks of a hand: that of its array, or the loaded one; and that of a job's output besides
abbrev pub blocks_in_hand : Past → Entry → List ℕ
blocks_in_hand P (Load r k b n f g x) = b ∷ []
blocks_in_hand P (Take r v m k) = block_of P (frame m k)
blocks_in_hand P (TakeBlock f x r v m k b n g) = b ∷ block_of P (frame m k)
blocks_in_hand P (Save r v m k g) = block_of P (frame m k)
blocks_in_hand P _ = []

-- the arrays that are at a node
abbrev pub arrays_at : Setting → Past → ℕ → List FrameName
arrays_at s P v = queued v P ++ map (λ w. w.array) (waiting s v P) ++ ring s v P ++ unsaved s v P

-- the block of each place
abbrev pub places : Setting → Past → List ℕ
places s P = flat_map (blocks_in_hand P) (hands P) ++ flat_map (block_of P) (flat_map (arrays_at s P) (node_numbers s))

-- a block's count: how many places have it
abbrev pub refs : Setting → Past → ℕ → ℕ
refs s P b = length (filter (λ c. c == b) (places s P))

-- no place has the block
abbrev pub is_unplaced : Setting → Past → ℕ → Bool
is_unplaced s P b = refs s P b == 0

-- KNOWN BLOCKS

-- the known blocks: they follow the grants
abbrev pub known : Setting → Past → List Block
known s [] = []
known s (Load r k b n f g x ∷ P) = known_after (is_unplaced s P) (Granted b n f g) (known s P)
known s (TakeBlock f x r v m k b n g ∷ P) = known_after (is_unplaced s P) (Granted b n f g) (known s P)
known s (e ∷ P) = known s P

-- the bytes of the blocks that have a place
abbrev pub held : Setting → Past → ℕ
held s P = sizes (filter (λ b. nat_lt 0 (refs s P b.number)) (known s P))

-- what a request of n bytes is granted
abbrev pub grant : Setting → Past → ℕ → Answer
grant s P n = if s.pooled then granted s.limit n (held s P) (is_unplaced s P) (known s P) else Granted 0 0 false 0
