-- LAWS of the pool account: what each entry of a legal log does to the block of a frame, to the count of a block, and to the known blocks.
use Rattle.std.specs.Prelude.{◌≡◌, ◌≢◌, ℕ, ◌+◌, ◌==◌, ◌≤◌, ◌<◌, nat_lt, Bool, true, false, List, [], ◌∷◌, ◌++◌, length, filter, flat_map, map, Some}
use Rattle.nd_base.specs.declared.frame.FrameName.{FrameName}
use Rattle.pool_ledger.specs.Grants.{Block, sizes, Granted, known_after}
use Rattle.flow_journal.specs.declared.entry.Entry.{Entry}
use Rattle.flow_journal.specs.declared.entry.Entry.TheVariants.{Load, LoadRefused, Tick, Issue, Emit, Accept, Full, Take, TakeBlock, PoolDrop, Put}
use Rattle.flow_journal.specs.declared.entry.Entry.TheVariants.{SortDrop, Settle, Save, Saved, Close, Leave, Reclaim}
use Rattle.flow_journal.specs.declared.entry.Why.{Why}
use Rattle.flow_journal.specs.Setting.{Setting, Watches, node, may_sort, is_sorted}
use Rattle.flow_journal.specs.Pasts.{Past, frame, same}
use Rattle.flow_journal.specs.Hands.{hand}
use Rattle.flow_journal.specs.Waiting.{waiting}
use Rattle.flow_journal.specs.Rings.{ring}
use Rattle.flow_journal.specs.Unsaved.{unsaved, is_file}
use Rattle.flow_journal.specs.Accounts.{block_of, blocks_in_hand, refs, is_unplaced, known, held}
use Rattle.flow_journal.specs.Histories.{is_legal}

-- how many of these blocks are b
abbrev pub times_among : ℕ → List ℕ → ℕ
times_among b bs = length (filter (λ c. c == b) bs)

-- how many of these arrays have the block b
abbrev pub times_held : Past → ℕ → List FrameName → ℕ
times_held P b xs = times_among b (flat_map (block_of P) xs)

-- the arrays that wait at the node, are in its ring and unsaved
abbrev pub kept_at : Setting → Past → ℕ → List FrameName
kept_at s P v = map (λ w. w.array) (waiting s v P) ++ ring s v P ++ unsaved s v P

-- the entry gives a frame its block, or may take it away
abbrev pub moves_blocks : Entry → Bool
moves_blocks (Load r k b n f g x) = true
moves_blocks (TakeBlock f x r v m k b n g) = true
moves_blocks (Reclaim r) = true
moves_blocks _ = false

-- A frame has one block at most: a Load and a TakeBlock give it to the frame that is made, and a Reclaim of the hand takes it away.
pub record BlockLaws : Type 0 where
  pub one : (P : Past) (a : FrameName) → length (block_of P a) ≤ 1
  pub load : (s : Setting) (r k b n : ℕ) (f : Bool) (g : ℕ) (x : Bool) (P : Past) → is_legal s (Load r k b n f g x ∷ P) ≡ true
      → block_of (Load r k b n f g x ∷ P) (frame 0 k) ≡ b ∷ []
  pub load_other : (r k b n : ℕ) (f : Bool) (g : ℕ) (x : Bool) (P : Past) (a : FrameName) → same a (frame 0 k) ≡ false
      → block_of (Load r k b n f g x ∷ P) a ≡ block_of P a
  pub take_block : (s : Setting) (r v m k b n : ℕ) (f : Bool) (g : ℕ) (x : Bool) (P : Past) → is_legal s (TakeBlock f x r v m k b n g ∷ P) ≡ true
      → block_of (TakeBlock f x r v m k b n g ∷ P) (frame v k) ≡ b ∷ []
  pub take_block_other : (r v m k b n : ℕ) (f : Bool) (g : ℕ) (x : Bool) (P : Past) (a : FrameName) → same a (frame v k) ≡ false
      → block_of (TakeBlock f x r v m k b n g ∷ P) a ≡ block_of P a
  pub in_hand_load : (s : Setting) (r q k b n : ℕ) (f : Bool) (g : ℕ) (x : Bool) (P : Past) → is_legal s P ≡ true
      → hand r P ≡ Some (Load q k b n f g x) → block_of P (frame 0 k) ≡ b ∷ []
  pub in_hand_block : (s : Setting) (r q v m k b n : ℕ) (f : Bool) (g : ℕ) (x : Bool) (P : Past) → is_legal s P ≡ true
      → hand r P ≡ Some (TakeBlock f x q v m k b n g) → block_of P (frame v k) ≡ b ∷ []
  pub reclaim_load : (s : Setting) (r q k b n : ℕ) (f : Bool) (g : ℕ) (x : Bool) (P : Past) (a : FrameName) → is_legal s P ≡ true
      → hand r P ≡ Some (Load q k b n f g x) → same a (frame 0 k) ≡ false → block_of (Reclaim r ∷ P) a ≡ block_of P a
  pub reclaim_block : (s : Setting) (r q v m k b n : ℕ) (f : Bool) (g : ℕ) (x : Bool) (P : Past) (a : FrameName) → is_legal s P ≡ true
      → hand r P ≡ Some (TakeBlock f x q v m k b n g) → same a (frame v k) ≡ false → block_of (Reclaim r ∷ P) a ≡ block_of P a
  pub reclaim_other : (s : Setting) (r : ℕ) (e : Entry) (P : Past) (a : FrameName) → is_legal s P ≡ true → hand r P ≡ Some e → moves_blocks e ≡ false
      → block_of (Reclaim r ∷ P) a ≡ block_of P a
  pub others : (e : Entry) (P : Past) (a : FrameName) → moves_blocks e ≡ false → block_of (e ∷ P) a ≡ block_of P a

-- the entry changes no count
abbrev pub keeps_counts : Entry → Bool
keeps_counts (LoadRefused r k n h) = true
keeps_counts (Tick t) = true
keeps_counts (Full v m k) = true
keeps_counts (Take r v m k) = true
keeps_counts (Save r v m k g) = true
keeps_counts (Close r) = true
keeps_counts (Leave r) = true
keeps_counts _ = false

-- THE COUNT OF A BLOCK. One more place has the granted block of a Load and of a TakeBlock, and the block of an array that is accepted. One
-- place fewer has that of an array that is issued, dropped, saved or goes out of a sort list. A take and a save move an array from one place
-- to another, and so does a reclaim that gives it back. What a put lets go is the hand, and what it adds is what the node keeps then.
pub record CountLaws : Type 0 where
  pub load : (s : Setting) (r k c n : ℕ) (f : Bool) (g : ℕ) (x : Bool) (P : Past) (b : ℕ) → is_legal s (Load r k c n f g x ∷ P) ≡ true
      → refs s (Load r k c n f g x ∷ P) b ≡ refs s P b + times_among b (c ∷ [])
  pub take_block : (s : Setting) (r v m k c n : ℕ) (f : Bool) (g : ℕ) (x : Bool) (P : Past) (b : ℕ) → is_legal s (TakeBlock f x r v m k c n g ∷ P) ≡ true
      → refs s (TakeBlock f x r v m k c n g ∷ P) b ≡ refs s P b + times_among b (c ∷ [])
  pub accept : (s : Setting) (v m k : ℕ) (P : Past) (b : ℕ) → is_legal s (Accept v m k ∷ P) ≡ true
      → refs s (Accept v m k ∷ P) b ≡ refs s P b + times_held P b (frame m k ∷ [])
  pub issue : (s : Setting) (r k : ℕ) (P : Past) (b : ℕ) → is_legal s (Issue r k ∷ P) ≡ true
      → refs s P b ≡ refs s (Issue r k ∷ P) b + times_held P b (frame 0 k ∷ [])
  pub pool_drop : (s : Setting) (r v m k n h : ℕ) (P : Past) (b : ℕ) → is_legal s (PoolDrop r v m k n h ∷ P) ≡ true
      → refs s P b ≡ refs s (PoolDrop r v m k n h ∷ P) b + times_held P b (frame m k ∷ [])
  pub saved : (s : Setting) (r v m k : ℕ) (P : Past) (b : ℕ) → is_legal s (Saved r v m k ∷ P) ≡ true
      → refs s P b ≡ refs s (Saved r v m k ∷ P) b + times_held P b (frame m k ∷ [])
  pub sort_drop : (s : Setting) (v m k : ℕ) (P : Past) (b : ℕ) → is_sorted s v ≡ true → is_legal s (SortDrop v m k ∷ P) ≡ true
      → refs s P b ≡ refs s (SortDrop v m k ∷ P) b + times_held P b (frame m k ∷ [])
  pub emit_sorted : (s : Setting) (v m k : ℕ) (why : Why) (P : Past) (b : ℕ) → is_sorted s v ≡ true → is_legal s (Emit v m k why ∷ P) ≡ true
      → refs s P b ≡ refs s (Emit v m k why ∷ P) b + times_held P b (frame m k ∷ [])
  pub emit_unsorted : (s : Setting) (v m k : ℕ) (why : Why) (P : Past) (b : ℕ) → is_sorted s v ≡ false → is_legal s (Emit v m k why ∷ P) ≡ true
      → refs s (Emit v m k why ∷ P) b ≡ refs s P b
  pub settle : (s : Setting) (r v : ℕ) (P : Past) (b : ℕ) → is_legal s (Settle r v ∷ P) ≡ true
      → refs s P b ≡ refs s (Settle r v ∷ P) b + times_held P b (ring s v P)
  pub put : (s : Setting) (r v m k : ℕ) (f : Bool) (e : Entry) (P : Past) (b : ℕ) → is_legal s (Put r v m k f ∷ P) ≡ true → hand r P ≡ Some e
      → refs s (Put r v m k f ∷ P) b + times_among b (blocks_in_hand P e) + times_held P b (kept_at s P v)
      ≡ refs s P b + times_held P b (kept_at s (Put r v m k f ∷ P) v)
  pub reclaim_load : (s : Setting) (r q k c n : ℕ) (f : Bool) (g : ℕ) (x : Bool) (P : Past) (b : ℕ) → is_legal s (Reclaim r ∷ P) ≡ true
      → hand r P ≡ Some (Load q k c n f g x) → refs s P b ≡ refs s (Reclaim r ∷ P) b + times_among b (c ∷ [])
  pub reclaim_block : (s : Setting) (r q v m k c n : ℕ) (f : Bool) (g : ℕ) (x : Bool) (P : Past) (b : ℕ) → is_legal s (Reclaim r ∷ P) ≡ true
      → hand r P ≡ Some (TakeBlock f x q v m k c n g) → refs s P b ≡ refs s (Reclaim r ∷ P) b + times_among b (c ∷ [])
  pub reclaim_other : (s : Setting) (r : ℕ) (e : Entry) (P : Past) (b : ℕ) → is_legal s (Reclaim r ∷ P) ≡ true → hand r P ≡ Some e → moves_blocks e ≡ false
      → refs s (Reclaim r ∷ P) b ≡ refs s P b
  pub others : (s : Setting) (e : Entry) (P : Past) (b : ℕ) → keeps_counts e ≡ true → is_legal s (e ∷ P) ≡ true → refs s (e ∷ P) b ≡ refs s P b

-- WHAT A NODE KEEPS. A sorted node and a file node keep each array that is put. An unsorted one that makes or passes arrays on keeps none,
-- and a circular one its ring.
pub record KeptLaws : Type 0 where
  pub sorted : (s : Setting) (r v m k : ℕ) (f : Bool) (P : Past) → is_sorted s v ≡ true → kept_at s (Put r v m k f ∷ P) v ≡ kept_at s P v ++ frame m k ∷ []
  pub file : (s : Setting) (r v m k : ℕ) (f : Bool) (P : Past) → is_file (node s v).work ≡ true → is_legal s P ≡ true
      → kept_at s (Put r v m k f ∷ P) v ≡ kept_at s P v ++ frame m k ∷ []
  pub unsorted : (s : Setting) (v : ℕ) (P : Past) → may_sort (node s v).work ≡ true → is_sorted s v ≡ false → kept_at s P v ≡ []
  pub watched : (s : Setting) (v pre post preset : ℕ) (P : Past) → (node s v).work ≡ Watches pre post preset → kept_at s P v ≡ ring s v P

abbrev pub grants : Entry → Bool
grants (Load r k b n f g x) = true
grants (TakeBlock f x r v m k b n g) = true
grants _ = false

-- the bytes of the known block of this number, 0 where there is none
abbrev pub size_of : ℕ → List Block → ℕ
size_of b bs = sizes (filter (λ k. k.number == b) bs)

-- The known blocks follow the grants alone, and no number is that of two.
pub record KnownLaws : Type 0 where
  pub load : (s : Setting) (r k b n : ℕ) (f : Bool) (g : ℕ) (x : Bool) (P : Past)
      → known s (Load r k b n f g x ∷ P) ≡ known_after (is_unplaced s P) (Granted b n f g) (known s P)
  pub take_block : (s : Setting) (r v m k b n : ℕ) (f : Bool) (g : ℕ) (x : Bool) (P : Past)
      → known s (TakeBlock f x r v m k b n g ∷ P) ≡ known_after (is_unplaced s P) (Granted b n f g) (known s P)
  pub others : (s : Setting) (e : Entry) (P : Past) → grants e ≡ false → known s (e ∷ P) ≡ known s P
  pub numbers : (s : Setting) (b : ℕ) (P : Past) → is_legal s P ≡ true → length (filter (λ k. k.number == b) (known s P)) ≤ 1

-- Held is more by the size of each granted block. Else it changes by the size of a block that gets its first place or loses its last.
pub record HeldLaws : Type 0 where
  pub load : (s : Setting) (r k b n : ℕ) (f : Bool) (g : ℕ) (x : Bool) (P : Past) → s.pooled ≡ true → is_legal s (Load r k b n f g x ∷ P) ≡ true
      → held s (Load r k b n f g x ∷ P) ≡ held s P + n
  pub take_block : (s : Setting) (r v m k b n : ℕ) (f : Bool) (g : ℕ) (x : Bool) (P : Past) → s.pooled ≡ true
      → is_legal s (TakeBlock f x r v m k b n g ∷ P) ≡ true → held s (TakeBlock f x r v m k b n g ∷ P) ≡ held s P + n
  pub same_places : (s : Setting) (P Q : Past) → known s Q ≡ known s P → ((b : ℕ) → nat_lt 0 (refs s Q b) ≡ nat_lt 0 (refs s P b)) → held s Q ≡ held s P
  pub one_more : (s : Setting) (P Q : Past) (c : ℕ) → known s Q ≡ known s P → ((b : ℕ) → b ≢ c → refs s Q b ≡ refs s P b) → refs s P c ≡ 0 → 0 < refs s Q c
      → held s Q ≡ held s P + size_of c (known s P)
