-- Tests of a single entry, by its kind and its node: of drops, refusals, storage that was made again, hands that were taken back, and ticks.
use Rattle.std.specs.Prelude.{ℕ, ◌==◌, Bool, true, false}
use Rattle.flow_journal.specs.declared.entry.Entry.{Entry}
use Rattle.flow_journal.specs.declared.entry.Entry.TheVariants.{Load, LoadRefused, Tick, Full, TakeBlock, PoolDrop, SortDrop, Reclaim}

-- the node's queue was full
abbrev pub is_full : ℕ → Entry → Bool
is_full v (Full w m k) = w == v
is_full v _ = false

-- the pool refused the node a block
abbrev pub is_pool_drop : ℕ → Entry → Bool
is_pool_drop v (PoolDrop r w m k n h) = w == v
is_pool_drop v _ = false

-- the node's sort list was full
abbrev pub is_sort_drop : ℕ → Entry → Bool
is_sort_drop v (SortDrop w m k) = w == v
is_sort_drop v _ = false

-- the pool refused the driver a block
abbrev pub is_refused_load : Entry → Bool
is_refused_load (LoadRefused r k n h) = true
is_refused_load _ = false

-- a block was granted whose storage had to be made again
abbrev pub says_regrown : Entry → Bool
says_regrown (Load r k b n f g x) = x
says_regrown (TakeBlock f x r v m k b n g) = x
says_regrown _ = false

-- a hand was taken back
abbrev pub is_reclaim : Entry → Bool
is_reclaim (Reclaim r) = true
is_reclaim _ = false

abbrev pub is_tick : Entry → Bool
is_tick (Tick t) = true
is_tick _ = false
