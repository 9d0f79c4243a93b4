-- The drops of a history, as counts of its entries.
use Rattle.std.specs.Prelude.{ℕ, Bool, true, false, List, [], ◌∷◌, length, filter, flat_map}
use Rattle.std.specs.List.{list_any}
use Rattle.flow_journal.specs.declared.entry.Entry.{Entry}
use Rattle.flow_journal.specs.declared.entry.Entry.TheVariants.{Load, LoadRefused, Full, PoolDrop, SortDrop}
use Rattle.flow_journal.specs.Pasts.{Past}
use Rattle.flow_journal.specs.EntryTests.{is_full, is_pool_drop, is_sort_drop, is_refused_load, is_reclaim}
use Rattle.flow_journal.specs.Hands.{standing}

-- how many arrays found the node's queue full
abbrev pub fulls : ℕ → Past → ℕ
fulls v P = length (filter (is_full v) P)

-- for how many the pool refused the node a block
abbrev pub pool_drops : ℕ → Past → ℕ
pool_drops v P = length (filter (is_pool_drop v) P)

-- how many found its sort list full
abbrev pub sort_drops : ℕ → Past → ℕ
sort_drops v P = length (filter (is_sort_drop v) P)

-- the index of a load
abbrev pub load_index : Entry → List ℕ
load_index (Load r k b n f g x) = k ∷ []
load_index _ = []

-- the frames that were loaded for good, the newest first
abbrev pub loaded_frames : Past → List ℕ
loaded_frames P = flat_map load_index (standing P)

-- for how many the pool refused the driver a block
abbrev pub refused : Past → ℕ
refused P = length (filter is_refused_load P)

-- the entry drops something
abbrev pub drops : Entry → Bool
drops (Full w m k) = true
drops (PoolDrop r w m k n h) = true
drops (SortDrop w m k) = true
drops (LoadRefused r k n h) = true
drops _ = false

-- something was dropped
abbrev pub has_drop : Past → Bool
has_drop P = list_any drops P

-- a hand was taken back
abbrev pub has_reclaim : Past → Bool
has_reclaim P = list_any is_reclaim P
