-- LAWS: a drop comes only at a full queue, a refused pool or a full sort list.
use Rattle.std.specs.Prelude.{◌≡◌, ℕ, true, false, List, [], ◌∷◌, ◌++◌, length}
use Rattle.flow_journal.specs.declared.entry.Entry.TheVariants.{LoadRefused, Full, PoolDrop, SortDrop}
use Rattle.flow_journal.specs.Setting.{Setting, node, id_at, is_sorted}
use Rattle.flow_journal.specs.Pasts.{Past, frame}
use Rattle.flow_journal.specs.Ended.{now}
use Rattle.flow_journal.specs.Queued.{has_room}
use Rattle.flow_journal.specs.Waiting.{Waiting, waiting}
use Rattle.queue_sort.specs.Sorting.{keeps_step}
use Rattle.flow_journal.specs.Breaks.{prev}
use Rattle.flow_journal.specs.Histories.{is_legal}
use Rattle.flow_journal.specs.RowFacts.{RefusalFacts}

-- the sort list is full: as many other results wait as it takes, and this one, which was put last, keeps no step
pub record FullListFacts (s : Setting) (v m k : ℕ) (P : Past) : Type 0 where
  pub sorted : is_sorted s v ≡ true
  pub others : List Waiting
  pub own : waiting s v P ≡ others ++ record { array = frame m k; tick = now P } ∷ []
  pub full : length others ≡ (node s v).sort
  pub out_of_step : keeps_step (prev s v P) (id_at s k) ≡ false

-- an array is dropped only where the queue takes no more
abbrev pub FullQueuesDrop : Type 0
FullQueuesDrop = (s : Setting) (newer P : Past) (v m k : ℕ) → is_legal s (newer ++ Full v m k ∷ P) ≡ true → has_room s P v ≡ false

-- or where the pool refuses the node the block of its output
abbrev pub RefusedPoolsDrop : Type 0
RefusedPoolsDrop = (s : Setting) (newer P : Past) (r v m k n h : ℕ) → is_legal s (newer ++ PoolDrop r v m k n h ∷ P) ≡ true → RefusalFacts s v n h P

-- a result is dropped only where the sort list is full
abbrev pub FullListsDrop : Type 0
FullListsDrop = (s : Setting) (newer P : Past) (v m k : ℕ) → is_legal s (newer ++ SortDrop v m k ∷ P) ≡ true → FullListFacts s v m k P

-- and a frame is refused only where the pool refuses the driver its block
abbrev pub RefusedPoolsRefuse : Type 0
RefusedPoolsRefuse = (s : Setting) (newer P : Past) (r k n h : ℕ) → is_legal s (newer ++ LoadRefused r k n h ∷ P) ≡ true → RefusalFacts s 0 n h P
