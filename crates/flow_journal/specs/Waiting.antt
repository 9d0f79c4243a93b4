-- The results that wait in the sort list of a node.
use Rattle.std.specs.Prelude.{ℕ, ℤ, ◌==◌, List, [], ◌∷◌, if◌then◌else◌}
use Rattle.nd_base.specs.declared.frame.FrameName.{FrameName}
use Rattle.queue_sort.specs.ById.{placed_by}
use Rattle.flow_journal.specs.declared.entry.Entry.TheVariants.{Emit, Put, SortDrop}
use Rattle.flow_journal.specs.Setting.{Setting, id_at, is_sorted}
use Rattle.flow_journal.specs.Pasts.{Past, frame, same, comes_at}
use Rattle.flow_journal.specs.Ended.{now}

-- a result that waits, with the tick that was kept at its Put
pub record Waiting : Type 0 where
  pub array : FrameName
  pub tick : ℕ

-- these without the first that is a
abbrev pub not_waiting : FrameName → List Waiting → List Waiting
not_waiting a [] = []
not_waiting a (x ∷ xs) = if same x.array a then xs else x ∷ not_waiting a xs

-- the results put at a sorted node that neither went out nor were dropped, in the order of their Puts
abbrev pub waiting : Setting → ℕ → Past → List Waiting
waiting s v [] = []
waiting s v (Put r w m k f ∷ P) = if is_sorted s v then comes_at v w (record { array = frame m k; tick = now P }) (waiting s v P) else []
waiting s v (Emit w m k why ∷ P) = if w == v then not_waiting (frame m k) (waiting s v P) else waiting s v P
waiting s v (SortDrop w m k ∷ P) = if w == v then not_waiting (frame m k) (waiting s v P) else waiting s v P
waiting s v (e ∷ P) = waiting s v P

-- the id of a result that waits
abbrev pub id_of : Setting → Waiting → ℤ
id_of s w = id_at s w.array.index

-- with these one after the other, each at the place of its id
abbrev pub placed_all : Setting → List Waiting → List Waiting → List Waiting
placed_all s done [] = done
placed_all s done (w ∷ ws) = placed_all s (placed_by (id_of s) w done) ws

-- these by id, the least first, and those of one id in the order of their Puts
abbrev pub least_first : Setting → List Waiting → List Waiting
least_first s ws = placed_all s [] ws
