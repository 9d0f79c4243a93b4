-- LAWS that tie what waits at a node to a sort list: the list holds what waits, the least first.
use Rattle.std.specs.Prelude.{◌≡◌, ℕ, List, [], ◌∷◌, ◌++◌, map, nat_lt, ◌-◌}
use Rattle.nd_base.specs.declared.frame.FrameName.{FrameName}
use Rattle.queue_sort.specs.declared.sort_lists.Waiting as listed
use Rattle.queue_sort.specs.Sorting as sorting
use Rattle.flow_journal.specs.Setting.{Setting}
use Rattle.flow_journal.specs.Waiting.{Waiting, not_waiting, least_first, id_of}

-- a waiting result as a sort list has it
abbrev pub as_listed : Setting → Waiting → listed.Waiting FrameName
as_listed s w = record { id = id_of s w; tick = w.tick; item = w.array }

-- what waits, as a sort list has it
abbrev pub as_list : Setting → List Waiting → List (listed.Waiting FrameName)
as_list s ws = map (as_listed s) (least_first s ws)

pub record SortListLaws : Type 0 where
  -- a result that comes to wait is placed as a sort list places it
  pub comes : (s : Setting) (ws : List Waiting) (w : Waiting) → as_list s (ws ++ w ∷ []) ≡ sorting.placed (as_listed s w) (as_list s ws)
  -- the first of the list is the least one, and the rest is the list without it
  pub goes : (s : Setting) (ws : List Waiting) (w : Waiting) (rest : List Waiting) → least_first s ws ≡ w ∷ rest
      → as_list s ws ≡ as_listed s w ∷ as_list s (not_waiting w.array ws)
  -- and it is late where the sort list says so
  pub late : (s : Setting) (w : Waiting) (now sort_time : ℕ) → sorting.is_late now sort_time (as_listed s w) ≡ nat_lt sort_time (now - w.tick)
