-- LAWS of the order in which waiting results go out.
use Rattle.std.specs.Prelude.{◌≡◌, List, [], ◌∷◌, ◌++◌, length, ℤ, ◌≤ℤ◌}
use Rattle.std.specs.List.{All}
use Rattle.std.specs.List.Sorted.{IsPermutation}
use Rattle.nd_base.specs.declared.frame.FrameName.{FrameName}
use Rattle.queue_sort.specs.ById.{AreById, placed_by, with_id}
use Rattle.flow_journal.specs.Setting.{Setting}
use Rattle.flow_journal.specs.Waiting.{Waiting, not_waiting, id_of, least_first}

-- w is the least of these: no id is below its own, and no other of its id was put before it
pub record IsLeast (s : Setting) (w : Waiting) (ws : List Waiting) : Type 0 where
  pub below : All (λ v. id_of s w ≤ℤ id_of s v) ws
  pub before : (later : List Waiting) × (with_id (id_of s) (id_of s w) ws ≡ w ∷ later)

-- `least_first` is the one order of what waits that goes by id, and by puts for each id. The first is the least, and the rest is the
-- order of what waits without it.
pub record LeastLaws : Type 0 where
  pub same_ones : (s : Setting) (ws : List Waiting) → IsPermutation ws (least_first s ws)
  pub by_id : (s : Setting) (ws : List Waiting) → AreById (id_of s) (least_first s ws)
  pub in_turn : (s : Setting) (i : ℤ) (ws : List Waiting) → with_id (id_of s) i (least_first s ws) ≡ with_id (id_of s) i ws
  pub only : (s : Setting) (xs ws : List Waiting) → AreById (id_of s) xs → ((i : ℤ) → with_id (id_of s) i xs ≡ with_id (id_of s) i ws) → xs ≡ least_first s ws
  pub least : (s : Setting) (ws : List Waiting) (w : Waiting) (rest : List Waiting) → least_first s ws ≡ w ∷ rest → IsLeast s w ws
  pub none : (s : Setting) (ws : List Waiting) → least_first s ws ≡ [] → ws ≡ []
  pub count : (s : Setting) (ws : List Waiting) → length (least_first s ws) ≡ length ws
  pub comes : (s : Setting) (ws : List Waiting) (w : Waiting) → least_first s (ws ++ w ∷ []) ≡ placed_by (id_of s) w (least_first s ws)
  pub goes : (s : Setting) (ws : List Waiting) (a : FrameName) → least_first s (not_waiting a ws) ≡ not_waiting a (least_first s ws)
  pub left : (s : Setting) (ws : List Waiting) (w : Waiting) (rest : List Waiting) → least_first s ws ≡ w ∷ rest → least_first s (not_waiting w.array ws) ≡ rest
