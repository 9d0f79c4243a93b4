-- Whose moves the entries of a log are, and that each role has made its own.
use Rattle.std.specs.Prelude.{◌≡◌, ℕ, suc, ◌<◌, true, false, [], map, Some, slice_get}
use Rattle.std.specs.List.{list_all}
use Rattle.flow_journal.specs.Setting.{Setting, last_role}
use Rattle.flow_journal.specs.Pasts.{Past}
use Rattle.flow_journal.specs.Ended.{has_left_any, was_reclaimed}
use Rattle.board_rules.specs.States.{past, plain}
use Rattle.board_rules.specs.Movers.{moves_by}
use Rattle.flow_roles.specs.RoleMoves.{feeder_logs, worker_logs, saver_logs}
use Rattle.flow_roles.specs.Workers.{workers}

-- the moves of a role, whole
abbrev pub entries_by : ℕ → Past → Past
entries_by r P = past (moves_by r (map plain P))

-- Where no role has left, no hand was taken back, the feeder has only fed, each worker has only worked at its own node, and the last role
-- has only saved: so the roles have done the work. No other role has made a move, whether one has left or not.
pub record AreOwnMoves (s : Setting) (P : Past) : Type 0 where
  pub reclaims : has_left_any P ≡ false → (r : ℕ) → was_reclaimed r P ≡ false
  pub feeder : has_left_any P ≡ false → list_all feeder_logs (entries_by 0 P) ≡ true
  pub workers_are : has_left_any P ≡ false → (k v : ℕ) → slice_get (workers s) k ≡ Some v → list_all (worker_logs v) (entries_by (suc k) P) ≡ true
  pub last : has_left_any P ≡ false → list_all saver_logs (entries_by (last_role s) P) ≡ true
  pub others : (r : ℕ) → last_role s < r → entries_by r P ≡ []
