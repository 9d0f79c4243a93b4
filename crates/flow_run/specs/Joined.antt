-- The board of a run once all roles have ended.
use Rattle.std.specs.Prelude.{◌≡◌, ℕ, ◌<◌, Bool, true, List, [], length, Some, slice_get, Option}
use Rattle.std.specs.List.{list_all}
use Rattle.edge_traits.specs.Ticks.{Coming}
use Rattle.frame_store.specs.Sealed.{Sealed}
use Rattle.flow_journal.specs.Setting.{Setting, last_role}
use Rattle.flow_journal.specs.Histories.{is_history}
use Rattle.board_rules.specs.declared.answers.Left.{Left}
use Rattle.board_rules.specs.States.{BoardState, past}
use Rattle.board_rules.specs.Movers.{moves_by}
use Rattle.board_rules.specs.Storage.{HasAllStorage}
use Rattle.flow_roles.specs.Passes.{Pass, only_drain_saves}
use Rattle.flow_roles.specs.RoleMoves.{saver_logs, IsFresh}
use Rattle.flow_roles.specs.Feeder.{parts_of}
use Rattle.flow_roles.specs.FeederTicks.{FeedsByTheClock}
use Rattle.flow_roles.specs.TurnPasses.{HasMade}
use Rattle.flow_roles.specs.Workers.{posts}
use Rattle.flow_run.specs.Seats.{IsRoleEnd}

-- What the passes of all roles say of it. Item k of each list is that of role k, and left what it left; the last role has only saved. Nothing of the storage
-- has stayed away.
pub record IsJoined {O : Type 0} (s : Setting) (b : BoardState) (passes : List Pass) (lefts : List (Left Sealed (List ℕ) O)) (saver : Pass) : Type 0 where
  pub legal : is_history s (past b) ≡ true
  pub drained : only_drain_saves s (past b) ≡ true
  pub storage : HasAllStorage parts_of b
  pub passes_many : length passes ≡ last_role s
  pub lefts_many : length lefts ≡ last_role s
  pub each : (k v : ℕ) (p : Pass) (left : Left Sealed (List ℕ) O) → slice_get (posts s) k ≡ Some v → slice_get passes k ≡ Some p → slice_get lefts k ≡ Some left
      → HasMade b p × ((want : Bool) × IsRoleEnd s k v p left want)
  pub last_made : HasMade b saver
  pub last_is : saver.role ≡ last_role s
  pub last_moves : list_all saver_logs (past saver.made) ≡ true
  pub others : (r : ℕ) → last_role s < r → moves_by r b ≡ []

-- the feeder was handed the clock's answers up to now
pub record IsFedUntil (s : Setting) (b : BoardState) (old now : Option Coming) : Type 0 where
  pub first : Pass
  pub fresh : IsFresh 0 first
  pub last : Pass
  pub made : HasMade b last
  pub feeds : FeedsByTheClock s first last old now
