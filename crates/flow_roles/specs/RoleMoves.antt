-- Which moves a role makes, and what its pass says before its first call and between two calls.
use Rattle.std.specs.Prelude.{◌≡◌, ℕ, ◌==◌, Bool, true, [], None, is_none}
use Rattle.std.specs.List.{list_all}
use Rattle.flow_journal.specs.declared.entry.Entry.{Entry}
use Rattle.flow_journal.specs.declared.entry.Entry.TheVariants.{Load, LoadRefused, Issue, Take, TakeBlock, PoolDrop, Put, Settle, Save, Saved, Close, Leave}
use Rattle.flow_journal.specs.Hands.{hand}
use Rattle.board_rules.specs.States.{BoardState, past}
use Rattle.flow_journal.specs.MoveLists.{begun_by}
use Rattle.flow_journal.specs.Setting.{Setting}
use Rattle.flow_roles.specs.declared.last.Said.{Said}
use Rattle.flow_roles.specs.Lasts.{fresh_said, IsActive}
use Rattle.flow_roles.specs.Passes.{Pass, Called}

-- an entry of the feeder's moves: what begins no move goes on with one of these
abbrev pub feeder_logs : Entry → Bool
feeder_logs (Load r k b n f g x) = true
feeder_logs (LoadRefused r k n h) = true
feeder_logs (Issue r k) = true
feeder_logs (Close r) = true
feeder_logs (Leave r) = true
feeder_logs e = is_none (begun_by e)

-- an entry of the moves of a worker at node v
abbrev pub worker_logs : ℕ → Entry → Bool
worker_logs v (Take r w m k) = w == v
worker_logs v (TakeBlock f x r w m k b n g) = w == v
worker_logs v (PoolDrop r w m k n h) = w == v
worker_logs v (Put r w m k f) = w == v
worker_logs v (Settle r w) = w == v
worker_logs v (Leave r) = true
worker_logs v e = is_none (begun_by e)

-- an entry of the moves of the role that saves
abbrev pub saver_logs : Entry → Bool
saver_logs (Save r v m k g) = true
saver_logs (Saved r v m k) = true
saver_logs e = is_none (begun_by e)

-- the pass of this role, which has made no call yet
pub record IsFresh (r : ℕ) (p : Pass) : Type 0 where
  pub role : p.role ≡ r
  pub said : p.said ≡ fresh_said
  pub made : p.made ≡ []

-- the pass of this role, whose moves have such entries alone, and which has nothing in hand
pub record HasNothing (logs : Entry → Bool) (r : ℕ) (p : Pass) : Type 0 where
  pub role : p.role ≡ r
  pub moves : list_all logs (past p.made) ≡ true
  pub free : hand r (past p.made) ≡ None

-- a role's last call, before which it had nothing in hand
pub record HasAsked (s : Setting) (logs : Entry → Bool) (r : ℕ) (gives : BoardState → BoardState → Type 0) (answers : Said → Said) (p : Pass) : Type 0 where
  pub before : Pass
  pub nothing : HasNothing logs r before
  pub active : IsActive before.said
  pub called : Called s gives answers before p
