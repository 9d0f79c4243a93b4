-- The clock of a run: the ticks that its loads were handed.
use Rattle.std.specs.Prelude.{◌≡◌, ◌≢◌, ℕ, ◌==◌, Bool, true, false, nat_lt, Option}
use Rattle.std.specs.List.{list_any}
use Rattle.edge_traits.specs.Ticks.{Coming, Ticks}
use Rattle.flow_journal.specs.declared.entry.Entry.{Entry}
use Rattle.flow_journal.specs.declared.entry.Entry.TheVariants.{Load, LoadRefused, Save, Saved, Reclaim}
use Rattle.flow_journal.specs.Setting.{Setting, last_role}
use Rattle.flow_journal.specs.Pasts.{Past}
use Rattle.board_rules.specs.declared.told.Told.{Told}
use Rattle.board_rules.specs.States.{BoardState, past}
use Rattle.board_rules.specs.Moving.{moved_at}
use Rattle.flow_roles.specs.Passes.{Pass}
use Rattle.flow_roles.specs.RoleMoves.{IsFresh}
use Rattle.flow_roles.specs.FeederTicks.{FeedsByTheClock}
use Rattle.flow_roles.specs.TurnPasses.{HasMade}
use Rattle.flow_drain.specs.Drains.{is_drains, is_load}

-- the entry begins a move that comes once all roles have ended: the hand of one is taken back, or the last role feeds, works or saves
abbrev pub is_after : Setting → Entry → Bool
is_after s (Reclaim r) = nat_lt r (last_role s)
is_after s (Save r v m k g) = r == last_role s
is_after s (Saved r v m k) = r == last_role s
is_after s e = is_drains s e

-- this role loads, or the pool refuses it
abbrev pub loads_by : ℕ → Entry → Bool
loads_by r (Load q k b n f g x) = q == r
loads_by r (LoadRefused q k n h) = q == r
loads_by r e = false

-- such moves, one after the other, lead from the one board to the other, and each load was handed this tick
pub data AfterMoves (s : Setting) (tick : ℕ) (old : BoardState) : (new : BoardState) → Type 0 where
  none : (new : BoardState) → new ≡ old → AfterMoves s tick old new
  more : (b new : BoardState) (t : Told) (at : ℕ) → AfterMoves s tick old b → is_after s t.entry ≡ true → (is_load t.entry ≡ true → at ≡ tick)
      → new ≡ moved_at s at t b → AfterMoves s tick old new

-- Each load of the feeder was handed the clock's next answer, and each load after it the one after these: a load keeps the greater of the number
-- that it was handed and the Tick before it.
pub record IsFedByTheClock (s : Setting) (P : Past) (old new : Option Coming) : Type 0 where
  -- what stood on the board when all roles had ended: nobody but the feeder, which is role 0, had loaded, and the feeder had made these calls
  pub joined : BoardState
  pub alone : (r : ℕ) → r ≢ 0 → list_any (loads_by r) (past joined) ≡ false
  pub first : Pass
  pub fresh : IsFresh 0 first
  pub last : Pass
  pub made : HasMade joined last
  pub then_coming : Option Coming
  pub feeds : FeedsByTheClock s first last old then_coming
  -- what came after them
  pub tick : ℕ
  pub answered : Ticks then_coming tick new
  pub ended : BoardState
  pub moves : AfterMoves s tick joined ended
  pub log : past ended ≡ P
