-- What a pass means, and what each call of a desk says of it.
use Rattle.std.specs.Prelude.{◌≡◌, ℕ, ◌==◌, Bool, true, ◌++◌}
use Rattle.std.specs.List.{list_all}
use Rattle.flow_journal.specs.declared.entry.Entry.{Entry}
use Rattle.flow_journal.specs.declared.entry.Entry.TheVariants.{Save}
use Rattle.flow_journal.specs.Setting.{Setting, last_role}
use Rattle.flow_journal.specs.Pasts.{Past}
use Rattle.flow_journal.specs.Histories.{is_history}
use Rattle.board_rules.specs.States.{BoardState, past}
use Rattle.board_rules.specs.Movers.{moves_by, IsMoveOf}
use Rattle.flow_roles.specs.declared.last.Said.{Said}

-- a pass: its role, what its calls were answered, the front of the log that it has seen, and the moves that its role made
pub record Pass : Type 0 where
  pub role : ℕ
  pub said : Said
  pub seen : BoardState
  pub made : BoardState

-- the drain alone saves
abbrev pub saved_by_drain : Setting → Entry → Bool
saved_by_drain s (Save r v m k g) = r == last_role s
saved_by_drain s _ = true

abbrev pub only_drain_saves : Setting → Past → Bool
only_drain_saves s P = list_all (saved_by_drain s) P

-- The call has its answer at one place of the log: after all that the pass had seen, and what came between. What it adds is nothing or
-- one move of its role. The pass has then seen the log up to there, and of its role's moves just those are in it that the pass made. Of what its calls
-- were answered it says what this one leaves.
pub record Called (s : Setting) (gives : BoardState → BoardState → Type 0) (answers : Said → Said) (old new : Pass) : Type 0 where
  pub between : BoardState
  pub added : BoardState
  pub seen : new.seen ≡ added ++ (between ++ old.seen)
  pub answer : gives (between ++ old.seen) new.seen
  pub move : IsMoveOf old.role added
  pub made : new.made ≡ added ++ old.made
  pub exact : moves_by old.role new.seen ≡ new.made
  pub role : new.role ≡ old.role
  pub said : new.said ≡ answers old.said
  pub legal : is_history s (past new.seen) ≡ true
  pub drained : only_drain_saves s (past new.seen) ≡ true

-- two calls, one after the other
pub record CalledBoth (s : Setting) (one two : BoardState → BoardState → Type 0) (says_one says_two : Said → Said) (old new : Pass) : Type 0 where
  pub middle : Pass
  pub first : Called s one says_one old middle
  pub second : Called s two says_two middle new
