-- What the passes of a turn lock say of their roles. The lock's lists have the oldest entry first.
use Rattle.std.specs.Prelude.{◌≡◌, ℕ, List, [], ◌∷◌, ◌++◌, reverse}
use Rattle.atomic_table.specs.Seated.{TableId}
use Rattle.turn_lock.specs.declared.rule.Moves.{Moves}
use Rattle.turn_lock.specs.Logs.{IsPrefix}
use Rattle.turn_lock.specs.Rule.{AreExact}
use Rattle.turn_lock.specs.Passes.{PassFacts}
use Rattle.board_rules.specs.declared.told.Told.{Told}
use Rattle.board_rules.specs.States.{BoardState}
use Rattle.board_rules.specs.Movers.{moves_by}
use Rattle.flow_roles.specs.declared.last.Said.{Said}
use Rattle.flow_roles.specs.Passes.{Pass}
use Rattle.flow_roles.specs.Operations.{begins_of}
use Rattle.flow_roles.specs.RoleMoves.{IsFresh}

-- one role
abbrev pub HasOneRole : List (Moves Told) → Type 0
HasOneRole [] = ⊥
HasOneRole (m ∷ []) = Unit {0}
HasOneRole (m ∷ n ∷ ms) = ⊥

abbrev pub role_in : List (Moves Told) → ℕ
role_in [] = 0
role_in (m ∷ ms) = m.role

abbrev pub moves_in : List (Moves Told) → List Told
moves_in [] = []
moves_in (m ∷ ms) = m.entries

-- what a pass of the lock says, after these answers
abbrev pub known_by : PassFacts Told → Said → Pass
known_by p said = record { role = role_in p.made; said = said; seen = reverse p.seen; made = reverse (moves_in p.made) }

-- the pass is of this lock, and has one role
abbrev pub IsPassOf : TableId → PassFacts Told → Type 0
IsPassOf lock p = (p.lock ≡ lock) × HasOneRole p.made

-- the pass of role k of this lock, which has made no call
abbrev pub IsFreshOf : TableId → ℕ → PassFacts Told → Said → Type 0
IsFreshOf lock k p said = IsPassOf lock p × IsFresh k (known_by p said)

-- the one begins with the other
abbrev pub BeginsWith : BoardState → BoardState → Type 0
BeginsWith b seen = (newer : BoardState) × (b ≡ newer ++ seen)

-- all that the pass has seen stands on the board, and of its role's moves just those that the pass made
pub record HasMade (b : BoardState) (p : Pass) : Type 0 where
  pub seen : BeginsWith b p.seen
  pub made : moves_by p.role b ≡ p.made

-- what the one pass says, the other says too
abbrev pub IsPassWithin : PassFacts Told → PassFacts Told → Type 0
IsPassWithin p keep = IsPrefix p.seen keep.seen × ((log : List Told) → AreExact begins_of log keep.made → AreExact begins_of log p.made)
