-- LAWS of completed moves.
use Rattle.std.specs.Prelude.{◌≡◌, ◌≢◌, ℕ, true, List, ◌∷◌, ◌++◌, Some}
use Rattle.flow_journal.specs.declared.entry.Entry.{Entry}
use Rattle.flow_journal.specs.Setting.{Setting}
use Rattle.flow_journal.specs.FirstEntries.{first}
use Rattle.flow_journal.specs.Histories.{is_history}
use Rattle.flow_journal.specs.Hands.{hand}
use Rattle.flow_journal.specs.Moves.{onto, is_move}
use Rattle.board_rules.specs.declared.told.Told.{Told}
use Rattle.board_rules.specs.States.{BoardState, past, own, lent_to}
use Rattle.flow_journal.specs.MoveLists.{begun_by}
use Rattle.board_rules.specs.Movers.{moves_by, IsMoveOf}
use Rattle.board_rules.specs.Moving.{moved_at}

-- the move that begins with a legal first entry makes a legal history of one
abbrev pub MovedIsLegal : Type 0
MovedIsLegal = (s : Setting) (b : BoardState) (tick : ℕ) (t : Told) → is_history s (past b) ≡ true → first s (past b) t.entry ≡ true
    → is_history s (past (moved_at s tick t b)) ≡ true

-- and each legal move is the one that begins so, at some tick
abbrev pub MovedIsTheOnly : Type 0
MovedIsTheOnly = (s : Setting) (b : BoardState) (t : Told) (m : List Entry) → is_history s (past b) ≡ true → is_move s (past b) (t.entry ∷ m) ≡ true
    → (tick : ℕ) × (past (moved_at s tick t b) ≡ onto m (t.entry ∷ past b))

-- what a role has in hand, and of which part, is told by its own entries alone
abbrev pub OwnTellsHand : Type 0
OwnTellsHand = (b : BoardState) (r : ℕ) → (hand r (past (own r b)) ≡ hand r (past b)) × (lent_to r (own r b) ≡ lent_to r b)

-- what a call adds is one move: the entry that begins it, and entries that begin none
abbrev pub MovedIsOneMove : Type 0
MovedIsOneMove = (s : Setting) (b : BoardState) (tick : ℕ) (t : Told) (r : ℕ) → begun_by t.entry ≡ Some r
    → (added : BoardState) × (moved_at s tick t b ≡ added ++ b) × IsMoveOf r added

-- it comes to the moves of its role, and to those of no other
abbrev pub MovesAreAdded : Type 0
MovesAreAdded = (added b : BoardState) (q : ℕ) → IsMoveOf q added → (moves_by q (added ++ b) ≡ added ++ moves_by q b)
    × ((r : ℕ) → r ≢ q → moves_by r (added ++ b) ≡ moves_by r b)

-- a role's moves tell its hand, and its part
abbrev pub MovesTellHand : Type 0
MovesTellHand = (b : BoardState) (r : ℕ) → (hand r (past (moves_by r b)) ≡ hand r (past b)) × (lent_to r (moves_by r b) ≡ lent_to r b)
