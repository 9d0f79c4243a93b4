-- Whose moves the entries of a board are.
use Rattle.std.specs.Prelude.{◌≡◌, ℕ, [], ◌∷◌, Option, Some, None, if◌then◌else◌}
use Rattle.board_rules.specs.States.{BoardState}
use Rattle.flow_journal.specs.MoveLists.{begun_by, is_some_of}

abbrev pub first_some : {X : Type 0} → Option X → Option X → Option X
first_some (Some x) o = Some x
first_some None o = o

-- whose move the newest entry is of: one that begins none goes on with the move before it
abbrev pub mover : BoardState → Option ℕ
mover [] = None
mover (t ∷ b) = first_some (begun_by t.entry) (mover b)

-- the moves of a role, whole
abbrev pub moves_by : ℕ → BoardState → BoardState
moves_by r [] = []
moves_by r (t ∷ b) = if is_some_of r (first_some (begun_by t.entry) (mover b)) then t ∷ moves_by r b else moves_by r b

-- nothing, or one move of the role
abbrev pub IsMoveOf : ℕ → BoardState → Type 0
IsMoveOf r [] = Unit {0}
IsMoveOf r (t ∷ []) = begun_by t.entry ≡ Some r
IsMoveOf r (t ∷ u ∷ b) = (begun_by t.entry ≡ None) × IsMoveOf r (u ∷ b)
