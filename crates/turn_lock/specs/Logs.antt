-- Logs of moves. An entry either begins a move, and names the role that makes it, or goes on with the move before it.
use Rattle.std.specs.Prelude.{◌≡◌, ℕ, Bool, true, false, ◌==◌, List, [], ◌∷◌, ◌++◌, Option, Some, None}

module _ {E : Type 0} (begins : E → Option ℕ) where
  -- no entry begins a move
  abbrev pub GoesOn : List E → Type 0
  GoesOn [] = Unit {0}
  GoesOn (e ∷ es) = (begins e ≡ None) × GoesOn es

  -- nothing, or one move of the role
  abbrev pub IsMove : ℕ → List E → Type 0
  IsMove r [] = Unit {0}
  IsMove r (e ∷ es) = (begins e ≡ Some r) × GoesOn es

  -- whether an entry is of the role: what it says itself, or else that of the move which it goes on with
  abbrev pub is_of : Option ℕ → ℕ → Bool → Bool
  is_of None r before = before
  is_of (Some q) r before = q == r

  abbrev pub put_if : Bool → E → List E → List E
  put_if true e es = e ∷ es
  put_if false e es = es

  -- `before`: whether the move that goes on at the front is the role's
  abbrev pub moves_from : ℕ → Bool → List E → List E
  moves_from r before [] = []
  moves_from r before (e ∷ es) = put_if (is_of (begins e) r before) e (moves_from r (is_of (begins e) r before) es)

  -- the entries of the role's moves, in their order
  abbrev pub moves_of : ℕ → List E → List E
  moves_of r log = moves_from r false log

  -- whether the last move of a list is the role's
  abbrev pub is_of_after : ℕ → Bool → List E → Bool
  is_of_after r before [] = before
  is_of_after r before (e ∷ es) = is_of_after r (is_of (begins e) r before) es

abbrev pub IsPrefix : {E : Type 0} → List E → List E → Type 0
IsPrefix {E} xs ys = (rest : List E) × (ys ≡ xs ++ rest)

-- the longer of two prefixes of one list
abbrev pub longer : {E : Type 0} → List E → List E → List E
longer [] ys = ys
longer (x ∷ xs) [] = x ∷ xs
longer (x ∷ xs) (y ∷ ys) = x ∷ longer xs ys
