-- The log of a longer list of what was told, and its length.
use Rattle.std.proofs.Common.{◌≡◌, suc, [], ◌∷◌, ◌++◌, length, refl, ap}
use Rattle.flow_journal.specs.Pasts.{Past}
use Rattle.board_rules.specs.States.{BoardState, past}

pub past-append : (xs ys : BoardState) → past (xs ++ ys) ≡ past xs ++ past ys
past-append [] ys = refl
past-append (x ∷ xs) ys = ap (λ (P : Past). x.entry ∷ P) (past-append xs ys)

pub past-length : (b : BoardState) → length (past b) ≡ length b
past-length [] = refl
past-length (t ∷ b) = ap suc (past-length b)
