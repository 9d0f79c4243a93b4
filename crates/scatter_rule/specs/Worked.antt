-- Worked choices among two and three children.
use Rattle.std.specs.Prelude.{◌≡◌, [], ◌∷◌, find, refl}
use Rattle.scatter_rule.specs.declared.Choice.TheVariants.{Give, AllFull}
use Rattle.scatter_rule.specs.Rounds.{has_room, in_turn, choice}

-- the one whose turn it is has room
in_turn_first : choice (find (has_room (0 ∷ 0 ∷ []) (20 ∷ 20 ∷ [])) (in_turn 1 2)) ≡ Give 1
in_turn_first = refl

-- it is full, and so is the next one
past_two : choice (find (has_room (3 ∷ 1 ∷ 1 ∷ []) (4 ∷ 1 ∷ 1 ∷ [])) (in_turn 1 3)) ≡ Give 0
past_two = refl

-- all are full
none : choice (find (has_room (1 ∷ 1 ∷ []) (1 ∷ 1 ∷ [])) (in_turn 0 2)) ≡ AllFull
none = refl
