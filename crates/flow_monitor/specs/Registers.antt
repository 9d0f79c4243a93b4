-- What the seats of a register know: to which log the note that is shown there belongs.
use Rattle.std.specs.Prelude.{◌≡◌, ◌⊎◌, ℕ, List, [], ◌∷◌}
use Rattle.logbook.specs.Pages.{Book}

-- the name of a log, by the numbers of its book
abbrev pub name_of : Book → List ℕ
name_of b = b.number ∷ b.log_name ∷ b.cells_name ∷ []

-- nothing is known yet, or this name
abbrev pub KnowsAtMost : List ℕ → List ℕ → Type 0
KnowsAtMost name known = (known ≡ []) ⊎ (known ≡ name)
