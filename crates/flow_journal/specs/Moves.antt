-- Moves: a first entry that is legal after what came before, and then exactly what must follow.
use Rattle.std.specs.Prelude.{Bool, true, false, ◌&&◌, not, List, [], ◌∷◌, ◌++◌}
use Rattle.flow_journal.specs.declared.entry.Entry.{Entry}
use Rattle.flow_journal.specs.Setting.{Setting}
use Rattle.flow_journal.specs.Pasts.{Past}
use Rattle.flow_journal.specs.FirstEntries.{first}
use Rattle.flow_journal.specs.Following.{owed}
use Rattle.flow_journal.specs.Histories.{next, is_nothing}

-- the past after these entries, which stand the oldest first
abbrev pub onto : List Entry → Past → Past
onto [] P = P
onto (e ∷ es) P = onto es (e ∷ P)

-- exactly these follow, until nothing more is owed
abbrev pub follow : Setting → Past → List Entry → Bool
follow s P [] = is_nothing (owed s P)
follow s P (e ∷ es) = not (is_nothing (owed s P)) && next s P e (owed s P) && follow s (e ∷ P) es

-- a legal move after P
abbrev pub is_move : Setting → Past → List Entry → Bool
is_move s P [] = false
is_move s P (e ∷ es) = first s P e && follow s (e ∷ P) es

-- each of these is a legal move after those before it
abbrev pub are_moves : Setting → Past → List (List Entry) → Bool
are_moves s P [] = true
are_moves s P (m ∷ ms) = is_move s P m && are_moves s (onto m P) ms

-- the entries of all of them
abbrev pub all_of : List (List Entry) → List Entry
all_of [] = []
all_of (m ∷ ms) = m ++ all_of ms
