-- A past is the entries so far, THE NEWEST FIRST: `e ∷ P` is P and then e. Lists of arrays are the other way round: the oldest
-- comes first.
use Rattle.std.specs.Prelude.{ℕ, ◌==◌, Bool, ◌&&◌, List, [], ◌∷◌, ◌++◌, if◌then◌else◌}
use Rattle.nd_base.specs.declared.frame.FrameName.{FrameName}
use Rattle.flow_journal.specs.declared.entry.Entry.{Entry}

-- the entries so far, the newest first
abbrev pub Past : Type 0
Past = List Entry

-- the name of the array that m made at index k
abbrev pub frame : ℕ → ℕ → FrameName
frame m k = record { maker = m; index = k }

abbrev pub same : FrameName → FrameName → Bool
same a b = (a.maker == b.maker) && (a.index == b.index)

-- xs without the first that is a
abbrev pub without : FrameName → List FrameName → List FrameName
without a [] = []
without a (x ∷ xs) = if same x a then xs else x ∷ without a xs

-- xs without the first that is each of ys
abbrev pub minus : List FrameName → List FrameName → List FrameName
minus xs [] = xs
minus xs (y ∷ ys) = minus (without y xs) ys

-- xs and then x, where the entry's node w is the node v
abbrev pub comes_at : {X : Type 0} → ℕ → ℕ → X → List X → List X
comes_at v w x xs = if w == v then xs ++ x ∷ [] else xs

-- xs without a, where the entry's node w is the node v
abbrev pub goes_at : ℕ → ℕ → FrameName → List FrameName → List FrameName
goes_at v w a xs = if w == v then without a xs else xs
