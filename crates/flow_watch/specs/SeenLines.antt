-- The lines that tell how far a run had come while it went on.
use Rattle.std.specs.Prelude.{◌≡◌, ◌≢◌, ℕ, List, [], ◌∷◌, ◌++◌, codes}
use Rattle.std.specs.Fmt.{decimal}
use Rattle.std.specs.List.{flat_map}
use Rattle.flow_journal.specs.declared.progress.Progress.{Progress}
use Rattle.flow_journal.specs.Notes.{progress_of}
use Rattle.flow_journal.specs.Pasts.{Past}
use Rattle.flow_journal.specs.Setting.{Setting}

-- the entries of the log, the arrays that came to nodes, those that were dropped there, and the pieces that were saved
abbrev pub seen_line : Progress → List ℕ
seen_line p =
    codes "seen " ++ decimal p.entries ++ codes " " ++ decimal p.offered ++ codes " " ++ decimal p.dropped ++ codes " " ++ decimal p.saved ++ codes "\n"

-- These fronts of a log, THE SHORTEST FIRST, each go on from the one before it, and the first from this one. The last is the whole log.
abbrev pub GrowInto : Past → (fronts : List Past) → (log : Past) → Type 0
GrowInto front [] log = log ≡ front
GrowInto front (P ∷ fronts) log = (newer : Past) × (newer ≢ []) × (P ≡ newer ++ front) × GrowInto P fronts log

-- There is a line for each of some fronts of the log, of which each has more entries than the one before it, the first has some, and the last is the log.
pub record AreSeenLines (s : Setting) (log : Past) (text : List ℕ) : Type 0 where
  pub fronts : List Past
  pub grow : GrowInto [] fronts log
  pub lines : text ≡ flat_map (λ P. seen_line (progress_of s P)) fronts
