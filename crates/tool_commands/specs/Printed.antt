-- What a print leaves in the sink.
use Rattle.std.specs.Prelude.{◌≡◌, ℕ, ◌<◌, ◌++◌, ◌∷◌, [], List, length, take, Option, codes}
use Rattle.std.specs.Fmt.{decimal}
use Rattle.edge_traits.specs.Written.{with_written}

-- what `copy` prints: `frames`, their number and a newline
abbrev pub frames_line : ℕ → List ℕ
frames_line count = codes "frames " ++ decimal count ++ 10 ∷ []

-- a proper front of the text was written
abbrev pub IsCutShort : Option (List ℕ) → List ℕ → Option (List ℕ) → Type 0
IsCutShort old text new = (count : ℕ) × (count < length text) × (new ≡ with_written old (take count text))
