-- What was written to a sink, where it is told.
use Rattle.std.specs.Prelude.{◌≡◌, ℕ, List, [], ◌++◌, Option, Some, None, refl}
use Rattle.std.proofs.Common.{ap, append_assoc}
use Rattle.std.proofs.lemmas.List.{append-nil}

-- the same, with this piece at its end
abbrev pub with_written : Option (List ℕ) → List ℕ → Option (List ℕ)
with_written None piece = None
with_written (Some written) piece = Some (written ++ piece)

-- two pieces are one
pub with_written-with_written : (t : Option (List ℕ)) (a b : List ℕ) → with_written (with_written t a) b ≡ with_written t (a ++ b)
with_written-with_written None a b = refl
with_written-with_written (Some written) a b = ap Some (append_assoc written a b)

-- a piece of nothing
pub with_written-nothing : (t : Option (List ℕ)) → with_written t [] ≡ t
with_written-nothing None = refl
with_written-nothing (Some written) = ap Some (append-nil written)
