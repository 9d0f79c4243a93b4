-- Laws of orientations.
use Rattle.std.specs.Prelude.{◌≡◌, ℕ, ◌<◌, length}
use Rattle.nd_base.specs.Array.{Array}
use Rattle.nd_base.specs.Shapes.{sample_count}
use Rattle.nd_orient.specs.Orientation.{oriented}
use Rattle.nd_orient.specs.Modes.{composed, inverse_of}

-- to orient by one mode and then by another is to orient by their composition
abbrev pub OrientsOnce : Type 0
OrientsOnce = (first second : ℕ) (a : Array) → first < 8 → second < 8 → oriented second (oriented first a) ≡ oriented (composed first second) a

-- to orient by a mode and then by its inverse gives the array back
abbrev pub OrientsBack : Type 0
OrientsBack = (mode : ℕ) (a : Array) → mode < 8 → length a.samples ≡ sample_count a.dims → oriented (inverse_of mode) (oriented mode a) ≡ a
