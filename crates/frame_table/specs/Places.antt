-- A place in memory, as contracts see it.
use Rattle.std.specs.Prelude.{ℕ, Bool, Option}
use Rattle.nd_base.specs.declared.frame.FrameName.{FrameName}
use Rattle.nd_base.specs.Parts.{Parts}
use Rattle.frame_table.specs.declared.place.Place.{Place}
use Rattle.frame_table.specs.declared.place.Place.TheVariants as place
use Rattle.frame_table.specs.Kept.{Kept, Empty, Frame, Storage}

abbrev pub kept : {F B O : Type 0} → (F → FrameName) → (F → Option Parts) → (B → ℕ) → (B → Bool) → Place F B O → Kept
kept name_of parts bytes_of is_used place.Empty = Empty
kept name_of parts bytes_of is_used (place.Frame f) = Frame (name_of f) (parts f)
kept name_of parts bytes_of is_used (place.Storage b) = Storage (bytes_of b) (is_used b)
