-- Groups of arrays, as they come one after the other.
use Rattle.std.specs.Prelude.{ℕ, ◌*◌, List, [], ◌∷◌, take, drop, Option, Some, None}
use Rattle.nd_base.specs.Array.{Array}
use Rattle.nd_base.specs.declared.attribute.FileShape.{FileShape}
use Rattle.edge_traits.specs.Files.{Files, HasFile}
use Rattle.cdf_write.specs.Layout.{layout}
use Rattle.file_out.specs.Streams.{Stream, begun_file}

-- group i of these, where a group has so many
abbrev pub group_of : {X : Type 0} → (count i : ℕ) → List X → List X
group_of count i xs = take count (drop (i * count) xs)

-- the file of a whole group; an empty group has none
abbrev pub whole_file : FileShape → List Array → Option (List ℕ)
whole_file shape [] = None
whole_file shape (a ∷ arrays) = Some (layout shape (a ∷ arrays))

-- the file of a group: its header and rows while it is open, and then the layout
abbrev pub file_of : (begun : Option Stream) → FileShape → List Array → Option (List ℕ)
file_of None shape arrays = whole_file shape arrays
file_of (Some f) shape arrays = Some (begun_file shape f.numrecs arrays)

-- the name has these bytes, if any, where the shelf tells its files
abbrev pub HasBytes : Option Files → List ℕ → Option (List ℕ) → Type 0
HasBytes held name None = Unit {0}
HasBytes held name (Some bytes) = HasFile held name bytes
