-- What stands on a shelf where not all of some files were written.
use Rattle.std.specs.Prelude.{◌≡◌, ◌⊎◌, ℕ, Bool, true, List, [], ◌∷◌, length, Option, if◌then◌else◌}
use Rattle.edge_traits.specs.Files.{Files, overwritten, with_file}
use Rattle.file_out.specs.Saving.{IsBegun}
use Rattle.file_out.specs.Streams.{count_place}
use Rattle.graph_files.specs.OutFiles.{OutFile}

-- a count of records that is left open
abbrev pub open_count : List ℕ
open_count = 255 ∷ 255 ∷ 255 ∷ 255 ∷ []

-- the bytes of a file before it ends: its final ones, but with an open count of records where that is put in at the end
abbrev pub unended_bytes : (late : Bool) → (final : List ℕ) → List ℕ
unended_bytes late final = if late then overwritten final count_place open_count else final

-- The shelf as before, or with a front of the file under its name, as it is before it ends. A count that is put in at the end may be any
-- four bytes in the whole file, after a patch that failed.
pub data IsFileBegun (held : Option Files) (f : OutFile) (now : Option Files) : Type 0 where
  Unended : IsBegun held f.name (unended_bytes f.late f.bytes) now → IsFileBegun held f now
  Miscounted : f.late ≡ true → (count : List ℕ) → length count ≡ 4
      → now ≡ with_file held f.name (overwritten f.bytes count_place count) → IsFileBegun held f now

-- the first of the files are there, and the next one is begun, or there is none
abbrev pub AreBegun : Option Files → List OutFile → Option Files → Type 0
AreBegun held [] now = now ≡ held
AreBegun held (f ∷ fs) now = IsFileBegun held f now ⊎ AreBegun (with_file held f.name f.bytes) fs now
