-- What stands where not all of some files were written, when they come in two lists.
use Rattle.std.specs.Prelude.{◌≡◌, List, [], ◌∷◌, ◌++◌, Option, refl}
use Rattle.std.proofs.Common.{inl, inr}
use Rattle.edge_traits.specs.Files.{Files, with_file}
use Rattle.file_out.specs.Saving.{Untouched}
use Rattle.graph_files.specs.BegunFiles.{AreBegun, Unended}
use Rattle.graph_files.specs.OutFiles.{OutFile, with_files}

-- the files of both
pub with_files-append : (held : Option Files) (xs ys : List OutFile) → with_files held (xs ++ ys) ≡ with_files (with_files held xs) ys
with_files-append held [] ys = refl
with_files-append held (x ∷ xs) ys = with_files-append (with_file held x.name x.bytes) xs ys

-- none was written
pub AreBegun-none : (held now : Option Files) (fs : List OutFile) → now ≡ held → AreBegun held fs now
AreBegun-none held now [] same = same
AreBegun-none held now (f ∷ fs) same = inl (Unended (Untouched same))

-- not all of the first
pub AreBegun-first : (held now : Option Files) (xs ys : List OutFile) → AreBegun held xs now → AreBegun held (xs ++ ys) now
AreBegun-first held now [] ys same = AreBegun-none held now ys same
AreBegun-first held now (x ∷ xs) ys (inl begun) = inl begun
AreBegun-first held now (x ∷ xs) ys (inr later) = inr (AreBegun-first (with_file held x.name x.bytes) now xs ys later)

-- all of the first, and not all of the others
pub AreBegun-later : (held now : Option Files) (xs ys : List OutFile) → AreBegun (with_files held xs) ys now → AreBegun held (xs ++ ys) now
AreBegun-later held now [] ys begun = begun
AreBegun-later held now (x ∷ xs) ys begun = inr (AreBegun-later (with_file held x.name x.bytes) now xs ys begun)
