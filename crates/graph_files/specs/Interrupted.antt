-- What stands on a shelf where files that are written together were interrupted.
use Rattle.std.specs.Prelude.{◌≡◌, ◌≢◌, ℕ, Bool, true, false, All, List, ◌++◌, length, Option, None, Some, is_some}
use Rattle.edge_traits.specs.Files.{Files, file_at, overwritten}
use Rattle.file_out.specs.Streams.{count_place}
use Rattle.graph_files.specs.BegunFiles.{unended_bytes}
use Rattle.graph_files.specs.OutFiles.{OutFile}

-- What was there before, the final bytes, or a front of the file as it is before it ends. A count of records that is put in at the end may be any four
-- bytes in the whole file, after a patch that failed.
pub data IsBegunAs (late : Bool) (final : List ℕ) (before now : Option (List ℕ)) : Type 0 where
  AsBefore : now ≡ before → IsBegunAs late final before now
  Unended : (front rest : List ℕ) → unended_bytes late final ≡ front ++ rest → now ≡ Some front → IsBegunAs late final before now
  Ended : now ≡ Some final → IsBegunAs late final before now
  Miscounted : late ≡ true → (count : List ℕ) → length count ≡ 4 → now ≡ Some (overwritten final count_place count) → IsBegunAs late final before now

-- where the shelf tells its files
abbrev pub IsBegunAt : (late : Bool) → (final : List ℕ) → (before held : Option Files) → (name : List ℕ) → Type 0
IsBegunAt late final before None name = Unit {0}
IsBegunAt late final before (Some files) name = IsBegunAs late final (file_at before name) (file_at (Some files) name)

-- the number of records that a group's header is begun with: open in mode stream, else how many arrays the group has in the end
abbrev pub IsCountOf : (late : Bool) → ℕ → Option ℕ → Type 0
IsCountOf true n numrecs = numrecs ≡ None
IsCountOf false n numrecs = numrecs ≡ Some n

-- what was there before, a front of the file as it is before it ends, or the whole file
pub data IsStanding (late : Bool) (final : List ℕ) (before now : Option (List ℕ)) : Type 0 where
  Kept : now ≡ before → IsStanding late final before now
  Front : (front rest : List ℕ) → unended_bytes late final ≡ front ++ rest → now ≡ Some front → IsStanding late final before now
  Whole : now ≡ Some final → IsStanding late final before now

-- What is left where these files were written together and not all to their ends: each name is as before, has a front of its file as it is before it
-- ends, or the whole file. On one name the shelf may have failed, and there a count of records that is put in at the end may be any four bytes in the
-- whole file. Every other name is as before, and the shelf tells its files as it did.
pub record AreInterrupted (before : Option Files) (files : List OutFile) (now : Option Files) : Type 0 where
  pub told : is_some now ≡ is_some before
  pub torn : List ℕ
  pub each : All (λ f. f.name ≢ torn → IsStanding f.late f.bytes (file_at before f.name) (file_at now f.name)) files
  pub one : All (λ f. IsBegunAs f.late f.bytes (file_at before f.name) (file_at now f.name)) files
  pub others : (q : List ℕ) → All (λ f. q ≢ f.name) files → file_at now q ≡ file_at before q
