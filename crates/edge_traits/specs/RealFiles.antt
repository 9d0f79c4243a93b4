-- The adapters over real files: the files that they keep open, and what a call does to them, as far as files tell.
use Rattle.std.specs.Prelude.{◌≡◌, ◌⊎◌, ℕ, pos, ◌+◌, max, List, [], ◌∷◌, length, true, Option, Some, None, IfSome, Result, if◌then◌else◌, bytes_eq}
use Rattle.std.specs.declared.fs.options.OpenOptions.{OpenOptions}
use Rattle.std.specs.Fs.{new_options, with_write, with_create, with_truncate}
use Rattle.std.specs.Io.Seek.{IsSeekTarget}
use Rattle.std.specs.Io.KnownBytes.{Appends, ReadConsumes}
use Rattle.std.specs.declared.io.traits.SeekFrom.{SeekFrom}
use Rattle.std.specs.declared.io.traits.SeekFrom.TheVariants.{Start, End}

-- The file that was used last and its name, and the count of faults.
pub record Adapter (F : Type 0) : Type 0 where
  pub last : Option (List ℕ × F)
  pub faults : ℕ

-- A writer as a sink, and its count of faults.
pub record Output (W : Type 0) : Type 0 where
  pub writer : W
  pub faults : ℕ

-- the file, where it has this name
abbrev pub file_named : {F : Type 0} → Option (List ℕ × F) → List ℕ → Option F
file_named None name = None
file_named (Some kept) name = if bytes_eq kept.0 name then Some kept.1 else None

-- what is left where the file of this name is let go
abbrev pub without : {F : Type 0} → Option (List ℕ × F) → List ℕ → Option (List ℕ × F)
without None name = None
without (Some kept) name = if bytes_eq kept.0 name then None else Some kept

-- a file of this name made a step and is kept: the one that was kept before, or where none was, one that was opened
abbrev pub Steps : {F : Type 0} → Option (List ℕ × F) → Option (List ℕ × F) → List ℕ → (F → F → Type 0) → Type 0
Steps {F} old new name step = (from to : F) × IfSome (file_named old name) (λ kept. from ≡ kept) × (new ≡ Some (name, to)) × step from to

-- a seek to this place went to byte n, for files with these places and bytes
abbrev pub Seeks : {F : Type 0} → (F → Option ℕ) → (F → Option (List ℕ)) → SeekFrom → ℕ → F → F → Type 0
Seeks place bytes to n old new = IfSome (place old) (λ p. IsSeekTarget p (bytes old) to n × (place new ≡ Some n))

-- a seek to this place, and then a read that gave this answer
abbrev pub ReadsAfterSeek : {F E : Type 0} → (F → Option ℕ) → (F → Option (List ℕ)) → (F → Option (List ℕ)) → SeekFrom → Result ℕ E → List ℕ → F → F → Type 0
ReadsAfterSeek {F} place bytes remaining to answer buf old new =
    (there : F) × (n : ℕ) × Seeks place bytes to n old there × ReadConsumes (remaining there) (remaining new) answer buf

-- A file that the shelf has begun and not finished: its name, where the bytes that the shelf gave it end, and where it is open the
-- file and the place that it is at.
pub record Begun (F : Type 0) : Type 0 where
  pub name : List ℕ
  pub ends : ℕ
  pub file : Option (F × ℕ)

-- The files of a shelf, the one that was used last first, and its count of faults.
pub record BegunFiles (F : Type 0) : Type 0 where
  pub files : List (Begun F)
  pub faults : ℕ

-- the file of a name
abbrev pub find_begun : {F : Type 0} → List (Begun F) → List ℕ → Option (Begun F)
find_begun [] name = None
find_begun (b ∷ bs) name = if bytes_eq b.name name then Some b else find_begun bs name

-- the others
abbrev pub without_begun : {F : Type 0} → List (Begun F) → List ℕ → List (Begun F)
without_begun [] name = []
without_begun (b ∷ bs) name = if bytes_eq b.name name then bs else b ∷ without_begun bs name

-- the same, closed
abbrev pub closed : {F : Type 0} → Begun F → Begun F
closed b = record { name = b.name; ends = b.ends; file = None }

-- how a file is opened that is to be empty, and one that is to keep what it has
abbrev pub emptying : OpenOptions
emptying = with_truncate (with_create (with_write new_options true) true) true

abbrev pub keeping : OpenOptions
keeping = with_write new_options true

-- a file at place p is at byte `at`: it was there, or a seek brought it there
abbrev pub GoesTo : {F : Type 0} → (F → Option ℕ) → (F → Option (List ℕ)) → ℕ → ℕ → F → F → Type 0
GoesTo place bytes p at old new = ((p ≡ at) × (new ≡ old)) ⊎ ((n : ℕ) × Seeks place bytes (Start at) n old new)

-- the whole piece is written from byte `at` on, and the shelf's bytes reach as far at least
pub record Writes {F : Type 0} (place : F → Option ℕ) (bytes contents : F → Option (List ℕ)) (at : ℕ) (piece : List ℕ) (from to : Begun F) : Type 0 where
  pub before : F
  pub there : F
  pub after : F
  pub start : ℕ
  pub opened : from.file ≡ Some (before, start)
  pub goes : GoesTo place bytes start at before there
  pub appends : Appends (contents there) (contents after) piece
  pub written : to ≡ record { name = from.name; ends = max from.ends (at + length piece); file = Some (after, at + length piece) }

-- the file of a name is taken for a write: the one that the shelf has, opened again at its start where it was closed; where it has
-- none, the one that is there, whose bytes end where it ends
abbrev pub Takes : {F : Type 0} → (F → Option ℕ) → (F → Option (List ℕ)) → Option (Begun F) → List ℕ → Begun F → Type 0
Takes {F} place bytes None name from =
    (opened file : F) × (n : ℕ) × Seeks place bytes (End (pos 0)) n opened file × (from ≡ record { name = name; ends = n; file = Some (file, n) })
Takes {F} place bytes (Some b) name from =
    (file : F) × (p : ℕ) × (from ≡ record { name = b.name; ends = b.ends; file = Some (file, p) }) × ((b.file ≡ Some (file, p)) ⊎ ((b.file ≡ None) × (p ≡ 0)))

-- the same files, of which some may have been closed
abbrev pub MayClose : {F : Type 0} → List (Begun F) → List (Begun F) → Type 0
MayClose [] [] = Unit {0}
MayClose (b ∷ bs) (c ∷ cs) = ((c ≡ b) ⊎ (c ≡ closed b)) × MayClose bs cs
MayClose [] (c ∷ cs) = ⊥
MayClose (b ∷ bs) [] = ⊥

-- a piece is written to the file of a name, from the byte on that `at` tells, and that file is the one that was used last; the others
-- stay
pub record WritesTo {F : Type 0} (place : F → Option ℕ) (bytes contents : F → Option (List ℕ)) (at : Begun F
    → ℕ) (piece : List ℕ) (old new : List (Begun F)) (name : List ℕ) : Type 0 where
  pub from : Begun F
  pub to : Begun F
  pub others : List (Begun F)
  pub takes : Takes place bytes (find_begun old name) name from
  pub writes : Writes place bytes contents (at from) piece from to
  pub kept : find_begun new name ≡ Some to
  pub first : new ≡ to ∷ others
  pub stay : MayClose (without_begun old name) others
