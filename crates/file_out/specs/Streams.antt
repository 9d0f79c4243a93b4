-- Files that get their rows one after another.
use Rattle.std.specs.Prelude.{◌≡◌, ℕ, ◌≤◌, ◌*◌, List, ◌++◌, length, Option, Some, None}
use Rattle.std.specs.List.{flat_map}
use Rattle.nd_base.specs.declared.array.Head.{Head}
use Rattle.nd_base.specs.declared.attribute.FileShape.{FileShape}
use Rattle.nd_base.specs.Array.{Array}
use Rattle.nd_base.specs.Forms.{longest_of}
use Rattle.nd_base.specs.Samples.{width}
use Rattle.nd_base.specs.Shapes.{sample_count}
use Rattle.edge_traits.specs.Files.{Files, with_patch, HasFile, MayPatch}
use Rattle.cdf_write.specs.Spelling.{word}
use Rattle.cdf_write.specs.Layout.{header, row}
use Rattle.cdf_write.specs.Lengths.{length_of}
use Rattle.cdf_write.specs.Writable.{IsWritable, HasColumns}

-- A file that was begun: its name, the shape of its arrays, the number of records in its header (None: left
-- open until the end), the most rows that it may get, and how many it got.
pub record Stream : Type 0 where
  pub name : List ℕ
  pub shape : FileShape
  pub numrecs : Option ℕ
  pub room : ℕ
  pub count : ℕ

-- what every stream keeps to
pub record IsOpen (file : Stream) : Type 0 where
  pub writable : IsWritable file.shape
  pub within : length_of file.shape file.room ≤ longest_of file.shape.form
  pub filled : file.count ≤ file.room

-- a head and the bytes of samples that a row of the shape is made of
pub record IsRow (shape : FileShape) (head : Head) (bytes : List ℕ) : Type 0 where
  pub columns : HasColumns shape head.attrs
  pub samples : length bytes ≡ sample_count shape.dims * width shape.kind

-- a header and the rows of these arrays
abbrev pub begun_file : FileShape → Option ℕ → List Array → List ℕ
begun_file shape numrecs arrays = header shape numrecs ++ flat_map (row shape) arrays

-- the name has the header and the rows of these arrays, which are as many as the stream got; the bytes are
-- said where the shelf tells its files
pub record HasRows (held : Option Files) (file : Stream) (arrays : List Array) : Type 0 where
  pub all : length arrays ≡ file.count
  pub bytes : HasFile held file.name (begun_file file.shape file.numrecs arrays)

-- where the number of records stands in a header
abbrev pub count_place : ℕ
count_place = 4

-- the number of records put into a header that left it open
abbrev pub with_count : Option Files → List ℕ → Option ℕ → ℕ → Option Files
with_count held name (Some n) count = held
with_count held name None count = with_patch held name count_place (word count)

-- what may stand where that failed: any four bytes in its place
abbrev pub MayCount : Option Files → List ℕ → Option ℕ → ℕ → Option Files → Type 0
MayCount held name (Some n) count now = now ≡ held
MayCount held name None count now = MayPatch held name count_place (word count) now
