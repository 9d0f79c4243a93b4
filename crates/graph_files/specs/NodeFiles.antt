-- The files of one file node while they are written: those of whole groups, and at most one that is open.
use Rattle.std.specs.Prelude.{◌≡◌, ◌≢◌, ℕ, ◌+◌, ◌*◌, ◌/◌, ◌%◌, ◌<◌, ◌≤◌, ◌==◌, Bool, true, false, List, ◌∷◌, ◌++◌, [], length, min, Option, Some, None}
use Rattle.std.specs.Prelude.{codes, is_some, if◌then◌else◌}
use Rattle.std.specs.List.{flat_map}
use Rattle.std.specs.Option.{ForSome}
use Rattle.nd_base.specs.Array.{Array, StackValue}
use Rattle.nd_base.specs.Forms.{longest_of}
use Rattle.nd_base.specs.declared.attribute.FileShape.{FileShape}
use Rattle.nd_base.specs.declared.graph.Graph.{Graph}
use Rattle.nd_base.specs.declared.graph.FileRule.{FileRule}
use Rattle.edge_traits.specs.Files.{Files, HasFile, file_at, overwritten, with_file}
use Rattle.cdf_write.specs.Layout.{header, layout, row}
use Rattle.cdf_write.specs.Lengths.{length_of}
use Rattle.cdf_write.specs.Writable.{IsWritable}
use Rattle.file_out.specs.declared.fault.SaveFault.{SaveFault}
use Rattle.file_out.specs.declared.fault.SaveFault.TheVariants.{Failed, OutOfMemory}
use Rattle.file_out.specs.Streams.{Stream, HasRows, begun_file, count_place}
use Rattle.graph_files.specs.Groups.{group_of, whole_file, file_of, HasBytes}
use Rattle.graph_files.specs.OutFiles.{file_shape, group_number, is_stream}

pub record NodeFile : Type 0 where
  pub node : ℕ
  -- what stands before the number of a group in the names
  pub stem : List ℕ
  pub shape : FileShape
  -- a header leaves its number of records open until the file's end
  pub late : Bool
  -- how many arrays a group takes, and how many rows a file has room for
  pub count : ℕ
  pub room : ℕ
  -- the file that was begun and isn't ended
  pub current : Option Stream

-- the files of a file node of this rule and name, before any was begun
abbrev pub node_file : Graph → StackValue → (prefix : List ℕ) → (v : ℕ) → FileRule → (name : List ℕ) → NodeFile
node_file g s prefix v r name = record {
  node = v;
  stem = prefix ++ name ++ codes "_";
  shape = file_shape g s v;
  late = is_stream r.mode;
  count = r.count;
  room = min r.count (length s.arrays);
  current = None;
}

-- the shelf as before, or with other bytes under this name
pub data IsChangedAt (held : Option Files) (name : List ℕ) (now : Option Files) : Type 0 where
  Same : now ≡ held → IsChangedAt held name now
  Wrote : (bytes : List ℕ) → now ≡ with_file held name bytes → IsChangedAt held name now

-- what all files of a node keep to
pub record IsNodeFile (x : NodeFile) : Type 0 where
  pub writable : IsWritable x.shape
  pub some : 1 ≤ x.count
  pub few : x.room ≤ x.count
  pub within : length_of x.shape x.room ≤ longest_of x.shape.form

abbrev pub name_of : NodeFile → ℕ → List ℕ
name_of x i = x.stem ++ group_number i ++ codes ".nc"

-- the number of records that a header begins with: open, or how many arrays the group has
abbrev pub first_count : (late : Bool) → (of : Option ℕ) → Option ℕ
first_count late of = if late then None else of

-- the file of group i with so many rows
abbrev pub stream_of : NodeFile → (i rows : ℕ) → (numrecs : Option ℕ) → Stream
stream_of x i rows numrecs = record { name = name_of x i; shape = x.shape; numrecs = numrecs; room = x.room; count = rows }

-- After n arrays the open file is that of the group that they came to, with its rows. None is open only between two groups.
abbrev pub IsOpenAfter : NodeFile → (n : ℕ) → Option Stream → Type 0
IsOpenAfter x n None = n % x.count ≡ 0
IsOpenAfter x n (Some f) = f ≡ stream_of x (n / x.count) (n % x.count) f.numrecs

-- the open file, if it is that of group i after n arrays
abbrev pub open_at : NodeFile → (n i : ℕ) → Option Stream
open_at x n i = if i == n / x.count then x.current else None

-- what the name of group i has, where these arrays were written
abbrev pub group_file : NodeFile → List Array → ℕ → Option (List ℕ)
group_file x arrays i = file_of (open_at x (length arrays) i) x.shape (group_of x.count i arrays)

-- these arrays, and no others, are in the node's files
pub record AreWritten (x : NodeFile) (arrays : List Array) (held : Option Files) : Type 0 where
  pub begun : IsOpenAfter x (length arrays) x.current
  pub each : (i : ℕ) → HasBytes held (name_of x i) (group_file x arrays i)

-- after these arrays the next one is at this place of this group
pub record IsPlaceAfter (count : ℕ) (arrays : List Array) (group place : ℕ) : Type 0 where
  pub within : place < count
  pub all : length arrays ≡ group * count + place

-- how many arrays the group has is known where its header has to say so
abbrev pub IsSized : (late : Bool) → (place room : ℕ) → (of : Option ℕ) → Type 0
IsSized true place room of = Unit {0}
IsSized false place room None = ⊥
IsSized false place room (Some n) = (place < n) × (n ≤ room)

-- the open file was begun with this number of records
abbrev pub HasNumrecs : (numrecs : Option ℕ) → Option Stream → Type 0
HasNumrecs numrecs None = Unit {0}
HasNumrecs numrecs (Some f) = f.numrecs ≡ numrecs

-- What a name may have once the shelf has failed on it, in a call that came with these rows: what it had; a front of the header, where the file
-- wasn't begun before; the header, the rows that it had and a front of those that came; or, once it has as many rows as it ends with, all of this
-- with any four bytes for a number of records that was open.
pub data IsTorn (begun : Bool) (size : ℕ) (before : Option (List ℕ)) (shape : FileShape) (numrecs : Option ℕ) (had more : List Array)
    (now : Option (List ℕ)) : Type 0 where
  Untouched : now ≡ before → IsTorn begun size before shape numrecs had more now
  Header : begun ≡ false → (front rest : List ℕ) → header shape numrecs ≡ front ++ rest → now ≡ Some front
      → IsTorn begun size before shape numrecs had more now
  Rows : (front rest : List ℕ) → flat_map (row shape) more ≡ front ++ rest → now ≡ Some (begun_file shape numrecs had ++ front)
      → IsTorn begun size before shape numrecs had more now
  Miscounted : numrecs ≡ None → size ≤ length (had ++ more) → (any : List ℕ) → length any ≡ 4
      → now ≡ Some (overwritten (begun_file shape numrecs (had ++ more)) count_place any) → IsTorn begun size before shape numrecs had more now

-- these arrays are in the node's files, but for the group whose name the shelf has failed on
abbrev pub AreWrittenBut : NodeFile → List Array → (group : ℕ) → Option Files → Type 0
AreWrittenBut x arrays group held = (i : ℕ) → i ≢ group → HasBytes held (name_of x i) (group_file x arrays i)

-- after want of memory: nothing changed, or the file was begun and has no row
abbrev pub IsHeldBack : (old new : Option Stream) → (held now : Option Files) → Type 0
IsHeldBack (Some f) o held now = (o ≡ Some f) × (now ≡ held)
IsHeldBack None None held now = now ≡ held
IsHeldBack None (Some f) held now = Unit {0}

-- what a write that stopped leaves: want of memory nothing new in the files, and a fault of the shelf the name of the group as it is torn
abbrev pub WriteStops : SaveFault → (x : NodeFile) → List Array → (group : ℕ) → (numrecs : Option ℕ) → (a : Array) → (y : NodeFile)
    → (held now : Option Files) → Type 0
WriteStops OutOfMemory x arrays group numrecs a y held now = AreWritten y arrays now × IsHeldBack x.current y.current held now
WriteStops Failed x arrays group numrecs a y held now =
    (y.current ≡ None) × AreWrittenBut y arrays group now
    × IsTorn (is_some x.current) x.count (file_at held (name_of x group)) x.shape numrecs (group_of x.count group arrays) (a ∷ [])
    (file_at now (name_of x group))

-- each group of these arrays is a whole file
abbrev pub AreEnded : NodeFile → List Array → Option Files → Type 0
AreEnded x arrays held = (i : ℕ) → HasBytes held (name_of x i) (whole_file x.shape (group_of x.count i arrays))

abbrev pub EndTorn : Option Stream → NodeFile → (group : ℕ) → List Array → (held now : Option Files) → Type 0
EndTorn None x i arrays held now = ⊥
EndTorn (Some f) x i arrays held now =
    IsTorn true (length arrays) (file_at held (name_of x i)) x.shape f.numrecs arrays [] (file_at now (name_of x i))

-- what an end that failed leaves: all other groups, and the open file's name as it is torn
abbrev pub EndStops : NodeFile → List Array → (held now : Option Files) → Type 0
EndStops x arrays held now =
    let i = length arrays / x.count in
    AreWrittenBut x arrays i now × EndTorn x.current x i (group_of x.count i arrays) held now

-- the open file has a row, and as many as its header says
abbrev pub IsFilled : Option Stream → Type 0
IsFilled None = Unit {0}
IsFilled (Some f) = (1 ≤ f.count) × ForSome f.numrecs (λ n. n ≡ f.count)

-- ROW BY ROW

-- a file after one row more: open still, or ended with the layout of its rows
abbrev pub RowGoes : (more : Bool) → Stream → List Array → (current : Option Stream) → Option Files → Type 0
RowGoes true f arrays current held = (current ≡ Some (record f { count = f.count + 1 })) × HasRows held (record f { count = f.count + 1 }) arrays
RowGoes false f arrays current held = (current ≡ None) × HasFile held f.name (layout f.shape arrays)

-- a row that wasn't written whole, to a file that ends with so many
abbrev pub RowStops : SaveFault → (size : ℕ) → Stream → (a : Array) → (current : Option Stream) → (held now : Option Files) → Type 0
RowStops OutOfMemory size f a current held now = (current ≡ Some f) × (now ≡ held)
RowStops Failed size f a current held now =
    (current ≡ None) × ((arrays : List Array) → HasRows held f arrays
    → IsTorn true size (file_at held f.name) f.shape f.numrecs arrays (a ∷ []) (file_at now f.name))
