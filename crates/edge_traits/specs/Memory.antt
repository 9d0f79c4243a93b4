-- The objects in memory.
use Rattle.std.specs.Prelude.{ℕ, ◌+◌, ◌-◌, ◌^◌, min, Bool, List, [], ◌∷◌, length, sum_by, Option, Some, None, is_some, unwrap_or, if◌then◌else◌, ◌||◌, ◌&&◌}
use Rattle.std.specs.Prelude.{nat_eq, nat_lt, nat_le}
use Rattle.std.specs.List.{list_any}
use Rattle.std.specs.Str.{bytes_eq}
use Rattle.std.specs.FinMap as map
use Rattle.edge_traits.specs.Files.{Files}

-- A file: its name and its bytes.
abbrev pub NamedFile : Type 0
NamedFile = List ℕ × List ℕ

-- the map of a list of files; of two with one name the first counts
abbrev pub files_of : List NamedFile → Files
files_of [] = map.empty
files_of (f ∷ fs) = map.insert (files_of fs) f.0 f.1

-- what an object that tells these files tells
abbrev pub told : List NamedFile → Option Files
told files = Some (files_of files)

-- the bytes of the first file of a name
abbrev pub find_file : List NamedFile → List ℕ → Option (List ℕ)
find_file [] name = None
find_file (f ∷ fs) name = if bytes_eq f.0 name then Some f.1 else find_file fs name

-- the list with these bytes in the first file of the name; a new name comes last
abbrev pub set_file : List NamedFile → List ℕ → List ℕ → List NamedFile
set_file [] name bytes = (name, bytes) ∷ []
set_file (f ∷ fs) name bytes = if bytes_eq f.0 name then (f.0, bytes) ∷ fs else f ∷ set_file fs name bytes

-- the bytes of all names and files
abbrev pub bytes_used : List NamedFile → ℕ
bytes_used files = sum_by (λ f. length f.0 + length f.1) files

-- The calls of an object: the numbers of those that fail, how many were made, and how many failed.
pub record Calls : Type 0 where
  pub fails : List ℕ
  pub made : ℕ
  pub faults : ℕ

-- one more, up to the greatest `u64`
abbrev pub one_more : ℕ → ℕ
one_more n = min (n + 1) (2 ^ 64 - 1)

-- no call was made
abbrev pub no_calls : List ℕ → Calls
no_calls fails = record { fails = fails; made = 0; faults = 0 }

-- the coming call is one of those that fail
abbrev pub is_listed : Calls → Bool
is_listed calls = list_any (λ k. nat_eq k calls.made) calls.fails

-- after a call that succeeded, or that failed
abbrev pub counted : Calls → Bool → Calls
counted calls ok = record { fails = calls.fails; made = one_more calls.made; faults = if ok then calls.faults else one_more calls.faults }

-- A library in memory.
pub record MemFiles : Type 0 where
  pub files : List NamedFile
  pub calls : Calls

-- A library in memory that fails at unknown names alone.
pub record SureFiles : Type 0 where
  pub files : List NamedFile
  pub faults : ℕ

-- Files in storage of a given size, in the order of the first creates.
pub record Store : Type 0 where
  pub files : List NamedFile
  pub room : ℕ
  pub names : ℕ

-- the bytes of a file, none of them where it isn't there
abbrev pub bytes_of : Store → List ℕ → List ℕ
bytes_of store name = unwrap_or (find_file store.files name) []

-- the store with these bytes in the file of the name
abbrev pub with_bytes : Store → List ℕ → List ℕ → Store
with_bytes store name bytes = record { files = set_file store.files name bytes; room = store.room; names = store.names }

-- a create of the name stays within the room and the places for names
abbrev pub takes_name : Store → List ℕ → Bool
takes_name store name =
    is_some (find_file store.files name) || (nat_le (bytes_used store.files + length name) store.room && nat_lt (length store.files) store.names)

-- so many more bytes stay within the room
abbrev pub takes_bytes : Store → ℕ → Bool
takes_bytes store count = nat_le (bytes_used store.files + count) store.room

-- A shelf in memory.
pub record MemStore : Type 0 where
  pub store : Store
  pub calls : Calls

-- A sink in memory.
pub record MemOutput : Type 0 where
  pub written : List ℕ
  pub room : ℕ
  pub calls : Calls
