-- Files one after the other in one storage, each as its name and then its bytes.
use Rattle.std.specs.Prelude.{◌≡◌, ◌≢◌, ℕ, zero, suc, ◌+◌, ◌<◌, ◌≤◌, ◌^◌, List, [], ◌∷◌, length, take, drop, sum_by}
use Rattle.edge_traits.specs.declared.memory.arena.Extent.{Extent}
use Rattle.edge_traits.specs.Memory.{NamedFile}

-- the bytes that a file takes
abbrev pub size_of : Extent → ℕ
size_of e = e.name + e.bytes

abbrev pub total_size : List Extent → ℕ
total_size extents = sum_by size_of extents

-- the files of these lengths
abbrev pub parts : List Extent → List ℕ → List NamedFile
parts [] storage = []
parts (e ∷ es) storage = (take e.name storage, take e.bytes (drop e.name storage)) ∷ parts es (drop (size_of e) storage)

-- the first file of the name has the lengths e, is the one of this index, and begins at `start`
abbrev pub IsPlace : List Extent → List ℕ → List ℕ → Extent → ℕ → ℕ → Type 0
IsPlace [] storage name e index start = ⊥
IsPlace (x ∷ xs) storage name e zero start = (x ≡ e) × (start ≡ 0) × (take x.name storage ≡ name)
IsPlace (x ∷ xs) storage name e (suc index) start =
    (take x.name storage ≢ name) × ((rest : ℕ) × (start ≡ size_of x + rest) × IsPlace xs (drop (size_of x) storage) name e index rest)

-- the storage is filled by the files, and has room enough
pub record IsReserved (extents : List Extent) (storage : List ℕ) (room names space places : ℕ) : Type 0 where
  pub filled : total_size extents ≡ length storage
  pub room_kept : length storage ≤ room
  pub names_kept : length extents ≤ names
  pub space_kept : room ≤ space
  pub places_kept : names ≤ places
  pub names_fit : names < 2 ^ 32
