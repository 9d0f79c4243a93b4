-- Names with their bytes, where they are told.
use Rattle.std.specs.Prelude.{◌≡◌, ◌⊎◌, ℕ, ◌+◌, ◌≤◌, List, [], ◌++◌, length, take, drop, Option, Some, None, unwrap_or}
use Rattle.std.specs.Ordering.{nat_cmp}
use Rattle.std.specs.Cmp.Lexicographic.{slice_cmp}
use Rattle.std.specs.FinMap as map

-- from names to bytes
abbrev pub Files : Type 0
Files = map.FinMap (slice_cmp nat_cmp) (List ℕ)

-- the bytes under a name, none of them where it isn't there
abbrev pub bytes_in : Files → List ℕ → List ℕ
bytes_in files name = unwrap_or (map.get files name) []

-- the bytes with these in place of as many from `off` on
abbrev pub overwritten : List ℕ → ℕ → List ℕ → List ℕ
overwritten file off bytes = take off file ++ (bytes ++ drop (off + length bytes) file)

-- the bytes under a name; None where it isn't there, or nothing is told
abbrev pub file_at : Option Files → List ℕ → Option (List ℕ)
file_at None name = None
file_at (Some files) name = map.get files name

-- the same, with these bytes under the name
abbrev pub with_file : Option Files → List ℕ → List ℕ → Option Files
with_file None name bytes = None
with_file (Some files) name bytes = Some (map.insert files name bytes)

-- the same, with these bytes at the end of what the name has
abbrev pub with_more : Option Files → List ℕ → List ℕ → Option Files
with_more None name bytes = None
with_more (Some files) name bytes = Some (map.insert files name (bytes_in files name ++ bytes))

-- the same, with these bytes over what the name has from `off` on
abbrev pub with_patch : Option Files → List ℕ → ℕ → List ℕ → Option Files
with_patch None name off bytes = None
with_patch (Some files) name off bytes = Some (map.insert files name (overwritten (bytes_in files name) off bytes))

-- the name stands there, where this is told
abbrev pub Stands : Option Files → List ℕ → Type 0
Stands None name = Unit {0}
Stands (Some files) name = (bytes : List ℕ) × (map.get files name ≡ Some bytes)

-- the name stands there with `count` bytes from `off` on, where this is told
abbrev pub HasRange : Option Files → List ℕ → ℕ → ℕ → Type 0
HasRange None name off count = Unit {0}
HasRange (Some files) name off count = (bytes : List ℕ) × (map.get files name ≡ Some bytes) × (off + count ≤ length bytes)

-- the name is told to have these bytes
abbrev pub IsTold : Option Files → List ℕ → List ℕ → Type 0
IsTold None name bytes = ⊥
IsTold (Some files) name bytes = map.get files name ≡ Some bytes

-- the name has these bytes, where this is told
abbrev pub HasFile : Option Files → List ℕ → List ℕ → Type 0
HasFile None name bytes = Unit {0}
HasFile (Some files) name bytes = map.get files name ≡ Some bytes

-- what a create that failed may leave: what was, or the name with no bytes
abbrev pub MayCreate : Option Files → List ℕ → Option Files → Type 0
MayCreate old name new = (new ≡ old) ⊎ (new ≡ with_file old name [])

-- what an append that failed may leave: a front of the piece at the end
abbrev pub MayAppend : Option Files → List ℕ → List ℕ → Option Files → Type 0
MayAppend old name bytes new = (count : ℕ) × (new ≡ with_more old name (take count bytes))

-- what a patch that failed may leave: any bytes in the range, and all else as it was
abbrev pub MayPatch : Option Files → List ℕ → ℕ → List ℕ → Option Files → Type 0
MayPatch old name off bytes new = (any : List ℕ) × (length any ≡ length bytes) × (new ≡ with_patch old name off any)
