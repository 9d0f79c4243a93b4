-- How far a file was compared.
use Rattle.std.specs.Prelude.{◌≡◌, ℕ, Bool, true, false, List, length, take, drop, Option}
use Rattle.edge_traits.specs.Files.{Files, HasFile, IsTold, Stands}
use Rattle.data_check.specs.ComparedFiles.{HasOther}

-- these bytes stand in the file from a place on
abbrev pub HasPart : (file : List ℕ) → (off : ℕ) → (bytes : List ℕ) → Type 0
HasPart file off bytes = take (length bytes) (drop off file) ≡ bytes

-- the name of a file, how many bytes it has, and how many of them were compared
pub record FrontValue : Type 0 where
  pub name : List ℕ
  pub size : ℕ
  pub at : ℕ

-- the file has so many bytes, and those that were compared are these
pub record HasFront (told : Option Files) (f : FrontValue) (bytes : List ℕ) : Type 0 where
  pub stands : Stands told f.name
  pub size : (file : List ℕ) → IsTold told f.name file → f.size ≡ length file
  pub at : f.at ≡ length bytes
  pub same : (file : List ℕ) → IsTold told f.name file → HasPart file 0 bytes

-- the file is there, and doesn't begin with these bytes
pub record LacksFront (told : Option Files) (name bytes : List ℕ) : Type 0 where
  pub stands : Stands told name
  pub other : (file : List ℕ) → IsTold told name file → HasPart file 0 bytes → ⊥

-- the file goes on to these bytes, or doesn't
abbrev pub GoesOn : (same : Bool) → Option Files → FrontValue → (bytes : List ℕ) → Type 0
GoesOn true told f bytes = HasFront told f bytes
GoesOn false told f bytes = LacksFront told f.name bytes

-- the file is there with these bytes, or with others
abbrev pub IsVerdict : (same : Bool) → Option Files → (name bytes : List ℕ) → Type 0
IsVerdict true told name bytes = HasFile told name bytes
IsVerdict false told name bytes = HasOther told name bytes
