-- Why a file wasn't read.
use Rattle.std.specs.Prelude.{◌≡◌, ℕ, ◌<◌, List, length, Option}
use Rattle.edge_traits.specs.Faults.{Rose}
use Rattle.edge_traits.specs.Files.{Files, HasFile}
use Rattle.tool_commands.specs.declared.reading.ReadRefusal.{ReadRefusal}
use Rattle.tool_commands.specs.declared.reading.ReadRefusal.TheVariants.{TooLong, Failed, OutOfMemory}

-- so many bytes are those of the file, where it is told
pub record IsSized (told : Option Files) (name : List ℕ) (n : ℕ) : Type 0 where
  pub bytes : List ℕ
  pub file : HasFile told name bytes
  pub size : n ≡ length bytes

-- too long: the size is past the limit, and is that of the file where it is told; a fault: the count rose
abbrev pub ReadFaultCause : ReadRefusal → Option Files → List ℕ → (limit before now : ℕ) → Type 0
ReadFaultCause (TooLong n) told name limit before now =
    (limit < n) × IsSized told name n × (now ≡ before)
ReadFaultCause Failed told name limit before now = Rose before now
ReadFaultCause OutOfMemory told name limit before now = now ≡ before

-- the reading of a file within its limit stopped: a fault of the library, or want of memory
abbrev pub IsReadStop : ReadRefusal → (before now : ℕ) → Type 0
IsReadStop (TooLong n) before now = ⊥
IsReadStop Failed before now = Rose before now
IsReadStop OutOfMemory before now = now ≡ before
