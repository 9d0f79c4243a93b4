-- What calls that write leave on the shelf where they don't answer Ok, and why.
use Rattle.std.specs.Prelude.{◌≡◌, ℕ, List, ◌++◌, Option, Result, Ok, Err}
use Rattle.edge_traits.specs.Faults.{Rose}
use Rattle.edge_traits.specs.Files.{Files, with_file, MayAppend}
use Rattle.file_out.specs.declared.fault.SaveFault.{SaveFault}
use Rattle.file_out.specs.declared.fault.SaveFault.TheVariants.{Failed, OutOfMemory}

-- the shelf's count of faults rose where the shelf failed; with every other answer it stays
abbrev pub IsSaveCause : {T : Type 0} → Result T SaveFault → (before now : ℕ) → Type 0
IsSaveCause (Ok x) before now = now ≡ before
IsSaveCause (Err Failed) before now = Rose before now
IsSaveCause (Err OutOfMemory) before now = now ≡ before

-- the last that was done to the shelf is a finish of the name
abbrev pub HasFinished : {K : Type 0} → (finishes : List ℕ → K → K → Type 0) → (name : List ℕ) → K → Type 0
HasFinished {K} finishes name now = (before : K) × finishes name before now

-- the shelf as before, or with a front of a file's final bytes under its name
pub data IsBegun (held : Option Files) (name final : List ℕ) (now : Option Files) : Type 0 where
  Untouched : now ≡ held → IsBegun held name final now
  Front : (front rest : List ℕ) → final ≡ front ++ rest → now ≡ with_file held name front → IsBegun held name final now

-- what stands where a file wasn't begun: a front of its header, and nothing new after want of memory
abbrev pub BeginStops : SaveFault → Option Files → (name header : List ℕ) → Option Files → Type 0
BeginStops Failed held name header now = IsBegun held name header now
BeginStops OutOfMemory held name header now = now ≡ held

-- what stands where a row wasn't added: a front of it, and nothing of it after want of memory
abbrev pub AddStops : SaveFault → Option Files → (name row : List ℕ) → Option Files → Type 0
AddStops Failed held name row now = MayAppend held name row now
AddStops OutOfMemory held name row now = now ≡ held
