-- What a fault of the library says: which file it is of, and what was read before it.
use Rattle.std.specs.Prelude.{◌≡◌, ◌⊎◌, ◌≤◌, ℕ, List, length, Option, Ok}
use Rattle.edge_traits.specs.Faults.{LibraryCall, SizeCall, ReadCall, Rose}
use Rattle.edge_traits.specs.Files.{Files, IsTold}
use Rattle.tool_commands.specs.declared.reading.ReadRefusal.{ReadRefusal}
use Rattle.tool_commands.specs.declared.reading.ReadRefusal.TheVariants as reading
use Rattle.tool_commands.specs.declared.status.Status.{Status}
use Rattle.tool_commands.specs.declared.status.Status.TheVariants.{ReadFault, ShelfFault, OutFault, OutOfMemory}
use Rattle.tool_commands.specs.Inputs.{Meaning, most_bytes, IsReadAs}
use Rattle.tool_commands.specs.Outcomes.{Outcome, Reads, Refused, Works, Leads, Asks}

-- by the counts of faults at each call and name: no call has failed
abbrev pub NoneFailed : (before now : LibraryCall → List ℕ → ℕ) → Type 0
NoneFailed before now = (call : LibraryCall) → (name : List ℕ) → now call name ≡ before call name

-- a call for this file has failed: for its size; or for bytes of it, which are asked for only of a file that has at most so many, where it is told
abbrev pub FailedAt : (told : Option Files) → (most : ℕ) → (before now : LibraryCall → List ℕ → ℕ) → List ℕ → Type 0
FailedAt told most before now name =
    Rose (before SizeCall name) (now SizeCall name)
    ⊎ (Rose (before ReadCall name) (now ReadCall name) × ((file : List ℕ) → IsTold told name file → length file ≤ most))

-- the library failed at one of the files of a command, and those before it were read and lead to it
abbrev pub FailsIn : {A : Type 0} → (told : Option Files) → (before now : LibraryCall → List ℕ → ℕ) → Outcome A → Type 0
FailsIn told before now (Reads input name next) =
    FailedAt told (most_bytes input) before now name ⊎ ((x : Meaning input) × IsReadAs told input name x × FailsIn told before now (next x))
FailsIn told before now (Refused status) = ⊥
FailsIn told before now (Works work) = ⊥

-- where a file wasn't read since the library failed
abbrev pub IfFailed : ReadRefusal → Type 0 → Type 0
IfFailed reading.Failed P = P
IfFailed _ P = Unit {0}

abbrev pub IfUnread : Status → Type 0 → Type 0
IfUnread ReadFault P = P
IfUnread _ P = Unit {0}

-- The files decide the status, whatever was counted: where they are told, they ask for it; or else the library failed at one of them, or they lead to a
-- work, at whose files or print the shelf or the sink failed; or memory ran out.
pub data Decides {A : Type 0} (outcome : Outcome A) (told : Option Files) (before now : LibraryCall → List ℕ → ℕ) : Status → Type 0 where
  Asked : (status : Status) → Asks told outcome status → Decides outcome told before now status
  Unread : FailsIn told before now outcome → Decides outcome told before now ReadFault
  Unwritten : (work : A) → Leads told outcome (Ok work) → Decides outcome told before now ShelfFault
  Unprinted : (work : A) → Leads told outcome (Ok work) → Decides outcome told before now OutFault
  NoMemory : Decides outcome told before now OutOfMemory
