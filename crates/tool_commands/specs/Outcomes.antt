-- What a command asks its files for, one after the other, up to the first refusal or its work.
use Rattle.std.specs.Prelude.{◌≡◌, ◌⊎◌, ℕ, List, Option, Result, Ok, Err}
use Rattle.edge_traits.specs.Files.{Files, IsTold}
use Rattle.tool_commands.specs.declared.status.Status.{Status}
use Rattle.tool_commands.specs.declared.status.Status.TheVariants.{Done}
use Rattle.tool_commands.specs.Inputs.{Input, Meaning, meaning_of, IsReadAs, IsRefusedAs}

-- a file of this name is read, and what it means decides what is next
pub data Outcome (A : Type 0) : Type 0 where
  Reads : (input : Input) → (name : List ℕ) → (next : Meaning input → Outcome A) → Outcome A
  Refused : Status → Outcome A
  Works : A → Outcome A

-- the same, with another work of what there is to work on
abbrev pub outcome_map : {A B : Type 0} → (A → B) → Outcome A → Outcome B
outcome_map work (Reads input name next) = Reads input name (λ x. outcome_map work (next x))
outcome_map work (Refused status) = Refused status
outcome_map work (Works x) = Works (work x)

-- this file ends it
abbrev pub StopsAt : {A : Type 0} → (told : Option Files) → Input → (name : List ℕ) → Result A Status → Type 0
StopsAt told input name (Err status) = IsRefusedAs told input name status
StopsAt told input name (Ok work) = ⊥

-- the files that were read, which are those of the library where it tells them, lead to this end: the file is refused, or what it means leads there
abbrev pub Leads : {A : Type 0} → (told : Option Files) → Outcome A → Result A Status → Type 0
Leads told (Reads input name next) end = StopsAt told input name end ⊎ ((x : Meaning input) × IsReadAs told input name x × Leads told (next x) end)
Leads told (Refused status) end = end ≡ Err status
Leads told (Works work) end = end ≡ Ok work

-- the status is the refusal; or else, what was read asks for it
abbrev pub IsAskedBy : {X : Type 0} → (X → Type 0) → Result X Status → Status → Type 0
IsAskedBy Asks (Ok x) status = Asks x
IsAskedBy Asks (Err refusal) status = status ≡ refusal

-- the files of the library ask for this status, where it tells them
abbrev pub Asks : {A : Type 0} → (told : Option Files) → Outcome A → Status → Type 0
Asks told (Reads input name next) status =
    (file : List ℕ) → IsTold told name file → IsAskedBy (λ x. Asks told (next x) status) (meaning_of input file) status
Asks told (Refused refusal) status = status ≡ refusal
Asks told (Works work) status = status ≡ Done
