-- Where no count of faults rose, the files decide.
use Rattle.std.specs.Prelude.{◌≡◌, ◌⊎◌, Option}
use Rattle.edge_traits.specs.Faults.{Rose}
use Rattle.edge_traits.specs.Files.{Files}
use Rattle.tool_commands.specs.declared.status.Status.{Status}
use Rattle.tool_commands.specs.declared.status.Status.TheVariants.{OutOfMemory}
use Rattle.tool_commands.specs.Causes.{Counts}
use Rattle.tool_commands.specs.Outcomes.{Outcome, Asks}

-- no count of faults rose
pub record NoneRose (before after : Counts) : Type 0 where
  pub library : ¬ Rose before.library after.library
  pub shelf : ¬ Rose before.shelf after.shelf
  pub sink : ¬ Rose before.sink after.sink

-- where none rose the files ask for the status, where they are told, save for want of memory
abbrev pub Completes : {A : Type 0} → Outcome A → Status → (told : Option Files) → (before after : Counts) → Type 0
Completes outcome status told before after = NoneRose before after → Asks told outcome status ⊎ (status ≡ OutOfMemory)
