-- How a command ends whose files lead to the writing of one stack.
use Rattle.std.specs.Prelude.{ℕ, List, Option, Some, Result}
use Rattle.edge_traits.specs.Files.{Files}
use Rattle.tool_commands.specs.declared.status.Status.{Status}
use Rattle.tool_commands.specs.Answers.{Ends, objects_of}
use Rattle.tool_commands.specs.Command.{Command}
use Rattle.tool_commands.specs.Outcomes.{Outcome, Leads}
use Rattle.tool_commands.specs.Works.{Work, outcome_of}

-- it ends so, whichever command it is, and whatever the library tells
abbrev pub EndsAs : Status → Outcome Work → (shelf shelf_now : Option Files) → (sink sink_now : Option (List ℕ)) → Type 0
EndsAs status outcome shelf shelf_now sink sink_now =
    (told : Option Files) (command : Command) → ((end : Result Work Status) → Leads told outcome end → Leads told (outcome_of (Some command)) end)
    → Ends status (Some command) (objects_of told shelf shelf_now sink sink_now)
