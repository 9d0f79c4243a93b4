-- What a run is refused for is what the plain run of the same words is refused for.
use Rattle.std.specs.Prelude.{◌↔◌, ℕ, Bool, List, Option, Some, Err}
use Rattle.edge_traits.specs.Files.{Files}
use Rattle.tool_commands.specs.declared.status.Status.{Status}
use Rattle.tool_commands.specs.Command.{Plain}
use Rattle.tool_commands.specs.Outcomes.{Leads, Asks}
use Rattle.tool_commands.specs.Works.{outcome_of}
use Rattle.replay_top.specs.RunCommand.{named_run}
use Rattle.replay_top.specs.RunSources.{sources_of}

-- a run is refused as the plain run of the same words is
abbrev pub RunsAreRefusedAsPlain : Type 0
RunsAreRefusedAsPlain =
    (told : Option Files) (logs watched : Bool) (graph stack prefix : List ℕ) (status : Status)
    → Leads told (sources_of (Some (named_run logs watched graph stack prefix))) (Err status) ↔ Leads told (outcome_of (Some (Plain graph stack prefix))) (Err status)

-- and its files ask for the same status
abbrev pub RunsAskAsPlain : Type 0
RunsAskAsPlain =
    (told : Option Files) (logs watched : Bool) (graph stack prefix : List ℕ) (status : Status)
    → Asks told (sources_of (Some (named_run logs watched graph stack prefix))) status ↔ Asks told (outcome_of (Some (Plain graph stack prefix))) status
