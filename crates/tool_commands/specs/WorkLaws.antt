-- What it says of the files that were read that they lead to a work, or to a refusal.
use Rattle.std.specs.Prelude.{◌≡◌, ℕ, List, Option, None, Some, Ok}
use Rattle.nd_base.specs.Array.{StackValue}
use Rattle.nd_base.specs.declared.graph.Graph.{Graph}
use Rattle.edge_traits.specs.Files.{Files}
use Rattle.graph_conf.specs.Loads.{limit_fault}
use Rattle.graph_conf.specs.declared.load.LimitFault.{LimitFault}
use Rattle.graph_conf.specs.declared.load.LimitFault.TheVariants.{GraphBytes, StackFile, GenBytes, Load, Kept, FileTooLarge}
use Rattle.tool_commands.specs.Command.{Copy, Plain, Info}
use Rattle.tool_commands.specs.Copy.{copy_graph}
use Rattle.tool_commands.specs.Inputs.{AsGraph, AsStack, IsReadAs}
use Rattle.tool_commands.specs.Outcomes.{Leads}
use Rattle.tool_commands.specs.Works.{Source, Work, copy_work, plain_work, info_work, sources, outcome_of}

-- a graph and a stack that were read, and pass no limit
pub record AreSources (told : Option Files) (graph_name stack_name : List ℕ) (source : Source) : Type 0 where
  pub graph : IsReadAs told AsGraph graph_name source.graph
  pub stack : IsReadAs told AsStack stack_name source.stack
  pub within : limit_fault source.graph source.stack ≡ None

abbrev pub SourcesAreRead : Type 0
SourcesAreRead =
    (told : Option Files) (graph stack : List ℕ) (source : Source) → Leads told (sources graph stack) (Ok source) → AreSources told graph stack source

abbrev pub PlainIsOfItsSources : Type 0
PlainIsOfItsSources =
    (told : Option Files) (graph stack prefix : List ℕ) (work : Work) → Leads told (outcome_of (Some (Plain graph stack prefix))) (Ok work)
    → (source : Source) × AreSources told graph stack source × (work ≡ plain_work prefix source)

abbrev pub CopyIsOfItsStack : Type 0
CopyIsOfItsStack =
    (told : Option Files) (stack prefix : List ℕ) (work : Work) → Leads told (outcome_of (Some (Copy stack prefix))) (Ok work)
    → (s : StackValue) × IsReadAs told AsStack stack s × (limit_fault copy_graph s ≡ None) × (work ≡ copy_work prefix s)

abbrev pub InfoIsOfItsStack : Type 0
InfoIsOfItsStack =
    (told : Option Files) (stack : List ℕ) (work : Work) → Leads told (outcome_of (Some (Info stack))) (Ok work)
    → (s : StackValue) × IsReadAs told AsStack stack s × (work ≡ info_work s)

-- the limits that a graph can pass over a stack are none of the sizes of their files
abbrev pub IsOfLoad : LimitFault → Type 0
IsOfLoad (Load arrivals) = Unit {0}
IsOfLoad (Kept numbers) = Unit {0}
IsOfLoad (FileTooLarge node bytes) = Unit {0}
IsOfLoad (GraphBytes bytes) = ⊥
IsOfLoad (StackFile bytes) = ⊥
IsOfLoad (GenBytes bytes) = ⊥

abbrev pub LoadsAreNoSizes : Type 0
LoadsAreNoSizes = (g : Graph) (s : StackValue) (fault : LimitFault) → limit_fault g s ≡ Some fault → IsOfLoad fault
