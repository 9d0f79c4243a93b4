-- What a run goes over.
use Rattle.std.specs.Prelude.{◌≡◌, Option, None, Some, Ok}
use Rattle.nd_base.specs.GraphRules.{IsGraph}
use Rattle.edge_traits.specs.Files.{Files}
use Rattle.nd_stack.specs.KeptStacks.{IsKeptStack}
use Rattle.graph_conf.specs.Loads.{limit_fault}
use Rattle.demo_laws.specs.Demo.{demo_graph, demo_stack}
use Rattle.tool_commands.specs.declared.status.Status.TheVariants.{Usage}
use Rattle.tool_commands.specs.Outcomes.{Outcome, Refused, Works, Leads}
use Rattle.tool_commands.specs.Works.{Source, sources}
use Rattle.replay_top.specs.RunCommand.{RunCommand, RunSource, Named, Demo}

-- the files that it is read from, one after the other, or the demo run, which needs none
abbrev pub run_sources : RunSource → Outcome Source
run_sources (Named graph stack) = sources graph stack
run_sources (Demo frames) = Works (record { graph = demo_graph frames; stack = demo_stack frames })

-- what a run asks its files for; no run is refused at once
abbrev pub sources_of : Option RunCommand → Outcome Source
sources_of None = Refused Usage
sources_of (Some c) = run_sources c.source

-- a graph and a stack that were read or made, and so can be run
pub record IsSourceRead (told : Option Files) (from : RunSource) (source : Source) : Type 0 where
  pub read : Leads told (run_sources from) (Ok source)
  pub sound : IsGraph source.graph
  pub kept : IsKeptStack source.stack
  pub within : limit_fault source.graph source.stack ≡ None
