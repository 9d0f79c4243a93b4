-- What a plain run goes over.
use Rattle.std.specs.Prelude.{◌≡◌, None}
use Rattle.nd_base.specs.Array.{StackValue}
use Rattle.nd_base.specs.GraphRules.{IsGraph}
use Rattle.nd_base.specs.declared.graph.Graph.{Graph}
use Rattle.nd_stack.specs.KeptStacks.{IsKeptStack}
use Rattle.graph_conf.specs.Loads.{limit_fault}

-- a graph, and the stack that it goes over
pub record SourceValue : Type 0 where
  pub graph : Graph
  pub stack : StackValue

-- the graph meets its rules, the stack is one that was read, and no limit is passed
pub record IsSource (x : SourceValue) : Type 0 where
  pub graph : IsGraph x.graph
  pub kept : IsKeptStack x.stack
  pub within : limit_fault x.graph x.stack ≡ None
