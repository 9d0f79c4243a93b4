use Rattle.demo_laws.proofs.Demos.{demo-graph, demo-whole}
use Rattle.demo_laws.proofs.laws.demos_are_whole.Goals as goal

pub returns-clause-graph : goal.returns-clause-graph
returns-clause-graph c = demo-graph

pub returns-clause-whole : goal.returns-clause-whole
returns-clause-whole c frames P some few run ticks = demo-whole frames some few P run ticks
