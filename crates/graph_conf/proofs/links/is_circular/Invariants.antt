use Rattle.std.proofs.Common.{◌≡◌, ◌+◌, ◌-◌, length}
use Rattle.graph_conf.specs.Graphs.{source_of}
use Rattle.graph_conf.proofs.links.is_circular.Given as goal

abbrev pub invariant-loop : goal.invariant-loop
invariant-loop l = source_of l.inputs (length l.inputs - l.counter) l.node ≡ source_of l.inputs (length l.inputs) (l.place + 1)
