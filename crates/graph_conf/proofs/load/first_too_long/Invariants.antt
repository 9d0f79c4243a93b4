use Rattle.std.proofs.Common.{◌≡◌, ◌+◌, ◌-◌, length}
use Rattle.graph_conf.specs.Loads.{first_too_long}
use Rattle.graph_conf.proofs.load.first_too_long.Given as goal

abbrev pub invariant-loop-place : goal.invariant-loop-place
invariant-loop-place l = first_too_long l.graph l.stack (l.place + 1) (length l.graph.nodes - l.place) ≡ first_too_long l.graph l.stack 1 (length l.graph.nodes)
