use Rattle.std.proofs.Common.{◌≡◌, ◌-◌, length}
use Rattle.graph_conf.specs.Graphs.{first_place, is_circular}
use Rattle.graph_conf.proofs.links.acyclic.Given as goal

abbrev pub invariant-loop-place : goal.invariant-loop-place
invariant-loop-place l = first_place (is_circular l.inputs) l.place (length l.inputs - l.place) ≡ first_place (is_circular l.inputs) 0 (length l.inputs)
