use Rattle.std.proofs.Common.{◌≡◌, ◌-◌, length}
use Rattle.graph_conf.specs.Graphs.{first_place, is_double}
use Rattle.graph_conf.proofs.links.distinct.Given as goal

abbrev pub invariant-loop-place : goal.invariant-loop-place
invariant-loop-place l = first_place (is_double l.nodes) l.place (length l.nodes - l.place) ≡ first_place (is_double l.nodes) 0 (length l.nodes)
