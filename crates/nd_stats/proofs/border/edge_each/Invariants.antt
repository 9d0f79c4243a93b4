use Rattle.std.proofs.Common.{◌≡◌, ◌≤◌, ◌+◌, ◌-◌, ◌/◌, length}
use Rattle.nd_base.specs.Samples.{numbers, width}
use Rattle.nd_stats.specs.Samples.{placed}
use Rattle.nd_stats.specs.Running.{IsEdge}
use Rattle.nd_stats.specs.Spots.{IsSpot}
use Rattle.nd_stats.proofs.border.edge_each.Given as goal

abbrev pub invariant-loop-done : goal.invariant-loop-done
invariant-loop-done l = record {
  done : l.done ≤ length l.samples / width l.kind;
  place : l.spot.place ≡ l.from + l.done;
  spot : IsSpot l.rule.border l.dims l.spot;
  edge : IsEdge l.rule l.dims (placed l.from (numbers l.kind l.done l.samples)) l.edge;
}

abbrev pub decreases-loop-done : goal.decreases-loop-done
decreases-loop-done l = l.count - l.done
