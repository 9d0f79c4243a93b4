use Rattle.std.proofs.Common.{◌≡◌, ◌≤◌, ◌-◌, ◌/◌, length, take, sum_by}
use Rattle.nd_base.specs.Samples.{number, numbers, width}
use Rattle.nd_stats.specs.Samples.{placed, sum_of}
use Rattle.nd_stats.specs.Measured.{square}
use Rattle.nd_stats.specs.Running.{AreExtremes, IsEdge, AreMoments}
use Rattle.nd_stats.proofs.blocks.basics_of.Given as goal

abbrev pub invariant-loop-done : goal.invariant-loop-done
invariant-loop-done l = record {
  done : l.done ≤ length l.samples / width l.kind;
  extremes : AreExtremes (record { place = l.from; value = number l.kind (take (width l.kind) l.samples) })
      (placed l.from (numbers l.kind l.done l.samples)) l.extremes;
  total : l.total ≡ sum_of (λ t. t.value) (placed l.from (numbers l.kind l.done l.samples));
  squares : l.squares ≡ sum_by (λ t. square t.value) (placed l.from (numbers l.kind l.done l.samples));
  edge : IsEdge l.rule l.dims (placed l.from (numbers l.kind l.done l.samples)) l.edge;
  moments : AreMoments l.rule l.dims (placed l.from (numbers l.kind l.done l.samples)) l.moments;
}

abbrev pub decreases-loop-done : goal.decreases-loop-done
decreases-loop-done l = l.count - l.done
