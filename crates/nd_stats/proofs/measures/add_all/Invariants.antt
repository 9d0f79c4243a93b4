use Rattle.std.proofs.Common.{◌≡◌, ◌+◌, take}
use Rattle.nd_base.specs.Samples.{width, number, numbers}
use Rattle.nd_stats.specs.Samples.{placed}
use Rattle.nd_stats.specs.Spots.{IsSpot}
use Rattle.nd_stats.specs.Running.{IsTally}
use Rattle.nd_stats.specs.Tallies.{AreSmall}
use Rattle.nd_stats.proofs.measures.add_all.Given as goal

abbrev pub invariant-loop-k : goal.invariant-loop-k
invariant-loop-k l = record {
  tally : IsTally l.rule l.dims (record { place = l.from; value = number l.kind (take (width l.kind) l.samples) })
      (placed l.from (numbers l.kind l.k l.samples)) l.tally;
  small : AreSmall (placed l.from (numbers l.kind l.k l.samples));
  spot : IsSpot l.rule.border l.dims l.spot;
  place : l.spot.place ≡ l.from + l.k;
}
