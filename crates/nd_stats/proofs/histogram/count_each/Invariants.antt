use Rattle.nd_base.specs.Samples.{numbers}
use Rattle.nd_stats.specs.Samples.{placed}
use Rattle.nd_stats.specs.Running.{IsCounted}
use Rattle.nd_stats.proofs.histogram.count_each.Given as goal

abbrev pub invariant-loop-k : goal.invariant-loop-k
invariant-loop-k l = IsCounted l.rule (placed l.from (numbers l.kind l.k l.samples)) l.ends l.counts
