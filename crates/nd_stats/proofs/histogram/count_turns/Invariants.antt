use Rattle.std.proofs.Common.{◌+◌, ◌/◌, length}
use Rattle.nd_base.specs.Samples.{width, numbers}
use Rattle.nd_stats.specs.Samples.{placed}
use Rattle.nd_stats.specs.Running.{IsCounted}
use Rattle.nd_stats.proofs.histogram.count_turns.Given as goal

abbrev pub invariant-loop-k : goal.invariant-loop-k
invariant-loop-k l =
    IsCounted l.rule (placed l.from (numbers l.kind l.k l.first)) l.one l.counts
    × IsCounted l.rule (placed (l.from + length l.first / width l.kind) (numbers l.kind l.k l.second)) l.two l.more
