use Rattle.std.proofs.Common.{◌≡◌, take}
use Rattle.nd_stats.specs.Joined.{summed}
use Rattle.nd_stats.proofs.merge.add_each.Given as goal

abbrev pub invariant-loop-index : goal.invariant-loop-index
invariant-loop-index l = l.sums ≡ summed l.initial.sums (take l.index l.more)
