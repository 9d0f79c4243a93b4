use Rattle.std.proofs.Common.{◌≡◌, take}
use Rattle.nd_series.specs.Stacks.{series_of}
use Rattle.nd_series.proofs.stack.series_of.Given as goal

abbrev pub invariant-loop-k : goal.invariant-loop-k
invariant-loop-k l = l.series ≡ series_of l.most l.regions (take l.k l.stack.arrays)
