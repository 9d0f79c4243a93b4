use Rattle.std.proofs.Common.{◌≡◌}
use Rattle.nd_series.proofs.RegionParts.{lines_upto}
use Rattle.nd_series.proofs.region.region_part.Given as goal

abbrev pub invariant-loop-number : goal.invariant-loop-number
invariant-loop-number l = l.part ≡ lines_upto l.fn.region l.fn.dims l.fn.kind l.fn.samples l.number
