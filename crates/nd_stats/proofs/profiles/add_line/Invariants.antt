use Rattle.std.proofs.Common.{◌≡◌, ◌+◌, ◌*◌, drop}
use Rattle.nd_base.specs.Samples.{numbers, width}
use Rattle.lane_kernels.specs.Plain.{total}
use Rattle.nd_stats.specs.Samples.{placed}
use Rattle.nd_stats.specs.Running.{sums_along}
use Rattle.nd_stats.proofs.profiles.add_line.Given as goal

abbrev pub invariant-loop-k : goal.invariant-loop-k
invariant-loop-k l = record {
  sums : l.sums ≡ sums_along l.dims 0 (placed l.from (numbers l.kind (l.done + l.k) l.samples));
  sum : l.sum ≡ total (numbers l.kind l.k (drop (l.done * width l.kind) l.samples));
}
