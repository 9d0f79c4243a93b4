use Rattle.std.proofs.Common.{◌≡◌, ◌*◌, ◌≤◌}
use Rattle.std.specs.Prelude.{unsigned_abs}
use Rattle.nd_base.specs.Samples.{numbers}
use Rattle.nd_stats.specs.Samples.{placed}
use Rattle.nd_stats.specs.Measured.{count_where, value_where}
use Rattle.nd_stats.specs.Over.{reaches, weighted}
use Rattle.nd_stats.proofs.over.wide_over.Given as goal

abbrev pub invariant-loop-index : goal.invariant-loop-index
invariant-loop-index l = record {
  count : l.count ≡ count_where (reaches l.threshold) (placed 0 (numbers l.kind l.index l.block));
  sum : l.sum ≡ value_where (reaches l.threshold) (placed 0 (numbers l.kind l.index l.block));
  moment : l.moment ≡ weighted l.threshold (placed 0 (numbers l.kind l.index l.block));
  few : l.count ≤ l.index;
  low : unsigned_abs l.sum ≤ l.index * 4294967296;
  most : unsigned_abs l.moment ≤ l.index * 549755813888;
}
