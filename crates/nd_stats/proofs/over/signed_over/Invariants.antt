use Rattle.std.proofs.Common.{◌≡◌, ◌*◌, ◌≤◌, pos, ◌+ℤ◌, ◌*ℤ◌}
use Rattle.std.specs.Prelude.{unsigned_abs}
use Rattle.nd_base.specs.Samples.{numbers}
use Rattle.nd_base.specs.declared.array.SampleType.TheVariants.{Int32}
use Rattle.nd_stats.specs.Samples.{placed}
use Rattle.nd_stats.specs.Measured.{count_where, value_where}
use Rattle.nd_stats.specs.Over.{reaches, weighted}
use Rattle.nd_stats.proofs.over.signed_over.Given as goal

abbrev pub invariant-loop-index : goal.invariant-loop-index
invariant-loop-index l = record {
  count : l.count ≡ count_where (reaches l.threshold) (placed 0 (numbers Int32 l.index l.block));
  sum : l.low +ℤ (pos 65536 *ℤ l.high) ≡ value_where (reaches l.threshold) (placed 0 (numbers Int32 l.index l.block));
  moment : l.low_moment +ℤ (pos 65536 *ℤ l.high_moment) ≡ weighted l.threshold (placed 0 (numbers Int32 l.index l.block));
  few : l.count ≤ l.index;
  high : unsigned_abs l.high ≤ l.index * 65535;
  low : unsigned_abs l.low ≤ l.index * 65535;
  high_moment : unsigned_abs l.high_moment ≤ l.index * 8388480;
  low_moment : unsigned_abs l.low_moment ≤ l.index * 8388480;
}
