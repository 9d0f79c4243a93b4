use Rattle.std.proofs.Common.{◌≡◌, ◌+◌, ◌*◌, ◌%◌, ◌^◌, ◌≤◌}
use Rattle.std.specs.Prelude.{unsigned_abs}
use Rattle.nd_base.specs.Samples.{numbers}
use Rattle.lane_kernels.specs.Plain.{total, squares}
use Rattle.lane_kernels.proofs.sums.sums_by_parts.Given as goal

abbrev pub invariant-loop-k : goal.invariant-loop-k
invariant-loop-k l = record {
  sum : l.sum ≡ total (numbers l.kind l.k l.samples);
  bound : unsigned_abs l.sum ≤ l.k * 4294967296;
  whole : l.whole ≡ squares (numbers l.kind l.k l.samples) % 2 ^ 64;
  least : 68719476736 * l.high ≤ squares (numbers l.kind l.k l.samples);
  most : squares (numbers l.kind l.k l.samples) ≤ 68719476736 * l.high + l.k * 68719476736;
  high : l.high ≤ l.k * 268435456;
}
