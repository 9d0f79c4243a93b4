use Rattle.std.proofs.Common.{◌≡◌, ℕ, ◌+◌, ◌*◌, ◌≤◌, drop, get_or, pos}
use Rattle.std.specs.Prelude.{unsigned_abs}
use Rattle.nd_base.specs.Samples.{numbers, width}
use Rattle.lane_kernels.specs.Plain.{total}
use Rattle.nd_stats.specs.Samples.{placed}
use Rattle.nd_stats.specs.Running.{sums_along, AreWithin}
use Rattle.nd_stats.proofs.profiles.add_narrow_line.Given as goal

abbrev pub invariant-loop-k : goal.invariant-loop-k
invariant-loop-k l = record {
  sums : l.sums ≡ sums_along l.dims 0 (placed l.from (numbers l.kind (l.done + l.k) l.samples));
  behind : (j : ℕ) → l.x + l.k ≤ j → get_or l.sums j (pos 0) ≡ get_or l.initial.sums j (pos 0);
  grown : (most : ℕ) → AreWithin most l.initial.sums → AreWithin (most + 65535) l.sums;
  sum : l.sum ≡ total (numbers l.kind l.k (drop (l.done * width l.kind) l.samples));
  low : unsigned_abs l.sum ≤ l.k * 65535;
}
