use Rattle.std.proofs.Common.{ℕ, ◌<◌, ◌≤◌, ◌^◌, ◌+ℤ◌}
use Rattle.std.specs.Prelude.{unsigned_abs}
use Rattle.nd_series.specs.Kept.{part_at}
use Rattle.nd_series.proofs.Totals.{AreChangedTo}
use Rattle.nd_series.proofs.series.add_totals.Given as goal

abbrev pub invariant-loop-k : goal.invariant-loop-k
invariant-loop-k l = record {
  totals : AreChangedTo (λ sum total. sum +ℤ total) l.parts l.initial.sums l.sums l.k;
  small : (j : ℕ) → j < l.k → unsigned_abs (part_at j l.parts).total ≤ 2 ^ 63;
}
