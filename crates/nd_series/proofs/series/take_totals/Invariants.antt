use Rattle.std.specs.Prelude.{◌-ℤ◌}
use Rattle.nd_series.proofs.Totals.{AreChangedTo}
use Rattle.nd_series.proofs.series.take_totals.Given as goal

abbrev pub invariant-loop-k : goal.invariant-loop-k
invariant-loop-k l = AreChangedTo (λ sum total. sum -ℤ total) l.parts l.initial.sums l.sums l.k
