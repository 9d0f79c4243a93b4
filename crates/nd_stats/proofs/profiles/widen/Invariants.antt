use Rattle.std.proofs.Common.{◌≡◌, ℕ, ◌<◌, length, get_or, pos}
use Rattle.nd_stats.proofs.profiles.widen.Given as goal

abbrev pub invariant-loop-k : goal.invariant-loop-k
invariant-loop-k l = record {
  long : length l.sums ≡ length l.narrow;
  same : (j : ℕ) → j < l.k → get_or l.sums j (pos 0) ≡ get_or l.narrow j (pos 0);
}
