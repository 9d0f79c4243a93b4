use Rattle.std.proofs.Common.{◌≡◌, ℕ, ◌<◌, get_or, pos}
use Rattle.std.specs.Int.{w32, int_wrap}
use Rattle.std.specs.Int.RustNames.{int_div}
use Rattle.nd_roi.proofs.sample.divide_each.Given as goal

abbrev pub invariant-loop-k : goal.invariant-loop-k
invariant-loop-k l = (i : ℕ) → i < l.k → get_or l.quotients i (pos 0) ≡ int_wrap w32 (int_div (get_or l.sums i (pos 0)) l.scale)
