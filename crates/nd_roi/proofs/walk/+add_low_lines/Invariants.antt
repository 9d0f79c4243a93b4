use Rattle.std.proofs.Common.{◌≡◌, ℕ, ◌+◌, ◌*◌, ◌<◌, length, get_or, pos, ◌+ℤ◌, reverse}
use Rattle.std.specs.Int.{w32, int_wrap}
use Rattle.nd_roi.specs.Walk.{run, lines_total, sum_below}
use Rattle.nd_roi.proofs.walk.+add_low_lines.Given as goal

abbrev pub decreases-add_low_lines : goal.decreases-add_low_lines
decreases-add_low_lines l = length l.slower.now

abbrev pub invariant-loop-j : goal.invariant-loop-j
invariant-loop-j l = (k : ℕ) → k < length l.sums
    → get_or l.sums k (pos 0)
    ≡ int_wrap w32 (get_or l.initial.sums k (pos 0) +ℤ sum_below l.j
    (λ j. lines_total (reverse l.faster) (run l.kind l.input l.bin) (l.base + k * l.bin + j * l.axis.stride)))
