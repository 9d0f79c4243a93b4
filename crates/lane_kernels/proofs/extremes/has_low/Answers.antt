use Rattle.std.proofs.Common.{rules, below_more, sym, ◌∙◌}
use Rattle.std.proofs.lemmas.Bool.{true≢false}
use Rattle.lane_kernels.proofs.extremes.has_low.Goals as goal
use Rattle.lane_kernels.proofs.extremes.has_low.Goals.{then-low_word-low, else-low_word-low}

pub loop-k-preserved : goal.loop-k-preserved
loop-k-preserved c = λ none. elim c.if-low_word-low.branch [
  | then-low_word-low w ↦ absurd (true≢false (sym w.found-is ∙ none))
  | else-low_word-low w ↦ below_more _ _ (c.loop-k.invariant (sym w.found-is ∙ none)) (λ e. w.if-low_word-low.false (search rules))
]
