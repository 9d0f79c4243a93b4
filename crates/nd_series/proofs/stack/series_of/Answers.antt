use Rattle.std.proofs.Common.{◌∙◌, ap, arith}
use Rattle.nd_series.specs.Kept.{with_row}
use Rattle.nd_series.proofs.RowsUpto.{frame_more}
use Rattle.nd_series.proofs.stack.series_of.Goals as goal

pub loop-k-preserved : goal.loop-k-preserved
loop-k-preserved c =
    c.push.ensures.kept ∙ ap (λ s. with_row s c.in_ok-stack_row.field-0) c.loop-k.invariant
    ∙ frame_more c.args.most c.args.regions.now c.args.stack.now.arrays c.loop-k.k _ (omega arith) c.in_ok-stack_row.ensures
