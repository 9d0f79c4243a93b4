use Rattle.std.proofs.Common.{◌++◌, ap, sym, ◌∙◌}
use Rattle.cdf_write.proofs.Pieces.{gains, then, on_ok}
use Rattle.cdf_write.proofs.DimensionList.{dimensions_spelled}
use Rattle.cdf_write.proofs.header.push_dimensions.Goals as goal

pub returns : goal.returns
returns c =
    let dims = c.as_slice-dims.ensures in
    let tag = gains _ _ _ c.in_ok-push_word.ensures.bytes in
    let count = gains _ _ _ (rw dims at c.in_ok-push_word-2.ensures.bytes) in
    let records = gains _ _ _ c.in_ok-push_dimension.ensures in
    let sizes = gains _ _ _ (rw dims at c.in_ok-push_sizes.ensures) in
    on_ok c.push_dimension-2.result
    (λ texts. (then (then (then (then tag count) records) sizes) (gains _ _ _ texts)).is
    ∙ ap (λ bytes. c.args.out.now.items ++ bytes) (sym (dimensions_spelled c.args.shape.now)))
    c.push_dimension-2.ensures
