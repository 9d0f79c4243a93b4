use Rattle.std.proofs.Common.{ap, ◌∙◌}
use Rattle.cdf_write.specs.Spelling.{padded_length}
use Rattle.cdf_write.specs.LengthLaws.{row_length_is}
use Rattle.cdf_write.proofs.lengths.row_size.Goals as goal

pub returns-clause-value : goal.returns-clause-value
returns-clause-value c =
    let law = row_length_is (record c.args.shape.now { kind = c.args.kind; dims = c.args.dims.now }) in
    let samples = c.padded.ensures ∙ ap padded_length c.samples_size.ensures.value in
    let values = rw c.as_slice.ensures at c.values_size-values.ensures.value in
    cc
