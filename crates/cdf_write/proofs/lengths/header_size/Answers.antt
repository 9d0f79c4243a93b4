use Rattle.cdf_write.specs.LengthLaws.{header_length_is}
use Rattle.cdf_write.proofs.lengths.header_size.Goals as goal

pub returns-clause-value : goal.returns-clause-value
returns-clause-value c =
    let law = header_length_is (record c.args.shape.now { form = c.args.form; dims = c.args.dims.now }) in
    let attrs = rw c.as_slice.ensures at c.attrs_header_size-attrs.ensures.value in
    let extras = rw c.as_slice-2.ensures at c.extras_header_size-extras.ensures.value in
    cc
