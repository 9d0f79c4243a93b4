use Rattle.cdf_write.proofs.lengths.file_length.Goals as goal

pub returns : goal.returns
returns c = rw c.as_slice.ensures at c.length_with.ensures
