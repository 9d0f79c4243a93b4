use Rattle.std.proofs.Common.{◌≡◌, ◌++◌, suc, length, ap, ◌∙◌, add-one}
use Rattle.std.specs.List.{range_with_len}
use Rattle.cdf_write.proofs.Pieces.{on_ok}
use Rattle.cdf_write.proofs.VariableList.{sample_variable}
use Rattle.cdf_write.proofs.variables.push_samples_variable.Goals as goal

pub returns-clause-bytes : goal.returns-clause-bytes
returns-clause-bytes c =
    let shape = c.args.shape.now in
    let dims_are : c.first_numbers.result.now ≡ range_with_len 0 (suc (length shape.dims)) =
    c.first_numbers.ensures.numbers ∙ ap (range_with_len 0) (add-one _ ∙ ap (λ n. suc (length n)) c.as_slice-dims.ensures) in
    let size_is = rw c.as_slice-dims.ensures at c.samples_size.ensures.value in
    on_ok c.push_variable.result
    (λ pushed. pushed ∙ ap (λ bytes. c.args.out.now.items ++ bytes) (sample_variable shape _ _ _ c.args.begin dims_are c.samples_type.ensures size_is))
    c.push_variable.ensures.bytes
