use Rattle.std.proofs.Common.{◌++◌, map, ap, sym, ◌∙◌, arith}
use Rattle.std.proofs.lemmas.List.Sums.{sum_by-append}
use Rattle.cdf_write.specs.Spelling.{padded_length}
use Rattle.cdf_write.specs.Columns.{Column, fixed_columns, attr_column}
use Rattle.cdf_write.specs.Lengths.{row_length}
use Rattle.cdf_write.proofs.Pieces.{gains, then, on_ok}
use Rattle.cdf_write.proofs.VariableList.{variables_spelled}
use Rattle.cdf_write.proofs.variables.push_variables.Goals as goal

pub returns : goal.returns
returns c =
    let tag = gains _ _ _ c.in_ok-push_word.ensures.bytes in
    let count = gains _ _ _ (rw c.as_slice.ensures at c.in_ok-push_word-2.ensures.bytes) in
    let fixed = gains _ _ _ c.in_ok-begin.ensures.bytes in
    on_ok c.push_attrs.result
    (λ attrs. (then (then (then tag count) fixed) (gains _ _ _ attrs)).is
    ∙ ap (λ bytes. c.args.out.now.items ++ bytes) (sym (variables_spelled c.args.shape.now c.args.begin)))
    (rw c.in_ok-begin.ensures.next at c.push_attrs.ensures)

pub push_fixed-requires-clause-end : goal.push_fixed-requires-clause-end
unfolding row_length
push_fixed-requires-clause-end c =
    let shape = c.args.shape.now in
    let parts = sum_by-append (λ (e : Column). padded_length e.size) (fixed_columns shape) (map (attr_column shape) shape.attrs) in
    omega (arith, parts, c.requires.end)

pub push_attrs-requires-clause-end : goal.push_attrs-requires-clause-end
unfolding row_length
push_attrs-requires-clause-end c =
    let shape = c.args.shape.now in
    let parts = sum_by-append (λ (e : Column). padded_length e.size) (fixed_columns shape) (map (attr_column shape) shape.attrs) in
    omega (arith, parts, c.in_ok-begin.ensures.next, c.requires.end)
