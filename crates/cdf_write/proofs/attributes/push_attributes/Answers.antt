use Rattle.std.proofs.Common.{◌++◌, ap, sym, ◌∙◌, refl}
use Rattle.cdf_write.specs.Layout.{fixed_attributes, extra_attribute}
use Rattle.cdf_write.proofs.Pieces.{gains, then, on_ok}
use Rattle.cdf_write.specs.SpellingLaws.{element_list-append}
use Rattle.cdf_write.proofs.attributes.push_attributes.Goals as goal

pub returns : goal.returns
returns c =
    let shape = c.args.shape.now in
    let extras = c.as_slice-extras.ensures in
    let count = gains _ _ _ (rw extras at c.in_ok-push_word-2.ensures.bytes) in
    let front = then (then (gains _ _ _ c.in_ok-push_word.ensures.bytes) count) (gains _ _ _ c.in_ok-push_fixed.ensures) in
    on_ok c.push_extras.result
    (λ pushed. (then front (gains _ _ _ pushed)).is
    ∙ ap (λ bytes. c.args.out.now.items ++ bytes) (sym (element_list-append 12 7 (fixed_attributes shape) extra_attribute shape.extras refl)))
    (rw extras at c.push_extras.ensures)
