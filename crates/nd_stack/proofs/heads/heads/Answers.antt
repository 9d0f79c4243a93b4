use Rattle.std.proofs.Common.{◌++◌, ◌∷◌, [], map, ap, sym, ◌∙◌, zero-add}
use Rattle.std.specs.List.{range_with_len}
use Rattle.std.proofs.lemmas.List.FromFn.{map-range_with_len_more}
use Rattle.nd_stack.specs.StackRules.{head_for}
use Rattle.nd_stack.proofs.heads.heads.Goals as goal

pub head_for-requires-clause-attrs : goal.head_for-requires-clause-attrs
head_for-requires-clause-attrs c = c.requires.attrs c.loop-frame.frame c.loop-frame-test.true

pub loop-frame-preserved : goal.loop-frame-preserved
loop-frame-preserved c =
    let one = head_for c.args.bytes.now c.args.times.now c.args.attrs.now in
    let n = c.loop-frame.frame in
    c.in_ok-push.ensures.items ∙ ap (λ xs. xs ++ c.in_ok-head_for.field-0 ∷ []) c.loop-frame.invariant
    ∙ ap (λ x. map one (range_with_len 0 n) ++ x ∷ []) c.in_ok-head_for.ensures ∙ sym (map-range_with_len_more one 0 n n (zero-add n))
