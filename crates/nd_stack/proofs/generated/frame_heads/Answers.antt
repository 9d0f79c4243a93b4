use Rattle.std.proofs.Common.{◌≡◌, ◌++◌, ◌∷◌, [], List, map, ap, sym, ◌∙◌, zero-add}
use Rattle.std.specs.List.{range_with_len}
use Rattle.std.proofs.lemmas.List.FromFn.{map-range_with_len_more}
use Rattle.nd_base.specs.declared.array.Head.{Head}
use Rattle.nd_stack.specs.Generated.{frame_head}
use Rattle.nd_stack.proofs.generated.frame_heads.Goals as goal

pub loop-frame-preserved : goal.loop-frame-preserved
loop-frame-preserved c =
    let n = c.loop-frame.frame in
    let pushed : ◌≡◌ {A = List Head} _ (c.loop-frame.heads.items ++ c.in_ok-frame_head.field-0 ∷ []) = c.in_ok-push.ensures.items in
    pushed ∙ ap (λ (xs : List Head). xs ++ c.in_ok-frame_head.field-0 ∷ []) c.loop-frame.invariant
    ∙ ap (λ (x : Head). map frame_head (range_with_len 0 n) ++ x ∷ []) c.in_ok-frame_head.ensures
    ∙ sym (map-range_with_len_more frame_head 0 n n (zero-add n))
