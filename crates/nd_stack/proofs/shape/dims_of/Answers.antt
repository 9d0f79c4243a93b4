use Rattle.std.proofs.Common.{◌≡◌, ◌<◌, ◌-◌, ◌++◌, ◌∷◌, [], ℕ, List, length, get_or, map, ap, sym, ◌∙◌, zero-add, arith}
use Rattle.std.specs.List.{range_with_len}
use Rattle.std.proofs.lemmas.List.FromFn.{map-range_with_len_more}
use Rattle.cdf_read.specs.Places.{dim_length}
use Rattle.nd_stack.specs.FrameShape.{dim_of, frame_dim}
use Rattle.nd_stack.proofs.Dimensions.{frame_dim-is}
use Rattle.nd_stack.proofs.shape.dims_of.Goals as goal

pub loop-i-preserved : goal.loop-i-preserved
loop-i-preserved c =
    let h = c.args.header.now in
    let v = c.args.var.now in
    let i = c.loop-i.i in
    let one = frame_dim h v in
    let count : c.saturating_sub-count.result ≡ length v.dims - 1 =
    c.saturating_sub-count.ensures ∙ ap (λ (xs : List ℕ). length xs - 1) c.as_slice-numbers.ensures in
    let within : i < length v.dims - 1 = omega (arith, count, c.loop-i-test.true) in
    let size : c.length_of-size.result ≡ dim_length h.dims (get_or v.dims (length v.dims - 1 - i) 0) =
    c.length_of-size.ensures ∙ ap (λ dims. dim_length dims (get_or c.as_slice-numbers.result.now (c.saturating_sub-count.result - i) 0)) c.as_slice.ensures
    ∙ ap (λ (xs : List ℕ). dim_length h.dims (get_or xs (c.saturating_sub-count.result - i) 0)) c.as_slice-numbers.ensures
    ∙ ap (λ n. dim_length h.dims (get_or v.dims (n - i) 0)) count in
    let dim : c.dim_of.result ≡ one i =
    c.dim_of.ensures ∙ ap (λ n. dim_of h n i c.length_of-size.result) count ∙ ap (λ s. dim_of h (length v.dims - 1) i s) size ∙ frame_dim-is h v i within in
    c.in_ok-push.ensures.items ∙ ap (λ xs. xs ++ c.dim_of.result ∷ []) c.loop-i.invariant
    ∙ ap (λ x. map one (range_with_len 0 i) ++ x ∷ []) dim ∙ sym (map-range_with_len_more one 0 i i (zero-add i))
