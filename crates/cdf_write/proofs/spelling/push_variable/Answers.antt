use Rattle.cdf_write.proofs.Pieces.{gains, then}
use Rattle.cdf_write.proofs.spelling.push_variable.Goals as goal

pub returns-clause-bytes : goal.returns-clause-bytes
returns-clause-bytes c =
    let front = then (then (gains _ _ _ c.in_ok-push_name.ensures) (gains _ _ _ c.in_ok-push_word.ensures.bytes)) (gains _ _ _ c.in_ok-push_words.ensures) in
    let kind = then (then front (gains _ _ _ c.in_ok-extend_from_slice.ensures.items)) (gains _ _ _ c.in_ok-push_word-2.ensures.bytes) in
    let size = then kind (gains _ _ _ (rw c.missing.ensures.value at c.in_ok-push_word-3.ensures.bytes)) in
    (then size (gains _ _ _ c.in_ok-push_offset.ensures)).is
