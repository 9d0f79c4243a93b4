use Rattle.cdf_write.proofs.Pieces.{gains, then, alone, on_ok}
use Rattle.cdf_write.proofs.variables.push_fixed.Goals as goal

pub returns-clause-bytes : goal.returns-clause-bytes
returns-clause-bytes c =
    let id = gains _ _ _ c.in_ok-stamp.ensures.bytes in
    let stamp = gains _ _ _ (rw c.in_ok-stamp.ensures.next at c.in_ok-sec.ensures.bytes) in
    let sec = gains _ _ _ (rw (c.in_ok-sec.ensures.next, c.in_ok-stamp.ensures.next) at c.in_ok-nsec.ensures.bytes) in
    let nsec = gains _ _ _ (rw (c.in_ok-nsec.ensures.next, c.in_ok-sec.ensures.next, c.in_ok-stamp.ensures.next) at c.in_ok-samples.ensures.bytes) in
    on_ok c.push_samples_variable.result
    (λ samples. (then id (then stamp (then sec (then nsec (alone (gains _ _ _ samples)))))).is)
    (rw (
      c.in_ok-samples.ensures.next,
      c.in_ok-nsec.ensures.next,
      c.in_ok-sec.ensures.next,
      c.in_ok-stamp.ensures.next,
    ) at c.push_samples_variable.ensures.bytes)
