use Rattle.std.proofs.Common.{◌≡◌, ◌++◌, ap, ◌∙◌}
use Rattle.cdf_write.specs.Layout.{header, header_from, header_length}
use Rattle.cdf_write.proofs.Pieces.{gains, then}
use Rattle.cdf_write.proofs.header.header_bytes.Goals as goal

pub returns-clause-bytes : goal.returns-clause-bytes
unfolding header
returns-clause-bytes c =
    let shape = c.args.shape.now in
    let begin : c.header_size-begin.result ≡ header_length shape = rw c.as_slice.ensures at c.header_size-begin.ensures.value in
    let magic = gains _ _ _ (rw c.version_of.ensures at c.in_ok-extend_from_slice.ensures.items) in
    let count = then magic (gains _ _ _ c.in_ok-push_record_count.ensures) in
    let dims = then count (gains _ _ _ c.in_ok-push_dimensions.ensures) in
    let attrs = then dims (gains _ _ _ c.in_ok-push_attributes.ensures) in
    let all = then attrs (gains _ _ _ (rw begin at c.in_ok-push_variables.ensures)) in
    let whole : c.push_variables.new.out.items ≡ c.in_ok-out.out.items ++ header_from shape c.args.numrecs (header_length shape) = all.is in
    whole ∙ ap (λ bytes. bytes ++ header_from shape c.args.numrecs (header_length shape)) c.in_ok-out.ensures.items
