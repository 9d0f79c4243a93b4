use Rattle.cdf_write.proofs.Pieces.{gains, then, alone, on_ok}
use Rattle.cdf_write.proofs.attributes.push_fixed.Goals as goal

pub returns : goal.returns
returns c =
    let dims = c.as_slice-dims.ensures in
    let kind = gains _ _ _ (rw c.data_type.ensures at c.in_ok-push_int.ensures) in
    let version = gains _ _ _ c.in_ok-push_attribute.ensures in
    let rank = gains _ _ _ (rw dims at c.in_ok-push_int-2.ensures) in
    let sizes = gains _ _ _ (rw dims at c.in_ok-push_dim_part.ensures) in
    let offsets = gains _ _ _ (rw dims at c.in_ok-push_dim_part-2.ensures) in
    let binnings = gains _ _ _ (rw dims at c.in_ok-push_dim_part-3.ensures) in
    on_ok c.push_dim_part-4.result
    (λ reverses. (then kind (then version (then rank (then sizes (then offsets (then binnings (alone (gains _ _ _ reverses)))))))).is)
    (rw dims at c.push_dim_part-4.ensures)
