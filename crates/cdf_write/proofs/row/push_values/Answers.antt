use Rattle.cdf_write.proofs.Pieces.{gains, starts, begins, begins_before, on_err}
use Rattle.cdf_write.proofs.row.push_values.Goals as goal

pub returns-in_err-push_value-clause-front : goal.returns-in_err-push_value-clause-front
returns-in_err-push_value-clause-front c =
    let more = starts c.loop-value.out.items c.push_value.new.out.items c.in_err-push_value.ensures.front in
    on_err c.from_residual.result (begins_before (begins (gains _ _ _ c.loop-value.invariant)) more).is
