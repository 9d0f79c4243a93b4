use Rattle.trig_window.proofs.Faulted.{one_of_both, not_both, one_expression, one_fault}
use Rattle.trig_window.proofs.expression.expression_or_fault.Goals as goal

pub returns : goal.returns
returns c = record { one_of_both = one_of_both; not_both = not_both; one_expression = one_expression; one_fault = one_fault }
