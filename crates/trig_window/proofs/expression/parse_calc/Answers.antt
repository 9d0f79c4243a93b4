use Rattle.trig_window.proofs.Spelling.{found}
use Rattle.trig_window.proofs.Respelling.{only}
use Rattle.trig_window.proofs.Faulted.{fault_of}
use Rattle.trig_window.proofs.expression.parse_calc.Goals as goal

pub returns-clause-found : goal.returns-clause-found
returns-clause-found c = found c.args.text.now c.whole_text.result c.whole_text.ensures

pub returns-clause-only : goal.returns-clause-only
returns-clause-only c = only c.args.text.now c.whole_text.result c.whole_text.ensures

pub returns-clause-fault : goal.returns-clause-fault
returns-clause-fault c = fault_of c.args.text.now c.whole_text.result c.whole_text.ensures
