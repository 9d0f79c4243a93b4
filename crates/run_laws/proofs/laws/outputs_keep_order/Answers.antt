use Rattle.run_laws.proofs.Finishes.{saves-are, emits-are, windows-are}
use Rattle.run_laws.proofs.RunHolds.{keeps-order}
use Rattle.run_laws.proofs.laws.outputs_keep_order.Goals as goal

pub returns-clause-files : goal.returns-clause-files
returns-clause-files c = saves-are

pub returns-clause-regions : goal.returns-clause-regions
returns-clause-regions c = emits-are

pub returns-clause-windows : goal.returns-clause-windows
returns-clause-windows c = windows-are

pub returns-clause-run : goal.returns-clause-run
returns-clause-run c = keeps-order
