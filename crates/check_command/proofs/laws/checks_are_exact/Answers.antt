use Rattle.check_command.proofs.Exact.{exact}
use Rattle.check_command.proofs.laws.checks_are_exact.Goals as goal

pub returns : goal.returns
returns c = exact
