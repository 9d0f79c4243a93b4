use Rattle.flow_roles.proofs.FeederTicks.{loads-are-ticks}
use Rattle.flow_roles.proofs.feeding.loads_are_ticks.Goals as goal

pub returns : goal.returns
returns c = loads-are-ticks
