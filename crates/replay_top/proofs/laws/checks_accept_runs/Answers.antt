use Rattle.replay_top.proofs.CheckedRuns.{checks_accept}
use Rattle.replay_top.proofs.laws.checks_accept_runs.Goals as goal

pub returns : goal.returns
returns c = checks_accept c.history_is_compared.ensures.compared c.checks_are_exact.ensures
