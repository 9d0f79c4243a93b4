use Rattle.board_rules.specs.RunMeasures.{run_setting}
use Rattle.flow_roles.proofs.WorkerCalls.{settle-goes}
use Rattle.flow_roles.proofs.working.settle_or_wait.Goals as goal

pub returns-then-eq-clause-nothing : goal.returns-then-eq-clause-nothing
returns-then-eq-clause-nothing g c =
    settle-goes (run_setting g.R.Run.graph g.R.Run.stack) c.args.role c.args.node c.settle-answer.result _ _ c.requires.nothing c.settle-answer.ensures.called

pub returns-else-eq-clause-nothing : goal.returns-else-eq-clause-nothing
returns-else-eq-clause-nothing g c =
    settle-goes (run_setting g.R.Run.graph g.R.Run.stack) c.args.role c.args.node c.settle-answer.result _ _ c.requires.nothing c.settle-answer.ensures.called
