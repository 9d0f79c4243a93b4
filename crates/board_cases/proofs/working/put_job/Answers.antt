use Rattle.flow_roles.proofs.WorkerCalls.{put-goes}
use Rattle.board_cases.proofs.working.put_job.Goals as goal

pub returns-clause-put : goal.returns-clause-put
returns-clause-put g c =
    put-goes g.R.Run.graph g.R.Run.stack c.args.role c.args.node c.args.input c.args.blank _ _ c.requires.job c.in-Ok.done c.in-Ok-put.field-0
    c.in-Ok.ensures.done c.in-Ok-put.ensures.called
