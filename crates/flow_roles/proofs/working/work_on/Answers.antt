use Rattle.std.proofs.Common.{refl, length, subst, Result}
use Rattle.frame_store.specs.Sealed.{Sealed}
use Rattle.board_rules.specs.declared.answers.NotYours.{NotYours}
use Rattle.board_rules.specs.Working.{PutGives}
use Rattle.board_rules.specs.RunMeasures.{run_setting}
use Rattle.flow_roles.specs.Lasts.{said_given}
use Rattle.flow_roles.specs.Passes.{Called}
use Rattle.flow_roles.specs.RoleMoves.{worker_logs}
use Rattle.flow_roles.specs.RoleEnds.{worker_ends}
use Rattle.flow_roles.specs.Feeder.{name_of, parts_of}
use Rattle.flow_roles.proofs.Calls.{still-active}
use Rattle.flow_roles.proofs.RoleCalls.{worker-quiet, none-few, leave-ends}
use Rattle.flow_roles.proofs.WorkerCalls.{job-may-put, put-goes, put-takes, job-left}
use Rattle.flow_roles.proofs.working.work_on.Goals as goal

pub put_take-put-requires-clause-of_job : goal.put_take-put-requires-clause-of_job
put_take-put-requires-clause-of_job g c =
    job-may-put g.R.Run.graph g.R.Run.stack c.args.role c.args.node c.args.input c.args.blank (g.D.Desk.knows c.args.pass.now)
    (g.D.Desk.knows c.args.pass.now) c.requires.job c.in-Ok.done c.in-Ok.ensures.done

pub unreachable-requires : goal.unreachable-requires
unreachable-requires g c =
    let s = run_setting g.R.Run.graph g.R.Run.stack in
    let both = c.put_take-put.ensures.called in
    put-takes g.R.Run.graph g.R.Run.stack c.args.role c.args.node c.args.input c.args.blank _ _ c.requires.job
    (Unit {0}) c.in-Ok.done c.in_default.field-0 c.in-Ok.ensures.done
    (subst (λ (x : Result (Unit {0}) (NotYours Sealed)). Called s (λ old new. PutGives name_of s old c.args.role c.in-Ok.done x new) (said_given x)
    (g.D.Desk.knows c.args.pass.now) both.middle) c.in_default.is both.first)

pub returns-in-Ok-put-clause-gone : goal.returns-in-Ok-put-clause-gone
returns-in-Ok-put-clause-gone g c =
    let s = run_setting g.R.Run.graph g.R.Run.stack in
    let both = c.put_take-put.ensures.called in
    let one = subst (λ (x : Result (Unit {0}) (NotYours Sealed)). Called s (λ old new. PutGives name_of s old c.args.role c.in-Ok.done x new) (said_given x)
    (g.D.Desk.knows c.args.pass.now) both.middle) c.in-Ok-put.is both.first in (
      record {
        before = both.middle;
        nothing =
            put-goes g.R.Run.graph g.R.Run.stack c.args.role c.args.node c.args.input c.args.blank _ _ c.requires.job c.in-Ok.done c.in-Ok-put.field-0
            c.in-Ok.ensures.done one;
        active = still-active _ _ _ _ _ c.args.role c.requires.job.role one refl refl c.requires.active;
        called = both.second;
      },
      c.put_take-put.ensures.lent,
    )

pub returns-in-Err-clause-gone : goal.returns-in-Err-clause-gone
returns-in-Err-clause-gone g c =
    let s = run_setting g.R.Run.graph g.R.Run.stack in
    let r = c.args.role in
    let v = c.args.node in
    leave-ends name_of parts_of length s (worker_logs v) (worker_ends v) r _ _ c.in-Err.left c.requires.job.role
    (worker-quiet v) refl (λ P h. h) c.requires.job.moves
    (job-left g.R.Run.graph g.R.Run.stack r v c.args.input c.args.blank _ c.in-Err.left c.requires.job c.in-Err.ensures.left)
    (none-few (g.D.Desk.knows c.args.pass.now).said c.requires.active)
    c.leave.ensures.called
