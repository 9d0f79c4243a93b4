use Rattle.std.proofs.Common.{length}
use Rattle.board_rules.specs.RunMeasures.{run_setting}
use Rattle.flow_roles.specs.RoleMoves.{worker_logs}
use Rattle.flow_roles.specs.Feeder.{name_of, parts_of}
use Rattle.flow_roles.proofs.Calls.{still-owned}
use Rattle.flow_roles.proofs.RoleCalls.{fresh-active, fresh-owned, fresh-nothing}
use Rattle.flow_roles.proofs.WorkerCalls.{take-owned}
use Rattle.flow_roles.proofs.Reclaims.{comes-back}
use Rattle.flow_roles.proofs.working.work_role.Goals as goal

pub loop-init : goal.loop-init
loop-init g c =
    let fresh = c.requires.fresh in (
      c.take-answer.ensures.ours,
      (
        record {
          before = _;
          nothing = fresh-nothing (worker_logs c.args.node) c.args.role (g.D.Desk.knows c.args.pass) fresh;
          active = fresh-active _ _ fresh;
          called = c.take-answer.ensures.called;
        },
        c.take-answer.ensures.lent,
      ),
      still-owned _ _ _ _ _ c.args.role fresh.role c.take-answer.ensures.called (take-owned c.take-answer.result _) (fresh-owned _ _ fresh),
    )

pub work_round-requires-clause-ours : goal.work_round-requires-clause-ours
work_round-requires-clause-ours g c κs within = c.loop.invariant.0

pub work_round-requires-clause-asked : goal.work_round-requires-clause-asked
work_round-requires-clause-asked g c κs within = c.loop.invariant.1

pub loop-preserved : goal.loop-preserved
loop-preserved g c = (c.work_round.ensures.ours, c.in-Again.ensures.gone, c.work_round.ensures.owned c.loop.invariant.2)

pub returns-in-End-clause-role : goal.returns-in-End-clause-role
returns-in-End-clause-role g c = c.in-End.ensures.gone.role

pub returns-in-End-clause-moves : goal.returns-in-End-clause-moves
returns-in-End-clause-moves g c = c.in-End.ensures.gone.moves

pub returns-in-End-clause-owned : goal.returns-in-End-clause-owned
returns-in-End-clause-owned g c = c.work_round.ensures.owned c.loop.invariant.2

pub returns-in-End-clause-last : goal.returns-in-End-clause-last
returns-in-End-clause-last g c = c.in-End.ensures.gone.last

pub returns-in-End-clause-left : goal.returns-in-End-clause-left
returns-in-End-clause-left g c = c.in-End.ensures.gone.handed

pub returns-in-End-clause-reclaimed : goal.returns-in-End-clause-reclaimed
returns-in-End-clause-reclaimed g c =
    comes-back name_of parts_of length (run_setting g.R.Run.graph g.R.Run.stack) c.args.role
    (g.D.Desk.knows c.work_round.new.pass).made c.in-End.left c.in-End.ensures.gone.handed

pub returns-in-End-clause-wanted : goal.returns-in-End-clause-wanted
returns-in-End-clause-wanted g c = c.in-End.ensures.gone.wanted
