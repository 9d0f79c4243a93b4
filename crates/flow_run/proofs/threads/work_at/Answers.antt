use Rattle.std.proofs.Common.{sym, ◌∙◌}
use Rattle.board_rules.specs.RunMeasures.{run_setting}
use Rattle.flow_roles.specs.TurnPasses.{known_by, IsPassOf}
use Rattle.flow_run.proofs.Seating.{worked-from}
use Rattle.flow_run.proofs.threads.work_at.Goals as goal

pub returns-then-has_thread : goal.returns-then-has_thread
returns-then-has_thread g c =
    let e = c.work_role-end.ensures in
    record {
      back =
          worked-from (λ p. IsPassOf c.args.desk.now.id p.inner) (λ p. known_by p.inner p.said)
          (run_setting g.R.Run.graph g.R.Run.stack) c.args.seat.now c.in-Ready.role c.in-Ready.node c.in-Ready.pass
          c.work_role-end.result (sym c.replace.ensures.value ∙ c.in-Ready.is) e.ours e.role e.moves e.last e.left e.reclaimed;
    }

pub returns-else-has_thread : goal.returns-else-has_thread
returns-else-has_thread g c =
    let e = c.leave_work-end.ensures in
    record {
      back =
          worked-from (λ p. IsPassOf c.args.desk.now.id p.inner) (λ p. known_by p.inner p.said)
          (run_setting g.R.Run.graph g.R.Run.stack) c.args.seat.now c.in-Ready.role c.in-Ready.node c.in-Ready.pass
          c.leave_work-end.result (sym c.replace.ensures.value ∙ c.in-Ready.is) e.ours e.role e.moves e.last e.left e.reclaimed;
    }
