use Rattle.std.proofs.Common.{sym, subst, ◌∙◌}
use Rattle.board_cases.specs.Seats.{HoldsJob}
use Rattle.board_cases.proofs.WorkerHands.{none-free, take-stays, take-holds}
use Rattle.board_cases.proofs.working.take.Goals as goal

pub returns-then-is_still : goal.returns-then-is_still
returns-then-is_still g c =
    record {
      ours_ = c.take-answer.ensures.ours;
      node = c.requires.working.node;
      holds =
          take-stays g.R.Run.graph g.R.Run.stack c.args.role c.args.worker.now.node _ _ c.take-answer.result _ (sym c.is_still.ensures ∙ c.if-is_still.true)
          c.take-answer.ensures.called c.requires.working.holds;
    }

pub returns : goal.returns
returns g c =
    let v = c.args.worker.now.node in
    let nothing = none-free g.R.Run.graph g.R.Run.stack c.args.role v _ _ (sym c.is_some.ensures ∙ c.if-is_some.false) c.requires.working.holds in
    record {
      ours_ = c.take-answer.ensures.ours;
      node = c.requires.working.node;
      holds =
          subst (λ o. HoldsJob g.R.Run.graph g.R.Run.stack c.args.role v (g.D.Desk.knows c.take-answer.new.pass) o) (sym c.taken_job.ensures)
          (take-holds g.R.Run.graph g.R.Run.stack c.args.role v _ _ c.take-answer.result c.requires.graph c.requires.working.node nothing
          c.take-answer.ensures.called c.take-answer.ensures.lent);
    }
