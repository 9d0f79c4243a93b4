use Rattle.std.proofs.Common.{sym, subst, ◌∙◌}
use Rattle.board_cases.specs.Seats.{HoldsFrame}
use Rattle.board_cases.proofs.FeederHands.{none-free, load-stays, load-holds}
use Rattle.board_cases.proofs.feeding.load.Goals as goal

pub returns-then-is_still : goal.returns-then-is_still
returns-then-is_still g c =
    record {
      ours_ = c.load-answer.ensures.ours;
      holds =
          load-stays g.R.Run.graph g.R.Run.stack c.args.tick _ _ c.load-answer.result _
          (sym c.is_still.ensures ∙ c.if-is_still.true) c.load-answer.ensures.called c.requires.holds;
    }

pub returns : goal.returns
returns g c =
    let nothing = none-free g.R.Run.graph g.R.Run.stack _ _ (sym c.is_some.ensures ∙ c.if-is_some.false) c.requires.holds in
    record {
      ours_ = c.load-answer.ensures.ours;
      holds =
          subst (λ o. HoldsFrame g.R.Run.graph g.R.Run.stack (g.D.Desk.knows c.load-answer.new.pass) o) (sym c.loaded_frame.ensures)
          (load-holds g.R.Run.graph g.R.Run.stack c.args.tick _ _ c.load-answer.result nothing c.load-answer.ensures.called c.load-answer.ensures.room);
    }
