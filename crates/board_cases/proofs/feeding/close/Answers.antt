use Rattle.std.proofs.Common.{sym, ◌∙◌}
use Rattle.board_rules.specs.RunMeasures.{run_setting}
use Rattle.flow_roles.proofs.FeederCalls.{close-ends}
use Rattle.board_cases.proofs.FeederHands.{none-free, none-holds, close-stays}
use Rattle.board_cases.proofs.feeding.close.Goals as goal

pub returns-in-NotYet : goal.returns-in-NotYet
returns-in-NotYet g c =
    record {
      ours_ = c.close-answer.ensures.ours;
      holds = close-stays g.R.Run.graph g.R.Run.stack 0 _ _ _ c.in-NotYet.ensures.called c.requires.holds;
    }

pub returns-else-is_some : goal.returns-else-is_some
returns-else-is_some g c =
    let none = sym c.is_some.ensures ∙ c.if-is_some.false in
    let nothing = none-free g.R.Run.graph g.R.Run.stack _ _ none c.requires.holds in
    record {
      ours_ = c.close-answer.ensures.ours;
      holds = none-holds g.R.Run.graph g.R.Run.stack _ _ none (close-ends (run_setting g.R.Run.graph g.R.Run.stack) _ _ nothing c.in-Done.ensures.called).0;
    }
