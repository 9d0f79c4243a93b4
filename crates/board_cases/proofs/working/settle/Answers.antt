use Rattle.std.proofs.Common.{sym, ◌∙◌}
use Rattle.board_rules.specs.declared.answers.Settled.TheVariants.{Done}
use Rattle.board_rules.specs.RunMeasures.{run_setting}
use Rattle.flow_roles.proofs.WorkerCalls.{settle-goes}
use Rattle.board_cases.proofs.WorkerHands.{none-free, none-holds, settle-stays}
use Rattle.board_cases.proofs.working.settle.Goals as goal

pub returns-in-NotYet : goal.returns-in-NotYet
returns-in-NotYet g c =
    record {
      ours_ = c.settle-answer.ensures.ours;
      node = c.requires.working.node;
      holds = settle-stays g.R.Run.graph g.R.Run.stack c.args.role c.args.worker.now.node _ _ _ c.in-NotYet.ensures.called c.requires.working.holds;
    }

pub returns-else-is_some : goal.returns-else-is_some
returns-else-is_some g c =
    let v = c.args.worker.now.node in
    let none = sym c.is_some.ensures ∙ c.if-is_some.false in
    let nothing = none-free g.R.Run.graph g.R.Run.stack c.args.role v _ _ none c.requires.working.holds in
    record {
      ours_ = c.settle-answer.ensures.ours;
      node = c.requires.working.node;
      holds =
          none-holds g.R.Run.graph g.R.Run.stack c.args.role v _ _ none
          (settle-goes (run_setting g.R.Run.graph g.R.Run.stack) c.args.role v Done _ _ nothing c.in-Done.ensures.called);
    }
