use Rattle.std.proofs.Common.{sym, ◌∙◌}
use Rattle.board_rules.specs.States.{past}
use Rattle.board_rules.specs.RunMeasures.{run_setting}
use Rattle.journal_check.proofs.Refusals.{granted-answer}
use Rattle.journal_check.proofs.takes.try_take_block.Goals as goal

pub take_block-requires-clause-granted : goal.take_block-requires-clause-granted
take_block-requires-clause-granted g c =
    granted-answer (run_setting g.R.Run.graph g.R.Run.stack) c.args.act.node c.args.grant.block c.args.grant.size c.args.grant.fresh c.args.grant.given_up
    c.args.regrown (past c.may_take.new.course.told) (sym c.grants.ensures ∙ c.if-not-grants.false)
