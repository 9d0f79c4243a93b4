use Rattle.board_rules.specs.States.{past}
use Rattle.board_cases.proofs.Measures.{measures-many}
use Rattle.board_cases.proofs.board.finish.Goals as goal

pub print_measures-requires-clause-measures : goal.print_measures-requires-clause-measures
print_measures-requires-clause-measures g c =
    measures-many g.R.Run.graph g.R.Run.stack c.args.plan.now
    (past (g.B.BoardCalls.shown c.match-ending.board)) c.into_parts-log.result.1 c.requires.plan c.into_parts-log.ensures.measures
