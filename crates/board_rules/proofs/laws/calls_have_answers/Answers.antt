use Rattle.board_rules.proofs.Answered.{answers-exist}
use Rattle.board_rules.proofs.OneLog.{logs-are-told}
use Rattle.board_rules.proofs.laws.calls_have_answers.Goals as goal

pub returns-clause-exist : goal.returns-clause-exist
returns-clause-exist g c = answers-exist

pub returns-clause-told : goal.returns-clause-told
returns-clause-told g c = logs-are-told
