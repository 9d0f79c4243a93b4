use Rattle.board_rules.proofs.Only.{moved-only}
use Rattle.board_rules.proofs.Moves.{moved-one, moves-added}
use Rattle.board_rules.proofs.Callers.{calls-add}
use Rattle.board_rules.proofs.laws.calls_add_moves.Goals as goal

pub returns-clause-only : goal.returns-clause-only
returns-clause-only g c = moved-only

pub returns-clause-one : goal.returns-clause-one
returns-clause-one g c = moved-one

pub returns-clause-calls : goal.returns-clause-calls
returns-clause-calls g c = calls-add

pub returns-clause-added : goal.returns-clause-added
returns-clause-added g c = moves-added
