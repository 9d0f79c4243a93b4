use Rattle.board_rules.proofs.Own.{own-tells}
use Rattle.board_rules.proofs.Moves.{moves-tell}
use Rattle.board_rules.proofs.laws.own_entries_tell_hands.Goals as goal

pub returns-clause-own : goal.returns-clause-own
returns-clause-own c = own-tells

pub returns-clause-moves : goal.returns-clause-moves
returns-clause-moves c = moves-tell
