use Rattle.flow_journal.proofs.Histories.{history-move, legal-front, history-front, moves-history}
use Rattle.flow_journal.proofs.AsMoves.{moves_of}
use Rattle.flow_journal.proofs.laws.histories_are_moves.Goals as goal

pub returns-clause-grow : goal.returns-clause-grow
returns-clause-grow c = history-move

pub returns-clause-fronts : goal.returns-clause-fronts
returns-clause-fronts c = legal-front

pub returns-clause-cut : goal.returns-clause-cut
returns-clause-cut c = history-front

pub returns-clause-moves : goal.returns-clause-moves
returns-clause-moves c s P = (moves_of s P, moves-history s P)
