use Rattle.flow_roles.proofs.Playing.{moves_allow, replies_are_moves}
use Rattle.flow_roles.proofs.plays.operations_are_moves.Goals as goal

pub returns-clause-moves : goal.returns-clause-moves
returns-clause-moves g c = replies_are_moves

pub returns-clause-allowed : goal.returns-clause-allowed
returns-clause-allowed g c = moves_allow
