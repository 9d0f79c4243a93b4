use Rattle.flow_journal.proofs.Hands.{one-hand, one-loaded, takes-this, stood, stands-all}
use Rattle.flow_journal.proofs.Pieces.{one-piece}
use Rattle.flow_journal.proofs.Settled.{settled-idle}
use Rattle.flow_journal.proofs.laws.hands_are_few.Goals as goal

pub returns-clause-roles : goal.returns-clause-roles
returns-clause-roles c = one-hand

pub returns-clause-loaded : goal.returns-clause-loaded
returns-clause-loaded c = one-loaded

pub returns-clause-pieces : goal.returns-clause-pieces
returns-clause-pieces c = one-piece

pub returns-clause-settled : goal.returns-clause-settled
returns-clause-settled c = settled-idle

pub returns-clause-last : goal.returns-clause-last
returns-clause-last c = takes-this

pub returns-clause-reclaims : goal.returns-clause-reclaims
returns-clause-reclaims c = record { held = stood; free = stands-all }
