use Rattle.chain_plain.specs.ContentLaws.{contents-planned, plans-sound, content-head, content-fires}
use Rattle.chain_plain.proofs.laws.contents_are_as_planned.Goals as goal

pub returns-clause-shapes : goal.returns-clause-shapes
returns-clause-shapes c = contents-planned

pub returns-clause-sound : goal.returns-clause-sound
returns-clause-sound c = plans-sound

pub returns-clause-heads : goal.returns-clause-heads
returns-clause-heads c = content-head

pub returns-clause-triggers : goal.returns-clause-triggers
returns-clause-triggers c = content-fires
