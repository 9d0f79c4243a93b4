use Rattle.flow_journal.proofs.Once.{accepts_once-law, emits_once-law}
use Rattle.flow_journal.proofs.laws.arrays_come_once.Goals as goal

pub returns-clause-accepted : goal.returns-clause-accepted
returns-clause-accepted c = accepts_once-law

pub returns-clause-emitted : goal.returns-clause-emitted
returns-clause-emitted c = emits_once-law
