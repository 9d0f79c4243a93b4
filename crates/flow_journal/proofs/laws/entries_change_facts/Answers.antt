use Rattle.flow_journal.proofs.Changes.{queue_laws, hand_laws, offer_laws, put_laws, ring_laws, save_laws, job_laws, clock_laws, break_laws, role_laws}
use Rattle.flow_journal.proofs.Indices.{index_laws}
use Rattle.flow_journal.proofs.laws.entries_change_facts.Goals as goal

pub returns-clause-queues : goal.returns-clause-queues
returns-clause-queues c = queue_laws

pub returns-clause-hands : goal.returns-clause-hands
returns-clause-hands c = hand_laws

pub returns-clause-offers : goal.returns-clause-offers
returns-clause-offers c = offer_laws

pub returns-clause-indices : goal.returns-clause-indices
returns-clause-indices c = index_laws

pub returns-clause-puts : goal.returns-clause-puts
returns-clause-puts c = put_laws

pub returns-clause-rings : goal.returns-clause-rings
returns-clause-rings c = ring_laws

pub returns-clause-saves : goal.returns-clause-saves
returns-clause-saves c = save_laws

pub returns-clause-jobs : goal.returns-clause-jobs
returns-clause-jobs c = job_laws

pub returns-clause-clocks : goal.returns-clause-clocks
returns-clause-clocks c = clock_laws

pub returns-clause-breaks : goal.returns-clause-breaks
returns-clause-breaks c = break_laws

pub returns-clause-roles : goal.returns-clause-roles
returns-clause-roles c = role_laws
