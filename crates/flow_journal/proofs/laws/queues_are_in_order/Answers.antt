use Rattle.flow_journal.proofs.InQueues.{queues_in_order}
use Rattle.flow_journal.proofs.laws.queues_are_in_order.Goals as goal

pub returns : goal.returns
returns c = queues_in_order
