use Rattle.flow_journal.proofs.Counts.{queued-counts}
use Rattle.flow_journal.proofs.laws.queues_count.Goals as goal

pub returns : goal.returns
returns c = queued-counts
