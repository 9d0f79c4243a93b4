use Rattle.queue_sort.proofs.InboxRuns.{in_turn-all}
use Rattle.queue_sort.proofs.inboxes.queues_every_run.Goals as goal

pub returns : goal.returns
returns g c = in_turn-all
