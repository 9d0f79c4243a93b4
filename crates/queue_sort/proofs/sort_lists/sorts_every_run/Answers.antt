use Rattle.queue_sort.proofs.Runs.{sorts}
use Rattle.queue_sort.proofs.sort_lists.sorts_every_run.Goals as goal

pub returns : goal.returns
returns g c = sorts
