use Rattle.run_laws.proofs.Breaks.{marked, counted}
use Rattle.run_laws.proofs.Lates.{late-waited}
use Rattle.run_laws.proofs.Flushes.{flush-ended}
use Rattle.run_laws.proofs.laws.breaks_are_marked.Goals as goal

pub returns-clause-marked : goal.returns-clause-marked
returns-clause-marked c = marked

pub returns-clause-late : goal.returns-clause-late
returns-clause-late c = late-waited

pub returns-clause-flush : goal.returns-clause-flush
returns-clause-flush c = flush-ended

pub returns-clause-counted : goal.returns-clause-counted
returns-clause-counted c = counted
