use Rattle.run_laws.proofs.Causes.{full-cause, pool-cause, load-cause}
use Rattle.run_laws.proofs.SortDrops.{drop-forced}
use Rattle.run_laws.proofs.laws.drops_have_causes.Goals as goal

pub returns-clause-full_queue : goal.returns-clause-full_queue
returns-clause-full_queue c = full-cause

pub returns-clause-refused_pool : goal.returns-clause-refused_pool
returns-clause-refused_pool c = pool-cause

pub returns-clause-full_list : goal.returns-clause-full_list
returns-clause-full_list c = drop-forced

pub returns-clause-refused_frame : goal.returns-clause-refused_frame
returns-clause-refused_frame c = load-cause
