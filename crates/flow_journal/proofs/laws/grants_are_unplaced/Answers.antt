use Rattle.std.proofs.Common.{refl}
use Rattle.flow_journal.proofs.Places.{places-known, load-unplaced, take-unplaced, runs-load, runs-take}
use Rattle.flow_journal.specs.RunSetting.{setting_of}
use Rattle.flow_journal.proofs.laws.grants_are_unplaced.Goals as goal

pub returns-clause-known : goal.returns-clause-known
returns-clause-known c = places-known

pub returns-clause-loads : goal.returns-clause-loads
returns-clause-loads c = load-unplaced

pub returns-clause-takes : goal.returns-clause-takes
returns-clause-takes c = take-unplaced

pub returns-clause-run_loads : goal.returns-clause-run_loads
returns-clause-run_loads c = runs-load

pub returns-clause-run_takes : goal.returns-clause-run_takes
returns-clause-run_takes c = runs-take

pub returns-clause-run_known : goal.returns-clause-run_known
returns-clause-run_known c graph makers arrays P h = places-known (setting_of graph makers arrays) P refl h
