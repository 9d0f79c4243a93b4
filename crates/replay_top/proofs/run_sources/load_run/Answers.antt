use Rattle.replay_top.proofs.run_sources.load_run.Goals as goal

pub returns-in-Named-clause-err : goal.returns-in-Named-clause-err
returns-in-Named-clause-err g c = rw c.in-Named.is c.load_sources.ensures.err

pub returns-in-Named-clause-unread : goal.returns-in-Named-clause-unread
returns-in-Named-clause-unread g c = rw c.in-Named.is c.load_sources.ensures.unread
