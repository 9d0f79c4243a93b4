use Rattle.journal_check.proofs.check.check_log.Given as goal

abbrev pub ghosts-check_run : goal.ghosts-check_run
ghosts-check_run a = record { stack = a.source.now.stack.now; graph = a.source.now.plan.now.graph }
