use Rattle.replay_top.proofs.histories.run_plan.Given as goal

abbrev pub ghosts-play : goal.ghosts-play
ghosts-play g a = record { stack = a.stack.now; graph = a.plan.now.graph }
