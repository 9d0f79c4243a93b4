use Rattle.board_cases.proofs.board.play_board.Given as goal

abbrev pub ghosts-play : goal.ghosts-play
ghosts-play g a = record { stack = a.stack.now; graph = a.plan.now.graph }
