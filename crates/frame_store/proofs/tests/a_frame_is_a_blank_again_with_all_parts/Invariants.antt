use Rattle.frame_store.specs.WorkedRun.{one_row, no_nodes}
use Rattle.frame_store.proofs.tests.a_frame_is_a_blank_again_with_all_parts.Given as goal

abbrev pub ghosts-two_parts_away : goal.ghosts-two_parts_away
ghosts-two_parts_away g a = record { stack = one_row a.bytes.now; graph = no_nodes }
