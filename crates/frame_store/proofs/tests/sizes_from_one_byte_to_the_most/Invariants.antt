use Rattle.frame_store.specs.WorkedRun.{one_row, no_nodes}
use Rattle.frame_store.proofs.tests.sizes_from_one_byte_to_the_most.Given as goal

abbrev pub ghosts-two_parts_away : goal.ghosts-two_parts_away
ghosts-two_parts_away g a = record { stack = one_row a.bytes.now; graph = no_nodes }
