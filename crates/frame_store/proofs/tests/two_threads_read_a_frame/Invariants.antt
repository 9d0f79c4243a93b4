use Rattle.frame_store.specs.WorkedRun.{one_row, no_nodes}
use Rattle.frame_store.proofs.tests.two_threads_read_a_frame.Given as goal

abbrev pub ghosts-read_in_threads : goal.ghosts-read_in_threads
ghosts-read_in_threads g a = record { stack = one_row a.bytes.now; graph = no_nodes }
