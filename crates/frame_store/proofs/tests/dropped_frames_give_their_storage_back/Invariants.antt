use Rattle.frame_store.specs.WorkedRun.{one_row, no_nodes}
use Rattle.frame_store.proofs.tests.dropped_frames_give_their_storage_back.Given as goal

abbrev pub ghosts-make_and_drop : goal.ghosts-make_and_drop
ghosts-make_and_drop g a = record { stack = one_row a.bytes.now; graph = no_nodes }
