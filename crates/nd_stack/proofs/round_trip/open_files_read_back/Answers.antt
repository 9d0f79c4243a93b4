use Rattle.nd_stack.specs.OpenReads.{open_front_reads_back}
use Rattle.nd_stack.proofs.round_trip.open_files_read_back.Goals as goal

pub returns : goal.returns
returns c = open_front_reads_back
