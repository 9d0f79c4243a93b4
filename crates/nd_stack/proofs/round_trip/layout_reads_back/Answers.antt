use Rattle.nd_stack.specs.RoundTrip as laws
use Rattle.nd_stack.proofs.round_trip.layout_reads_back.Goals as goal

pub returns : goal.returns
returns c = laws.layout_reads_back
