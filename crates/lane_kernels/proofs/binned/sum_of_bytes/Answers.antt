use Rattle.std.proofs.Common.{arith}
use Rattle.lane_kernels.proofs.Twos.{two_in_pair}
use Rattle.lane_kernels.proofs.binned.sum_of_bytes.Goals as goal

pub returns : goal.returns
returns c = two_in_pair c.args.samples.now 0 c.type_inv.samples c.pair_at-pair.result c.pair_at-pair.ensures (omega arith)
