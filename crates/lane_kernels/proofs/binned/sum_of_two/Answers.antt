use Rattle.std.proofs.Common.{arith}
use Rattle.lane_kernels.proofs.Twos.{two_in_word}
use Rattle.lane_kernels.proofs.binned.sum_of_two.Goals as goal

pub returns : goal.returns
returns c = two_in_word c.args.input.now c.args.place c.type_inv.input c.word_at-word.result c.word_at-word.ensures (omega arith)
