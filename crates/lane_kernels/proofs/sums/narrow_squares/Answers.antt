use Rattle.std.proofs.Common.{arith}
use Rattle.lane_kernels.proofs.Samples.{squares-more}
use Rattle.lane_kernels.proofs.Squares.{narrow_squared}
use Rattle.lane_kernels.proofs.sums.narrow_squares.Goals as goal

pub loop-k-preserved : goal.loop-k-preserved
loop-k-preserved c =
    let more = squares-more c.args.kind c.loop-k.k c.args.samples.now in
    let small = narrow_squared c.args.kind c.args.samples.now c.loop-k.k c.type_inv.samples c.requires.narrow in
    record {
      sum = omega (arith, more, c.loop-k.invariant.sum, c.sample_square-sum.ensures);
      bound = omega (arith, small, c.loop-k.invariant.bound, c.sample_square-sum.ensures);
    }
