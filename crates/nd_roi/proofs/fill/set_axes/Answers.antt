use Rattle.std.proofs.Common.{rules, ◌*◌, ◌≤◌, drop, arith, pos, false}
use Rattle.nd_base.specs.Shapes.{sample_count, most_samples}
use Rattle.nd_roi.proofs.Lines.{stride_most}
use Rattle.nd_roi.proofs.fill.set_axes.Goals as goal

pub overflow_mul-stride : goal.overflow_mul-stride
overflow_mul-stride c =
    let few : c.loop-k.stride * sample_count (drop c.loop-k.k c.args.dims.now) ≤ most_samples = omega (arith, c.loop-k.invariant.left) in
    let h = stride_most c.args.dims.now c.loop-k.k c.loop-k.stride most_samples
    (record { size = 0; offset = pos 0; binning = pos 0; reverse = false }) c.requires.sizes (omega arith) few in
    search (rules, h)
