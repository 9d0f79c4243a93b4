use Rattle.std.proofs.Common.{arith}
use Rattle.std.proofs.Math.Nat.{one-le-mul}
use Rattle.nd_base.specs.SampleLaws.{width-positive}
use Rattle.nd_base.specs.ShapeLaws.{sample_count-positive}
use Rattle.nd_stats.proofs.Pieces.{frame_of}
use Rattle.nd_stats.proofs.chunks.measure_chunks.Goals as goal

pub measure_by-requires-clause-some : goal.measure_by-requires-clause-some
measure_by-requires-clause-some g c κs within =
    let dims = c.args.dims.now in
    let frame = frame_of c.args.rule.now dims c.requires.rule c.requires.dimensions c.requires.few in
    let some = one-le-mul (sample_count-positive dims frame.sizes) (width-positive c.args.kind) in
    omega (arith, some, c.requires.samples)
