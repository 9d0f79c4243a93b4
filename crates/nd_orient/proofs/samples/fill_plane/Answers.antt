use Rattle.std.proofs.Common.{◌<◌, arith}
use Rattle.nd_orient.proofs.Lines.{filled_there}
use Rattle.nd_orient.proofs.samples.fill_plane.Goals as goal

pub returns : goal.returns
returns c = λ x y h g.
    let below : y < c.loop-top.top = omega (arith, g, c.line_count-lines.ensures, c.loop-top-test.false) in
    filled_there c.args.width c.args.plane c.args.input.now _ x y h (c.loop-top.invariant.plane x y h below)
