use Rattle.std.proofs.Common.{◌+◌, ◌<◌, sym, ◌∙◌, arith}
use Rattle.nd_base.specs.Places.{size_in}
use Rattle.nd_stats.proofs.Places.{plane_along}
use Rattle.nd_stats.proofs.Edges.{x_along, y_along, row_along}
use Rattle.nd_stats.proofs.spot.later_spot.Goals as goal

pub returns-clause-spot : goal.returns-clause-spot
returns-clause-spot c =
    let border = c.args.border in
    let dims = c.args.dims.now in
    let p = c.args.spot.place in
    let x = c.args.spot.x in
    let y = c.args.spot.y in
    let j = c.args.more in
    let before = c.requires.spot in
    let within : x + j < size_in dims 0 = omega (arith, c.requires.plane.width) in
    record {
      x = sym (x_along dims p x j (sym before.x) within);
      y = sym (y_along dims p x y j (sym before.x) (sym before.y) within);
      plane = before.plane ∙ sym (plane_along border dims p j (omega (arith, within, before.x)));
      line = before.line ∙ sym (row_along border dims p x j (sym before.x) within);
    }
