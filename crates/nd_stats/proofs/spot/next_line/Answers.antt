use Rattle.std.proofs.Common.{◌≡◌, ◌+◌, ◌<◌, ◌||◌, ap, sym, ◌∙◌, arith}
use Rattle.nd_base.specs.Places.{index_in, size_in}
use Rattle.nd_stats.specs.Samples.{is_near_end}
use Rattle.nd_stats.proofs.Places.{line_x, line_y, line_row, line_plane}
use Rattle.nd_stats.proofs.spot.next_line.Goals as goal

pub returns-clause-spot : goal.returns-clause-spot
returns-clause-spot c =
    let border = c.args.border in
    let dims = c.args.dims.now in
    let p = c.args.spot.place in
    let m = c.args.more in
    let before = c.requires.spot in
    let sizes = c.requires.sizes in
    let end : index_in dims 0 p + m ≡ size_in dims 0 = ap (λ x. x + m) (sym before.x) ∙ c.requires.end in
    let within : index_in dims 1 p + 1 < size_in dims 1 = omega (arith, before.y, c.requires.plane.height) in
    record {
      x = sym (line_x dims p m sizes end);
      y = ap (λ y. y + 1) before.y ∙ sym (line_y dims p m sizes end within);
      line = c.is_line_at_border.ensures ∙ ap (λ h. is_near_end border h (c.args.spot.y + 1) || c.args.spot.plane_at_border) c.requires.plane.height
          ∙ ap (λ y. is_near_end border (size_in dims 1) (y + 1) || c.args.spot.plane_at_border) before.y
          ∙ sym (line_row border dims p m c.args.spot.plane_at_border sizes end within before.plane);
      plane = before.plane ∙ sym (line_plane border dims p m sizes end within);
    }
