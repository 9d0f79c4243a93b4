use Rattle.std.proofs.Common.{◌≡◌, ℕ, ◌+◌, ◌*◌, ◌/◌, ◌<◌, ◌||◌, length, drop, arith, ap, sym, subst, ◌∙◌, ◌+ℤ◌, w64}
use Rattle.std.proofs.lemmas.Int.{to_z-of_z}
use Rattle.nd_base.specs.Samples.{width, numbers}
use Rattle.nd_base.specs.SampleLaws.{length-numbers}
use Rattle.nd_base.specs.Places.{index_in, size_in}
use Rattle.nd_stats.specs.Samples.{placed, sum_of, is_near_end, is_at_border}
use Rattle.nd_stats.specs.Measured.{is_on_border}
use Rattle.nd_stats.specs.Running.{IsEdge}
use Rattle.nd_stats.proofs.Edges.{border_along, edge_in, edge_out, part_rooms}
use Rattle.nd_stats.proofs.Joins.{fits_room, fits_rooms, room_sum}
use Rattle.nd_stats.proofs.Sums.{count-le}
use Rattle.nd_stats.proofs.Pieces.{length-piece}
use Rattle.nd_stats.proofs.Parts.{parts-more}
use Rattle.nd_stats.proofs.Totals.{none_on_border}
use Rattle.nd_stats.proofs.border.edge_each.Goals as goal
use Rattle.nd_stats.proofs.border.edge_each.Goals.{then-run, else-run}

pub returns-then-rule-eq0 : goal.returns-then-rule-eq0
returns-then-rule-eq0 c =
    let kind = c.args.kind in
    let none = none_on_border c.args.rule.now c.args.dims.now
    (placed c.args.from (numbers kind (length c.args.samples.now / width kind) c.args.samples.now)) c.requires.frame c.if-rule-eq0.true in
    record { count = sym (ap length none); sum = sym (ap (sum_of (λ t. t.value)) none) }

pub overflow_add-edge : goal.overflow_add-edge
overflow_add-edge c =
    let kind = c.args.kind in
    let xs = placed c.args.from (numbers kind c.loop-done.done c.args.samples.now) in
    let some = count-le (is_on_border c.args.rule.now c.args.dims.now) xs in
    let long = length-piece kind c.args.from c.loop-done.done c.args.samples.now in
    let count : length c.args.samples.now / c.width.result ≡ length c.args.samples.now / width kind = ap (λ w. length c.args.samples.now / w) c.width.ensures in
    record { fits = omega (arith, some, long, count, c.loop-done.invariant.edge.count, c.min-size.ensures, c.requires.within, c.requires.frame.few) }

pub overflow_add-edge-then-run : goal.overflow_add-edge-then-run
overflow_add-edge-then-run c =
    let kind = c.args.kind in
    let bytes = c.args.samples.now in
    let k = c.loop-done.done in
    let m = c.min-size.result in
    let count : length bytes / c.width.result ≡ length bytes / width kind = ap (λ w. length bytes / w) c.width.ensures in
    let rooms = part_rooms (is_on_border c.args.rule.now c.args.dims.now) kind c.args.from k m bytes c.loop-done.edge.sum c.sum_run.result c.type_inv.samples
    (omega (arith, count, c.min-size.ensures, c.requires.within, c.requires.frame.few)) c.loop-done.invariant.edge.sum (c.sum_run.ensures) in
    rw (
      to_z-of_z w64 c.loop-done.edge.sum (fits_room c.loop-done.edge.sum rooms.0),
      to_z-of_z w64 c.sum_run.result (fits_room c.sum_run.result rooms.1),
    ) (fits_rooms c.loop-done.edge.sum c.sum_run.result rooms.0 rooms.1)

pub later_spot-spot-requires-clause-more : goal.later_spot-spot-requires-clause-more
later_spot-spot-requires-clause-more c =
    let count : length c.args.samples.now / c.width.result ≡ length c.args.samples.now / width c.args.kind =
    ap (λ w. length c.args.samples.now / w) c.width.ensures in
    omega (arith, count, c.min-size.ensures, c.requires.within, c.requires.frame.few)

pub later_spot-spot-requires-clause-line : goal.later_spot-spot-requires-clause-line
later_spot-spot-requires-clause-line c =
    omega (arith, c.min-size.ensures, c.run_at-run.ensures.within, c.plane_of-plane.ensures.width)

pub loop-done-preserved : goal.loop-done-preserved
loop-done-preserved c =
    let rule = c.args.rule.now in
    let dims = c.args.dims.now in
    let kind = c.args.kind in
    let bytes = c.args.samples.now in
    let k = c.loop-done.done in
    let m = c.min-size.result in
    let p = c.args.from + k in
    let spot = c.loop-done.spot in
    let vs = numbers kind m (drop (k * width kind) bytes) in
    let xs = placed c.args.from (numbers kind k bytes) in
    let long = length-numbers kind m (drop (k * width kind) bytes) in
    let is = c.loop-done.invariant.spot in
    let count : length bytes / c.width.result ≡ length bytes / width kind = ap (λ w. length bytes / w) c.width.ensures in
    let same : (j : ℕ) → j < length vs → is_at_border rule.border dims (p + j) ≡ c.run_at-run.result.at_border =
    λ j h.
    border_along rule.border dims p spot.x j spot.line_at_border c.requires.frame.some (sym (is.x ∙ ap (index_in dims 0) c.loop-done.invariant.place))
    (is.line ∙ ap (λ q. is_at_border rule.border (drop 1 dims) (q / size_in dims 0)) c.loop-done.invariant.place)
    (omega (arith, long, c.min-size.ensures, c.run_at-run.ensures.within, c.plane_of-plane.ensures.width))
    ∙ ap (λ w. is_near_end rule.border w (spot.x + j) || spot.line_at_border) (sym c.plane_of-plane.ensures.width)
    ∙ c.run_at-run.ensures.same j (omega (arith, long, c.min-size.ensures)) in
    record {
      done = omega (arith, count, c.min-size.ensures, c.loop-done-test.true);
      place = omega (arith, c.later_spot-spot.ensures.place, c.loop-done.invariant.place);
      spot = c.later_spot-spot.ensures.spot;
      edge = subst (λ ys. IsEdge rule dims ys c.if-run.edge) (sym (parts-more kind c.args.from k m bytes))
          (elim c.if-run.branch [
            | then-run w ↦
                let e = w.sum_run.ensures in
                let rooms = part_rooms (is_on_border rule dims) kind c.args.from k m bytes c.loop-done.edge.sum w.sum_run.result c.type_inv.samples
                (omega (arith, count, c.min-size.ensures, c.requires.within, c.requires.frame.few)) c.loop-done.invariant.edge.sum e in
                edge_in rule dims xs p vs c.loop-done.edge c.if-run.edge c.loop-done.invariant.edge (λ j h. same j h ∙ w.if-run.true)
                (ap (λ e. e.count) w.edge-is ∙ ap (λ n. c.loop-done.edge.count + n) (sym long))
                (ap (λ e. e.sum) w.edge-is ∙ room_sum c.loop-done.edge.sum w.sum_run.result rooms.0 rooms.1 ∙ ap (λ z. c.loop-done.edge.sum +ℤ z) e)
            | else-run w ↦ edge_out rule dims xs p vs c.loop-done.edge c.if-run.edge c.loop-done.invariant.edge (λ j h. same j h
                ∙ w.if-run.false) (ap (λ e. e.count) w.edge-is) (ap (λ e. e.sum) w.edge-is)
          ]);
    }
