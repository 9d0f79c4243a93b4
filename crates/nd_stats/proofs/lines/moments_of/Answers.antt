use Rattle.std.proofs.Common.{rules, ◌≡◌, ◌+◌, ◌*◌, ◌/◌, length, drop, arith, ap, sym, subst, w64, FitsSigned}
use Rattle.std.proofs.lemmas.Int.{to_z-of_z}
use Rattle.nd_base.specs.Samples.{width, numbers}
use Rattle.nd_base.specs.SampleLaws.{length-numbers}
use Rattle.nd_stats.specs.Samples.{placed}
use Rattle.nd_stats.specs.Over.{IsOver}
use Rattle.nd_stats.specs.Running.{AreMoments, HaveMomentRooms}
use Rattle.nd_stats.proofs.Parts.{parts-more, parts_small}
use Rattle.nd_stats.proofs.Pieces.{length-piece}
use Rattle.nd_stats.proofs.Places.{index_below, spot_x, spot_y}
use Rattle.nd_stats.proofs.Rooms.{index_most}
use Rattle.nd_stats.proofs.MomentLines.{moments_line, moment_rooms}
use Rattle.nd_stats.proofs.lines.moments_of.Goals as goal

pub on_line-size-requires-clause-x : goal.on_line-size-requires-clause-x
on_line-size-requires-clause-x c =
    omega (arith, index_below c.args.dims.now 0 c.loop-done.spot.place c.requires.frame.sizes, c.loop-done.invariant.spot.x, c.plane_of-plane.ensures.width)

pub add_line-requires-clause-x : goal.add_line-requires-clause-x
add_line-requires-clause-x c =
    omega (arith, index_most c.args.dims.now 0 c.loop-done.spot.place c.requires.frame.sizes c.requires.frame.few, c.loop-done.invariant.spot.x)

pub add_line-requires-clause-y : goal.add_line-requires-clause-y
add_line-requires-clause-y c =
    omega (arith, index_most c.args.dims.now 1 c.loop-done.spot.place c.requires.frame.sizes c.requires.frame.few, c.loop-done.invariant.spot.y)

pub add_line-requires-clause-over : goal.add_line-requires-clause-over
add_line-requires-clause-over c =
    let rooms : HaveMomentRooms c.loop-done.moments =
    moment_rooms c.args.rule.now c.args.dims.now
    (placed c.args.from (numbers c.args.kind c.loop-done.done c.args.samples.now)) c.loop-done.moments c.requires.frame c.loop-done.invariant.moments
    (parts_small c.args.kind c.args.from c.loop-done.done c.args.samples.now c.type_inv.samples) (let n =
    length-piece c.args.kind c.args.from c.loop-done.done c.args.samples.now in
    omega (arith, n, c.requires.frame.few, c.requires.within, c.loop-done.invariant.done)) in
    rooms.over

pub add_line-requires-clause-m0 : goal.add_line-requires-clause-m0
add_line-requires-clause-m0 c =
    let rooms : HaveMomentRooms c.loop-done.moments =
    moment_rooms c.args.rule.now c.args.dims.now
    (placed c.args.from (numbers c.args.kind c.loop-done.done c.args.samples.now)) c.loop-done.moments c.requires.frame c.loop-done.invariant.moments
    (parts_small c.args.kind c.args.from c.loop-done.done c.args.samples.now c.type_inv.samples) (let n =
    length-piece c.args.kind c.args.from c.loop-done.done c.args.samples.now in
    omega (arith, n, c.requires.frame.few, c.requires.within, c.loop-done.invariant.done)) in
    rooms.m0

pub add_line-requires-clause-mx : goal.add_line-requires-clause-mx
add_line-requires-clause-mx c =
    let rooms : HaveMomentRooms c.loop-done.moments =
    moment_rooms c.args.rule.now c.args.dims.now
    (placed c.args.from (numbers c.args.kind c.loop-done.done c.args.samples.now)) c.loop-done.moments c.requires.frame c.loop-done.invariant.moments
    (parts_small c.args.kind c.args.from c.loop-done.done c.args.samples.now c.type_inv.samples) (let n =
    length-piece c.args.kind c.args.from c.loop-done.done c.args.samples.now in
    omega (arith, n, c.requires.frame.few, c.requires.within, c.loop-done.invariant.done)) in
    rooms.mx

pub add_line-requires-clause-my : goal.add_line-requires-clause-my
add_line-requires-clause-my c =
    let rooms : HaveMomentRooms c.loop-done.moments =
    moment_rooms c.args.rule.now c.args.dims.now
    (placed c.args.from (numbers c.args.kind c.loop-done.done c.args.samples.now)) c.loop-done.moments c.requires.frame c.loop-done.invariant.moments
    (parts_small c.args.kind c.args.from c.loop-done.done c.args.samples.now c.type_inv.samples) (let n =
    length-piece c.args.kind c.args.from c.loop-done.done c.args.samples.now in
    omega (arith, n, c.requires.frame.few, c.requires.within, c.loop-done.invariant.done)) in
    rooms.my

pub later_spot-spot-requires-clause-more : goal.later_spot-spot-requires-clause-more
later_spot-spot-requires-clause-more c = omega (arith, c.on_line-size.ensures.few)

pub later_spot-spot-requires-clause-few : goal.later_spot-spot-requires-clause-few
later_spot-spot-requires-clause-few c =
    let count : length c.args.samples.now / c.width.result ≡ length c.args.samples.now / width c.args.kind =
    ap (λ w. length c.args.samples.now / w) c.width.ensures in
    omega (arith, count, c.loop-done.invariant.place, c.requires.within, c.requires.frame.few)

pub later_spot-spot-requires-clause-line : goal.later_spot-spot-requires-clause-line
later_spot-spot-requires-clause-line c = omega (arith, c.on_line-size.ensures.line, c.plane_of-plane.ensures.width)

pub loop-done-preserved : goal.loop-done-preserved
loop-done-preserved c =
    let rule = c.args.rule.now in
    let dims = c.args.dims.now in
    let kind = c.args.kind in
    let bytes = c.args.samples.now in
    let k = c.loop-done.done in
    let m = c.on_line-size.result in
    let ft : FitsSigned w64 c.args.rule.now.threshold = search rules in
    let vs = numbers kind m (drop (k * width kind) bytes) in
    let long = length-numbers kind m (drop (k * width kind) bytes) in
    let count : length bytes / c.width.result ≡ length bytes / width kind = ap (λ w. length bytes / w) c.width.ensures in
    let over : IsOver rule.threshold (placed 0 vs) c.line_over-line.result =
    subst (λ us. IsOver rule.threshold (placed 0 us) c.line_over-line.result) c.part.ensures.values (simp to_z-of_z at c.line_over-line.ensures.over) in
    let border = c.args.rule.now.border in
    let spot = c.loop-done.spot in
    let p = c.args.from + k in
    let at = spot_x border dims spot p c.loop-done.invariant.spot c.loop-done.invariant.place in
    let row = spot_y border dims spot p c.loop-done.invariant.spot c.loop-done.invariant.place in
    record {
      place = omega (arith, c.later_spot-spot.ensures.place, c.loop-done.invariant.place);
      spot = c.later_spot-spot.ensures.spot;
      done = omega (arith, count, c.on_line-size.ensures.left, c.loop-done-test.true);
      moments = subst (λ xs. AreMoments rule dims xs c.add_line.new.self) (sym (parts-more kind c.args.from k m bytes))
          (moments_line rule dims (placed c.args.from (numbers kind k bytes))
          p spot.x spot.y vs c.loop-done.moments c.add_line.new.self c.line_over-line.result
          c.loop-done.invariant.moments over at row
          (omega (arith, long, c.on_line-size.ensures.line, c.plane_of-plane.ensures.width))
          c.add_line.ensures.over c.add_line.ensures.m0 c.add_line.ensures.mx c.add_line.ensures.my);
    }
