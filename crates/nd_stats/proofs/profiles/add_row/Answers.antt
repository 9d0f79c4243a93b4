use Rattle.std.proofs.Common.{◌+◌, ◌*◌, ◌<◌, pos, get_or, set, drop, arith, ap, sym, ◌∙◌, w64}
use Rattle.std.proofs.lemmas.Int.{to_z-of_z}
use Rattle.nd_base.specs.Samples.{width, numbers}
use Rattle.nd_base.specs.SampleLaws.{length-numbers}
use Rattle.nd_base.specs.Places.{size_in}
use Rattle.nd_stats.specs.Samples.{placed}
use Rattle.nd_stats.specs.Tallies.{HasRoom, added_at}
use Rattle.nd_stats.specs.Running.{sums_along}
use Rattle.nd_stats.proofs.Places.{index_below, spot_x, spot_y}
use Rattle.nd_stats.proofs.Edges.{along_room, part_room, rows-more}
use Rattle.nd_stats.proofs.Joins.{fits_room, fits_rooms, room_sum}
use Rattle.nd_stats.proofs.Parts.{parts-more}
use Rattle.nd_stats.proofs.profiles.add_row.Goals as goal

pub slice_copy_out-rows : goal.slice_copy_out-rows
slice_copy_out-rows c =
    let rooms = along_room c.args.dims.now 1 c.args.kind c.args.from c.args.done c.args.samples.now c.args.rows.now c.type_inv.samples
    (omega (arith, c.requires.within, c.requires.piece, c.requires.frame.few)) c.requires.before in
    omega (arith, rooms.1, index_below c.args.dims.now 1 c.args.spot.place c.requires.frame.sizes, c.requires.spot.y)

pub overflow_add-rows : goal.overflow_add-rows
overflow_add-rows c =
    let kind = c.args.kind in
    let bytes = c.args.samples.now in
    let y = c.args.spot.y in
    let rooms = along_room c.args.dims.now 1 kind c.args.from c.args.done bytes c.args.rows.now c.type_inv.samples
    (omega (arith, c.requires.within, c.requires.piece, c.requires.frame.few)) c.requires.before in
    let a = get_or c.args.rows.now y (pos 0) in
    let v = c.args.sum in
    let ha : HasRoom a = rooms.0 y (omega (arith, rooms.1, index_below c.args.dims.now 1 c.args.spot.place c.requires.frame.sizes, c.requires.spot.y)) in
    let hv : HasRoom v = part_room kind (c.args.done * width kind) c.args.size bytes v c.type_inv.samples (omega (arith, c.requires.few)) c.requires.sum in
    rw (to_z-of_z w64 a (fits_room a ha), to_z-of_z w64 v (fits_room v hv)) (fits_rooms a v ha hv)

pub bounds-rows-spot : goal.bounds-rows-spot
bounds-rows-spot c =
    let rooms = along_room c.args.dims.now 1 c.args.kind c.args.from c.args.done c.args.samples.now c.args.rows.now c.type_inv.samples
    (omega (arith, c.requires.within, c.requires.piece, c.requires.frame.few)) c.requires.before in
    omega (arith, rooms.1, index_below c.args.dims.now 1 c.args.spot.place c.requires.frame.sizes, c.requires.spot.y)

pub returns-clause-rows : goal.returns-clause-rows
returns-clause-rows c =
    let dims = c.args.dims.now in
    let kind = c.args.kind in
    let bytes = c.args.samples.now in
    let k = c.args.done in
    let m = c.args.size in
    let p = c.args.from + k in
    let spot = c.args.spot in
    let vs = numbers kind m (drop (k * width kind) bytes) in
    let xs = placed c.args.from (numbers kind k bytes) in
    let long = length-numbers kind m (drop (k * width kind) bytes) in
    let rooms = along_room dims 1 kind c.args.from k bytes c.args.rows.now c.type_inv.samples
    (omega (arith, c.requires.within, c.requires.piece, c.requires.frame.few)) c.requires.before in
    let below : spot.y < size_in dims 1 = omega (arith, index_below dims 1 spot.place c.requires.frame.sizes, c.requires.spot.y) in
    let a = get_or c.args.rows.now spot.y (pos 0) in
    let v = c.args.sum in
    let ha : HasRoom a = rooms.0 spot.y (omega (arith, rooms.1, below)) in
    let hv : HasRoom v = part_room kind (k * width kind) m bytes v c.type_inv.samples (omega (arith, c.requires.few)) c.requires.sum in
    let at = spot_x c.args.rule.now.border dims spot p c.requires.spot c.requires.place in
    let row = spot_y c.args.rule.now.border dims spot p c.requires.spot c.requires.place in
    ap (λ z. set c.args.rows.now spot.y z) (room_sum a v ha hv)
    ∙ ap (λ l. added_at l spot.y v) c.requires.before ∙ ap (added_at (sums_along dims 1 xs) spot.y) c.requires.sum
    ∙ rows-more dims (size_in dims 1) xs p spot.x spot.y vs (sym at) (sym row) (omega (arith, long, c.requires.line)) below
    ∙ ap (sums_along dims 1) (sym (parts-more kind c.args.from k m bytes))
