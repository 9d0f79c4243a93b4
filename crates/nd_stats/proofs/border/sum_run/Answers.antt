use Rattle.std.proofs.Common.{◌*◌, ◌+ℤ◌, ℤ, to_z, drop, arith, ap, sym, ◌∙◌, w64}
use Rattle.std.proofs.lemmas.Int.{to_z-of_z}
use Rattle.nd_base.specs.Samples.{width, numbers}
use Rattle.lane_kernels.specs.Plain.{total}
use Rattle.nd_stats.specs.Tallies.{HasRoom}
use Rattle.nd_stats.proofs.Edges.{part_room}
use Rattle.nd_stats.proofs.Joins.{fits_room, fits_rooms, room_more}
use Rattle.nd_stats.proofs.Totals.{total-next}
use Rattle.nd_stats.proofs.border.sum_run.Goals as goal

pub overflow_add-sum : goal.overflow_add-sum
overflow_add-sum c =
    let kind = c.args.kind in
    let a : ℤ = to_z w64 c.loop-k.sum-bits in
    let v = c.sample_at-sum.result in
    let ha : HasRoom a = part_room kind (c.args.done * width kind) c.loop-k.k c.args.samples.now a c.type_inv.samples
    (omega (arith, c.requires.within, c.requires.few)) c.loop-k.invariant in
    let hv : HasRoom v = (let s = c.sample_at-sum.ensures.small in omega (arith, s)) in
    rw (to_z-of_z w64 v (fits_room v hv)) (fits_rooms a v ha hv)

pub loop-k-preserved : goal.loop-k-preserved
loop-k-preserved c =
    let kind = c.args.kind in
    let a : ℤ = to_z w64 c.loop-k.sum-bits in
    let v = c.sample_at-sum.result in
    let ha : HasRoom a = part_room kind (c.args.done * width kind) c.loop-k.k c.args.samples.now a c.type_inv.samples
    (omega (arith, c.requires.within, c.requires.few)) c.loop-k.invariant in
    let hv : HasRoom v = (let s = c.sample_at-sum.ensures.small in omega (arith, s)) in
    room_more a v ha hv ∙ ap (λ z. z +ℤ v) c.loop-k.invariant
    ∙ ap (λ z. total (numbers kind c.loop-k.k (drop (c.args.done * width kind) c.args.samples.now)) +ℤ z) c.sample_at-sum.ensures.value
    ∙ sym (total-next kind c.args.done c.loop-k.k c.args.samples.now)
