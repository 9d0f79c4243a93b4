use Rattle.std.proofs.Common.{◌≡◌, ◌+◌, ◌*◌, ◌<◌, pos, ◌+ℤ◌, ℤ, to_z, get_or, set, drop, arith, ap, sym, ◌∙◌, w64}
use Rattle.std.proofs.lemmas.Int.{to_z-of_z}
use Rattle.nd_base.specs.Samples.{width, numbers}
use Rattle.nd_base.specs.Places.{index_in, size_in}
use Rattle.lane_kernels.specs.Plain.{total}
use Rattle.nd_stats.specs.Samples.{placed}
use Rattle.nd_stats.specs.Tallies.{HasRoom}
use Rattle.nd_stats.specs.Running.{sums_along}
use Rattle.nd_stats.proofs.Edges.{along_room, columns-more, part_room, x_along}
use Rattle.nd_stats.proofs.Joins.{fits_room, fits_rooms, room_more, room_sum}
use Rattle.nd_stats.proofs.Totals.{total-next}
use Rattle.nd_stats.proofs.profiles.add_line.Goals as goal

pub slice_copy_out-sums : goal.slice_copy_out-sums
slice_copy_out-sums c =
    let rooms = along_room c.args.dims.now 0 c.args.kind c.args.from (c.args.done + c.loop-k.k) c.args.samples.now c.loop-k.sums c.type_inv.samples
    (omega (arith, c.requires.within, c.requires.few)) c.loop-k.invariant.sums in
    omega (arith, rooms.1, c.requires.line)

pub overflow_add-sums-in-loop-k : goal.overflow_add-sums-in-loop-k
overflow_add-sums-in-loop-k c =
    let rooms = along_room c.args.dims.now 0 c.args.kind c.args.from (c.args.done + c.loop-k.k) c.args.samples.now c.loop-k.sums c.type_inv.samples
    (omega (arith, c.requires.within, c.requires.few)) c.loop-k.invariant.sums in
    let a = get_or c.loop-k.sums (c.args.x + c.loop-k.k) (pos 0) in
    let v = c.sample_at-value.result in
    let ha : HasRoom a = rooms.0 (c.args.x + c.loop-k.k) (omega (arith, rooms.1, c.requires.line)) in
    let hv : HasRoom v = (let s = c.sample_at-value.ensures.small in omega (arith, s)) in
    rw (to_z-of_z w64 a (fits_room a ha), to_z-of_z w64 v (fits_room v hv)) (fits_rooms a v ha hv)

pub overflow_add-sum : goal.overflow_add-sum
overflow_add-sum c =
    let kind = c.args.kind in
    let a : ℤ = to_z w64 c.loop-k.sum-bits in
    let v = c.sample_at-value.result in
    let ha : HasRoom a = part_room kind (c.args.done * width kind) c.loop-k.k c.args.samples.now a c.type_inv.samples
    (omega (arith, c.requires.within, c.requires.few)) c.loop-k.invariant.sum in
    let hv : HasRoom v = (let s = c.sample_at-value.ensures.small in omega (arith, s)) in
    rw (to_z-of_z w64 v (fits_room v hv)) (fits_rooms a v ha hv)

pub bounds-sums-x : goal.bounds-sums-x
bounds-sums-x c =
    let rooms = along_room c.args.dims.now 0 c.args.kind c.args.from (c.args.done + c.loop-k.k) c.args.samples.now c.loop-k.sums c.type_inv.samples
    (omega (arith, c.requires.within, c.requires.few)) c.loop-k.invariant.sums in
    omega (arith, rooms.1, c.requires.line)

pub loop-k-preserved : goal.loop-k-preserved
loop-k-preserved c =
    let dims = c.args.dims.now in
    let kind = c.args.kind in
    let bytes = c.args.samples.now in
    let k = c.args.done + c.loop-k.k in
    let at = c.args.x + c.loop-k.k in
    let rooms = along_room c.args.dims.now 0 c.args.kind c.args.from (c.args.done + c.loop-k.k) c.args.samples.now c.loop-k.sums c.type_inv.samples
    (omega (arith, c.requires.within, c.requires.few)) c.loop-k.invariant.sums in
    let within : at < size_in dims 0 = omega (arith, c.requires.line) in
    let a = get_or c.loop-k.sums at (pos 0) in
    let b : ℤ = to_z w64 c.loop-k.sum-bits in
    let v = c.sample_at-value.result in
    let ha : HasRoom a = rooms.0 at (omega (arith, rooms.1, within)) in
    let hb : HasRoom b = part_room kind (c.args.done * width kind) c.loop-k.k bytes b c.type_inv.samples
    (omega (arith, c.requires.within, c.requires.few)) c.loop-k.invariant.sum in
    let hv : HasRoom v = (let s = c.sample_at-value.ensures.small in omega (arith, s)) in
    let here : index_in dims 0 (c.args.from + k) ≡ at =
    ap (index_in dims 0) (let e : c.args.from + k ≡ c.args.from + c.args.done + c.loop-k.k = omega arith in e)
    ∙ x_along dims (c.args.from + c.args.done) c.args.x c.loop-k.k (sym c.requires.x) within in
    let one : k + 1 ≡ c.args.done + (c.loop-k.k + 1) = omega arith in
    record {
      sums = ap (λ z. set c.loop-k.sums at z) (room_sum a v ha hv)
          ∙ columns-more dims kind c.args.from k at bytes c.loop-k.sums v c.loop-k.invariant.sums here within c.sample_at-value.ensures.value
          ∙ ap (λ n. sums_along dims 0 (placed c.args.from (numbers kind n bytes))) one;
      sum = room_more b v hb hv ∙ ap (λ z. z +ℤ v) c.loop-k.invariant.sum
          ∙ ap (λ z. total (numbers kind c.loop-k.k (drop (c.args.done * width kind) bytes)) +ℤ z) c.sample_at-value.ensures.value
          ∙ sym (total-next kind c.args.done c.loop-k.k bytes);
    }
