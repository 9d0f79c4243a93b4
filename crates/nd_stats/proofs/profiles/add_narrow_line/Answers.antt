use Rattle.std.proofs.Common.{◌≡◌, ◌≢◌, ◌+◌, ◌*◌, ◌<◌, ◌≤◌, pos, ◌+ℤ◌, ℤ, to_z, of_z, get_or, set, length, drop, arith, ap, sym, subst, ◌∙◌, w32, FitsSigned}
use Rattle.std.proofs.Common.{get_or-set_other}
use Rattle.std.specs.Prelude.{unsigned_abs}
use Rattle.std.proofs.lemmas.Int.{to_z-of_z, fits_signed_from_abs}
use Rattle.nd_base.specs.Samples.{width, numbers}
use Rattle.nd_base.specs.Places.{index_in, size_in}
use Rattle.lane_kernels.specs.Plain.{total}
use Rattle.nd_stats.specs.Samples.{placed}
use Rattle.nd_stats.specs.Running.{sums_along}
use Rattle.nd_stats.proofs.Edges.{columns-more, length-along, x_along}
use Rattle.nd_stats.proofs.Joins.{stored_sum}
use Rattle.nd_stats.proofs.Overs.{add_fits_32, add_most}
use Rattle.nd_stats.proofs.Sums.{abs-add}
use Rattle.nd_stats.proofs.Totals.{total-next}
use Rattle.nd_stats.proofs.Withins.{within_set}
use Rattle.nd_stats.proofs.profiles.add_narrow_line.Goals as goal

pub slice_copy_out-sums : goal.slice_copy_out-sums
slice_copy_out-sums c =
    let xs = placed c.args.from (numbers c.args.kind (c.args.done + c.loop-k.k) c.args.samples.now) in
    let long = length-along c.args.dims.now 0 xs c.loop-k.sums c.loop-k.invariant.sums in
    omega (arith, long, c.requires.line)

pub overflow_add-sums-in-loop-k : goal.overflow_add-sums-in-loop-k
overflow_add-sums-in-loop-k c =
    let at = c.args.x + c.loop-k.k in
    let xs = placed c.args.from (numbers c.args.kind c.args.done c.args.samples.now) in
    let long = length-along c.args.dims.now 0 xs c.args.sums.now c.requires.before in
    let a : ℤ = get_or c.loop-k.sums at (pos 0) in
    let v : ℤ = c.narrow_at-value.result in
    let ha : unsigned_abs a ≤ 2147385345 =
    subst (λ z. unsigned_abs z ≤ 2147385345) (sym (c.loop-k.invariant.behind at (omega arith))) (c.requires.room at (omega (arith, long, c.requires.line))) in
    let hv = c.narrow_at-value.ensures.bound in
    rw (to_z-of_z w32 a (fits_signed_from_abs w32 a (omega (arith, ha))), to_z-of_z w32 v (fits_signed_from_abs w32 v (omega (arith, hv))))
    (add_fits_32 a v 2147385345 65535 ha hv (omega arith))

pub bounds-sums-x : goal.bounds-sums-x
bounds-sums-x c =
    let xs = placed c.args.from (numbers c.args.kind (c.args.done + c.loop-k.k) c.args.samples.now) in
    let long = length-along c.args.dims.now 0 xs c.loop-k.sums c.loop-k.invariant.sums in
    omega (arith, long, c.requires.line)

pub loop-k-preserved : goal.loop-k-preserved
loop-k-preserved c =
    let dims = c.args.dims.now in
    let kind = c.args.kind in
    let bytes = c.args.samples.now in
    let sums = c.loop-k.sums in
    let k = c.args.done + c.loop-k.k in
    let at = c.args.x + c.loop-k.k in
    let xs = placed c.args.from (numbers kind c.args.done bytes) in
    let long = length-along dims 0 xs c.args.sums.now c.requires.before in
    let within : at < size_in dims 0 = omega (arith, c.requires.line) in
    let inside : at < length c.args.sums.now = omega (arith, long, within) in
    let a : ℤ = get_or sums at (pos 0) in
    let b : ℤ = to_z w32 c.loop-k.sum-bits in
    let v : ℤ = c.narrow_at-value.result in
    let same : a ≡ get_or c.args.sums.now at (pos 0) = c.loop-k.invariant.behind at (omega arith) in
    let ha : unsigned_abs a ≤ 2147385345 = subst (λ z. unsigned_abs z ≤ 2147385345) (sym same) (c.requires.room at inside) in
    let hv = c.narrow_at-value.ensures.bound in
    let fa : FitsSigned w32 a = fits_signed_from_abs w32 a (omega (arith, ha)) in
    let fv : FitsSigned w32 v = fits_signed_from_abs w32 v (omega (arith, hv)) in
    let fs : FitsSigned w32 (a +ℤ v) = add_fits_32 a v 2147385345 65535 ha hv (omega arith) in
    let fb : FitsSigned w32 (b +ℤ v) = add_fits_32 b v (c.loop-k.k * 65535) 65535 c.loop-k.invariant.low hv (omega (arith, c.requires.few)) in
    let added = stored_sum w32 a v fa fv fs in
    let more : to_z w32 (of_z w32 (b +ℤ to_z w32 (of_z w32 v))) ≡ b +ℤ v =
    ap (λ z. to_z w32 (of_z w32 (b +ℤ z))) (to_z-of_z w32 v fv) ∙ to_z-of_z w32 (b +ℤ v) fb in
    let here : index_in dims 0 (c.args.from + k) ≡ at =
    ap (index_in dims 0) (let e : c.args.from + k ≡ c.args.from + c.args.done + c.loop-k.k = omega arith in e)
    ∙ x_along dims (c.args.from + c.args.done) c.args.x c.loop-k.k (sym c.requires.x) within in
    let one : k + 1 ≡ c.args.done + (c.loop-k.k + 1) = omega arith in
    record {
      sums = ap (λ z. set sums at z) added
          ∙ columns-more dims kind c.args.from k at bytes sums v c.loop-k.invariant.sums here within c.narrow_at-value.ensures.value
          ∙ ap (λ n. sums_along dims 0 (placed c.args.from (numbers kind n bytes))) one;
      behind = λ j h. let ne : j ≢ at = omega arith in rw get_or-set_other (c.loop-k.invariant.behind j (omega (arith, h)));
      grown = λ most h. within_set sums at _ (most + 65535) (c.loop-k.invariant.grown most h)
          (subst (λ z. unsigned_abs z ≤ most + 65535) (sym added)
          (let s = abs-add a v in let m = subst (λ z. unsigned_abs z ≤ most) (sym same) (h at inside) in omega (arith, s, m, hv)));
      sum = more ∙ ap (λ z. z +ℤ v) c.loop-k.invariant.sum
          ∙ ap (λ z. total (numbers kind c.loop-k.k (drop (c.args.done * width kind) bytes)) +ℤ z) c.narrow_at-value.ensures.value
          ∙ sym (total-next kind c.args.done c.loop-k.k bytes);
      low = subst (λ z. unsigned_abs z ≤ (c.loop-k.k + 1) * 65535) (sym more)
          (let m = add_most b v c.loop-k.k 65535 c.loop-k.invariant.low hv in omega (arith, m));
    }
