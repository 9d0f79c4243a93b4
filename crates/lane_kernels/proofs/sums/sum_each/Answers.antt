use Rattle.std.proofs.Common.{◌≡◌, ◌<◌, ◌≤◌, ◌+◌, ◌*◌, ◌/◌, length, arith, ap, sym, subst, ◌∙◌, ◌+ℤ◌, ℤ, w64, to_z}
use Rattle.std.specs.Prelude.{unsigned_abs}
use Rattle.nd_base.specs.Samples.{width, numbers}
use Rattle.lane_kernels.specs.Plain.{total}
use Rattle.lane_kernels.proofs.Samples.{same_number, sum_bound, sum_stored, total-more}
use Rattle.lane_kernels.proofs.sums.sum_each.Goals as goal

pub loop-k-preserved : goal.loop-k-preserved
loop-k-preserved c =
    let kind = c.args.kind in
    let bytes = c.args.samples.now in
    let k = c.loop-k.k in
    let v : ℤ = c.number_at-sum.result in
    let a : ℤ = to_z w64 c.loop-k.sum-bits in
    let count : length bytes / c.width-width.result ≡ length bytes / width kind = ap (λ w. length bytes / w) c.width-width.ensures in
    let few : k < 67108864 = omega (arith, count) in
    let stored = sum_stored a v k c.loop-k.invariant.bound c.number_at-sum.ensures.small few in
    let same = same_number kind c.width-width.result k v bytes c.width-width.ensures c.number_at-sum.ensures.value in
    record {
      sum = stored ∙ ap (λ z. z +ℤ v) c.loop-k.invariant.sum ∙ ap (λ z. total (numbers kind k bytes) +ℤ z) same ∙ sym (total-more kind k bytes);
      bound = subst (λ z. unsigned_abs z ≤ (k + 1) * 4294967296) (sym stored) (sum_bound a v k c.loop-k.invariant.bound c.number_at-sum.ensures.small);
    }
