use Rattle.std.proofs.Common.{◌≡◌, ◌≤◌, ◌+◌, ◌*◌, ◌/◌, ◌%◌, ◌^◌, length, arith, ap, sym, subst, ◌∙◌, ◌+ℤ◌, ℤ, w64, to_z}
use Rattle.std.specs.Prelude.{unsigned_abs}
use Rattle.nd_base.specs.Samples.{width, numbers}
use Rattle.lane_kernels.specs.Plain.{total, squares}
use Rattle.lane_kernels.proofs.Samples.{squares-more, sum_bound, sum_stored, total-more}
use Rattle.lane_kernels.proofs.Squares.{wraps_more}
use Rattle.lane_kernels.proofs.sums.sums_by_parts.Goals as goal

pub loop-k-preserved : goal.loop-k-preserved
loop-k-preserved c =
    let kind = c.args.kind in
    let bytes = c.args.samples.now in
    let k = c.loop-k.k in
    let square = c.sample_square-square.result in
    let before = squares (numbers kind k bytes) in
    let after = squares (numbers kind (k + 1) bytes) in
    let more : after ≡ before + square = squares-more kind k bytes ∙ (let e = c.sample_square-square.ensures in omega (arith, e)) in
    let old = c.loop-k.invariant in
    let v : ℤ = c.sample_at-sum.result in
    let a : ℤ = to_z w64 c.loop-k.sum-bits in
    let count : length bytes / c.width.result ≡ length bytes / width kind = ap (λ w. length bytes / w) c.width.ensures in
    let stored = sum_stored a v k old.bound c.sample_at-sum.ensures.small (omega (arith, count)) in
    record {
      sum = stored ∙ ap (λ z. z +ℤ v) old.sum ∙ ap (λ z. total (numbers kind k bytes) +ℤ z) c.sample_at-sum.ensures.value ∙ sym (total-more kind k bytes);
      bound = subst (λ z. unsigned_abs z ≤ (k + 1) * 4294967296) (sym stored) (sum_bound a v k old.bound c.sample_at-sum.ensures.small);
      whole = ap (λ n. (n + square) % 2 ^ 64) old.whole ∙ wraps_more before after square more;
      least = omega (arith, more, old.least);
      most = omega (arith, more, old.most);
      high = omega (arith, old.high, c.sample_square-square.type_inv);
    }
