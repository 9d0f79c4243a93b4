use Rattle.std.proofs.Common.{rules, ◌≡◌, ℕ, ◌<◌, ◌+◌, ◌*◌, ◌/◌, ◌≤◌, arith, ap, ◌∙◌, nat_le, pos, ◌-ℤ◌, subst, sym, length, get_or, map, to_z, of_z, w64, FitsSigned}
use Rattle.std.specs.Prelude.{unsigned_abs}
use Rattle.std.specs.Simd.Lanes.{sum_l}
use Rattle.std.proofs.lemmas.Int.{to_z-of_z, to_z_pos, fits_signed_from_abs, ints}
use Rattle.std.proofs.lemmas.List.{length-map}
use Rattle.std.proofs.Math.Nat.{mul-le-mul, add-mul, mul-add}
use Rattle.std.proofs.lemmas.List.Sums.{count_by-le-length}
use Rattle.nd_base.specs.Samples.{width, numbers}
use Rattle.nd_stats.specs.Samples.{placed}
use Rattle.nd_stats.specs.Over.{IsOver}
use Rattle.nd_stats.specs.Columns.{moment}
use Rattle.nd_stats.proofs.RowSums.{rows_step, kept_most, kept_lane, added_most, added_long, over_of, sum_most, weight_most}
use Rattle.nd_stats.proofs.columns.rows_over.Goals as goal

pub plus-sums-requires-clause-fit : goal.plus-sums-requires-clause-fit
plus-sums-requires-clause-fit c = λ j h.
    let count = ap (λ w. length c.args.rows.now / w) c.width.ensures in
    let one = c.loop-k.invariant.most j h in
    let two = kept_most c.least_of-least.result 65535 c.eight-values.result j (c.eight-values.ensures.most j h) in
    let same = ap (λ vs. get_or vs j 0) c.kept.ensures in
    omega (arith, count, one, two, same, c.requires.few)

pub plus-running-requires-clause-fit : goal.plus-running-requires-clause-fit
plus-running-requires-clause-fit c = λ j h.
    let k = c.loop-k.k in
    let count = ap (λ w. length c.args.rows.now / w) c.width.ensures in
    let few : k ≤ 128 = omega (arith, count, c.requires.few) in
    let kept : (i : ℕ) → i < 8 → get_or c.kept.result i 0 ≤ 65535 =
    λ i b. rw c.kept.ensures (kept_most c.least_of-least.result 65535 c.eight-values.result i (c.eight-values.ensures.most i b)) in
    let kept_long : length c.kept.result ≡ 8 =
    ap length c.kept.ensures ∙ length-map c.eight-values.result (kept_lane c.least_of-least.result) ∙ c.eight-values.ensures.size in
    let one = added_most c.loop-k.sums c.kept.result c.plus-sums.result (k * 65535) 65535 c.plus-sums.ensures c.loop-k.invariant.long kept_long
    c.loop-k.invariant.most kept j h in
    let two = c.loop-k.invariant.most_running j h in
    let times : k * 65535 ≤ 128 * 65535 = omega (arith, few) in
    let square : k * (k * 65535) ≤ 128 * (128 * 65535) = mul-le-mul few times in
    omega (arith, one, two, square, few)

pub loop-k-preserved : goal.loop-k-preserved
loop-k-preserved c =
    let k = c.loop-k.k in
    let kind = c.args.kind in
    let ft : FitsSigned w64 c.args.threshold = search rules in
    let kept : (i : ℕ) → i < 8 → get_or c.kept.result i 0 ≤ 65535 =
    λ i b. rw c.kept.ensures (kept_most c.least_of-least.result 65535 c.eight-values.result i (c.eight-values.ensures.most i b)) in
    let kept_long : length c.kept.result ≡ 8 =
    ap length c.kept.ensures ∙ length-map c.eight-values.result (kept_lane c.least_of-least.result) ∙ c.eight-values.ensures.size in
    let sums_long = added_long c.loop-k.sums c.kept.result c.plus-sums.result c.plus-sums.ensures c.loop-k.invariant.long kept_long in
    let most = added_most c.loop-k.sums c.kept.result c.plus-sums.result (k * 65535) 65535 c.plus-sums.ensures c.loop-k.invariant.long kept_long
    c.loop-k.invariant.most kept in
    let running = added_most c.loop-k.running c.plus-sums.result c.plus-running.result (k * (k * 65535)) (k * 65535 + 65535) c.plus-running.ensures
    c.loop-k.invariant.as_long sums_long c.loop-k.invariant.most_running most in
    let values = c.eight-values.ensures.values ∙ ap (map unsigned_abs) c.part.ensures.values in
    record {
      over = simp to_z-of_z (rows_step kind c.requires.kind c.least_of-least.result c.args.threshold (simp to_z-of_z at c.least_of-least.ensures) k
          c.loop-k.reached_count c.reached-reached_count.result c.args.rows.now c.loop-k.sums c.loop-k.running c.eight-values.result c.kept.result
          c.plus-sums.result c.plus-running.result (simp to_z-of_z at c.loop-k.invariant.over) values c.eight-values.ensures.size c.eight-values.ensures.most
          c.reached-reached_count.ensures c.kept.ensures c.plus-sums.ensures c.plus-running.ensures c.loop-k.invariant.long c.loop-k.invariant.as_long);
      long = sums_long;
      as_long = added_long c.loop-k.running c.plus-sums.result c.plus-running.result c.plus-running.ensures c.loop-k.invariant.as_long sums_long;
      few = omega (arith, c.loop-k.invariant.few, c.reached-reached_count.ensures, count_by-le-length (λ (v : ℕ). nat_le c.least_of-least.result v) c.eight-values.result, c.eight-values.ensures.size);
      most = λ j h. let one = most j h in omega (arith, one);
      most_running = λ j h. let two = running j h in let e : (k + 1) * ((k + 1) * 65535) ≡ k * (k * 65535) + k * 65535 + (k + 1) * 65535 =
          (let x = add-mul k 1 ((k + 1) * 65535) in let y = mul-add k (k * 65535) 65535 in omega (arith, x, y)) in omega (arith, two, e);
    }

pub returns : goal.returns
returns c =
    let rows = c.args.rows.now in
    let kind = c.args.kind in
    let k = c.loop-k.k in
    let sums = c.loop-k.sums in
    let r = c.lane_sums-sum.result in
    let q = length rows / c.width.result / 8 in
    let above = r.1 + q * 8 * r.0 in
    let below = c.lane_sums-earlier.result.0 * 8 in
    let ft : FitsSigned w64 c.args.threshold = search rules in
    let count = ap (λ w. length rows / w) c.width.ensures in
    let turns : q ≡ k = omega (arith, c.loop-k-test.false, c.loop-k.auto.k-end) in
    let all : k * 8 ≡ length rows / width kind = omega (arith, count, c.requires.whole, turns) in
    let o = subst (λ n. IsOver c.args.threshold (placed 0 (numbers kind n rows)) (over_of k c.loop-k.reached_count sums c.loop-k.running)) all
    (simp to_z-of_z at c.loop-k.invariant.over) in
    let few : q * 8 ≤ 1024 = omega (arith, turns, all, c.requires.few) in
    let less : r.0 ≤ 1099511627776 = omega (arith, c.lane_sums-sum.ensures.most) in
    let part : q * 8 * r.0 ≤ 1024 * 1099511627776 = mul-le-mul few less in
    let a : to_z w64 above ≡ pos above = to_z_pos w64 above (omega (arith, part, c.lane_sums-sum.ensures.most_moment)) in
    let b : to_z w64 below ≡ pos below = to_z_pos w64 below (omega (arith, c.lane_sums-earlier.ensures.most)) in
    let fits : FitsSigned w64 (pos above -ℤ pos below) = fits_signed_from_abs w64 (pos above -ℤ pos below)
    (omega (arith, ints, part, c.lane_sums-sum.ensures.most_moment, c.lane_sums-earlier.ensures.most)) in
    let sum = c.lane_sums-sum.ensures.sum in
    let earlier : below ≡ 8 * sum_l c.loop-k.running = omega (arith, c.lane_sums-earlier.ensures.sum) in
    let same : above ≡ moment 0 sums + k * 8 * sum_l sums =
    ap (λ m. m + q * 8 * r.0) c.lane_sums-sum.ensures.moment ∙ ap (λ n. moment 0 sums + n * 8 * r.0) turns ∙ ap (λ s. moment 0 sums + k * 8 * s) sum in
    let value : to_z w64 (of_z w64 (to_z w64 above -ℤ to_z w64 below)) ≡ pos (moment 0 sums + k * 8 * sum_l sums) -ℤ pos (8 * sum_l c.loop-k.running) =
    ap (λ z. to_z w64 (of_z w64 (z -ℤ to_z w64 below))) a ∙ ap (λ z. to_z w64 (of_z w64 (pos above -ℤ z))) b
    ∙ to_z-of_z w64 (pos above -ℤ pos below) fits ∙ ap (λ n. pos n -ℤ pos below) same
    ∙ ap (λ n. pos (moment 0 sums + k * 8 * sum_l sums) -ℤ pos n) earlier in
    record {
      over = record {
        count = o.count;
        sum = to_z_pos w64 r.0 (omega (arith, less)) ∙ ap pos sum ∙ o.sum;
        weighted = value ∙ o.weighted;
      };
      few = omega (arith, all, c.loop-k.invariant.few);
      sum = rw (to_z_pos w64 r.0 (omega (arith, less))) (omega (arith, sum, all, sum_most sums (k * 65535) c.loop-k.invariant.long c.loop-k.invariant.most));
      weighted = rw value (rw (sym all) (weight_most k sums c.loop-k.running (omega (arith, few, turns)) c.loop-k.invariant.long c.loop-k.invariant.as_long
          c.loop-k.invariant.most c.loop-k.invariant.most_running));
    }
