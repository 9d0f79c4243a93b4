use Rattle.std.proofs.Common.{rules, ◌≡◌, ◌+◌, ◌-◌, ◌*◌, ◌<◌, ◌≢◌, length, take, drop, get_or, pos, ◌+ℤ◌, ℤ, FitsSigned, to_z, of_z, arith, ap, sym, ◌∙◌, below_more}
use Rattle.std.proofs.Common.{get_or-set_other, get_or-set_same, ◌%◌}
use Rattle.std.specs.Int.{w32, int_wrap}
use Rattle.std.proofs.lemmas.Int.{wrapping_add_is, int_wrap-add_right}
use Rattle.std.proofs.Math.Nat.{suc-mul, mul_assoc}
use Rattle.nd_base.specs.Samples.{width}
use Rattle.lane_kernels.specs.Plain.{run}
use Rattle.lane_kernels.proofs.Slices.{run-slice, run_end}
use Rattle.lane_kernels.proofs.binned.add_low_each.Goals as goal

pub overflow_mul-end : goal.overflow_mul-end
overflow_mul-end c =
    let end = run_end c.loop-sum.sum-index (length c.args.sums.now) c.args.bin (length c.args.line.now) (width c.args.kind) c.loop-sum-test.true c.requires in
    let wide = ap (λ w. c.args.bin * w) c.width.ensures in
    search rules

pub loop-sum-preserved : goal.loop-sum-preserved
loop-sum-preserved c =
    let kind = c.args.kind in
    let line = c.args.line.now in
    let bin = c.args.bin in
    let i = c.loop-sum.sum-index in
    let at = c.loop-sum.at in
    let wide = ap (λ w. bin * w) c.width.ensures in
    let size : at + bin * c.width.result - at ≡ bin * width kind = omega (arith, wide) in
    let begin : at ≡ i * bin * width kind = c.loop-sum.invariant.at ∙ sym (mul_assoc i bin (width kind)) in
    let added : run kind (take (at + bin * c.width.result - at) (drop at line)) bin 0 ≡ run kind line bin (i * bin) =
    ap (λ n. run kind (take n (drop at line)) bin 0) size ∙ ap (λ n. run kind (take (bin * width kind) (drop n line)) bin 0) begin
    ∙ run-slice kind line (i * bin) bin bin (omega arith) in
    let old : ℤ = get_or c.loop-sum.sums i (pos 0) in
    let fits : FitsSigned w32 old = search rules in
    let fits2 : FitsSigned w32 c.low_run.result = search rules in
    let here : to_z w32 ((of_z w32 old + of_z w32 c.low_run.result) % 4294967296)
    ≡ int_wrap w32 (get_or c.args.sums.now i (pos 0) +ℤ run kind line bin (i * bin)) =
    wrapping_add_is w32 old c.low_run.result fits fits2
    ∙ ap (λ z. int_wrap w32 (old +ℤ z)) (c.low_run.ensures ∙ ap (int_wrap w32) added)
    ∙ int_wrap-add_right w32 old (run kind line bin (i * bin))
    ∙ ap (λ z. int_wrap w32 (z +ℤ run kind line bin (i * bin))) (c.loop-sum.invariant.rest i (omega arith)) in
    let next = suc-mul i (bin * width kind) in
    let here_at = c.loop-sum.invariant.at in
    record {
      at = omega (arith, wide, next, here_at);
      added = below_more _ _
          (λ k h. let ne : k ≢ i = omega arith in rw get_or-set_other (c.loop-sum.invariant.added k h))
          (let lt : i < length c.loop-sum.sums = omega arith in rw get_or-set_same here);
      rest = λ k h. let ne : k ≢ i = omega arith in rw get_or-set_other (c.loop-sum.invariant.rest k (omega arith));
    }
