use Rattle.std.proofs.Common.{rules, ◌≡◌, ◌+◌, ◌*◌, ◌<◌, ◌≢◌, length, get_or, pos, ◌+ℤ◌, ℤ, FitsSigned, to_z, of_z, arith, ap, ◌∙◌, below_more}
use Rattle.std.proofs.Common.{get_or-set_other, get_or-set_same, ◌%◌}
use Rattle.std.specs.Int.{w64, int_wrap}
use Rattle.std.proofs.lemmas.Int.{wrapping_add_is, int_wrap-add_right}
use Rattle.lane_kernels.specs.Plain.{run}
use Rattle.lane_kernels.proofs.binned.add_each.Goals as goal

pub loop-sum-preserved : goal.loop-sum-preserved
loop-sum-preserved c =
    let i = c.loop-sum.sum-index in
    let old : ℤ = get_or c.loop-sum.sums i (pos 0) in
    let fits : FitsSigned w64 old = search rules in
    let fits2 : FitsSigned w64 c.sum_run.result = search rules in
    let here : to_z w64 ((of_z w64 old + of_z w64 c.sum_run.result) % 18446744073709551616)
    ≡ int_wrap w64 (get_or c.args.sums.now i (pos 0) +ℤ run c.args.kind c.args.input.now c.args.bin (c.args.place + i * c.args.bin)) =
    wrapping_add_is w64 old c.sum_run.result fits fits2
    ∙ ap (λ z. int_wrap w64 (old +ℤ z)) c.sum_run.ensures
    ∙ int_wrap-add_right w64 old (run c.args.kind c.args.input.now c.args.bin c.loop-sum.at)
    ∙ ap (λ z. int_wrap w64 (z +ℤ run c.args.kind c.args.input.now c.args.bin c.loop-sum.at)) (c.loop-sum.invariant.rest i (omega arith))
    ∙ ap (λ p. int_wrap w64 (get_or c.args.sums.now i (pos 0) +ℤ run c.args.kind c.args.input.now c.args.bin p)) c.loop-sum.invariant.at in
    record {
      at = omega arith;
      added = below_more _ _
          (λ k h. let ne : k ≢ i = omega arith in rw get_or-set_other (c.loop-sum.invariant.added k h))
          (let lt : i < length c.loop-sum.sums = omega arith in rw get_or-set_same here);
      rest = λ k h. let ne : k ≢ i = omega arith in rw get_or-set_other (c.loop-sum.invariant.rest k (omega arith));
    }
