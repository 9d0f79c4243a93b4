use Rattle.std.proofs.Common.{rules, ◌≡◌, ◌<◌, ◌≢◌, length, get_or, map, pos, ℤ, FitsSigned, to_z, of_z, arith, ap, ◌∙◌, sym, below_more, get_or-set_other}
use Rattle.std.proofs.Common.{get_or-set_same}
use Rattle.std.specs.Int.{w32, w64, int_wrap}
use Rattle.std.specs.Int.RustNames.{int_div}
use Rattle.std.proofs.lemmas.Int.{quot_is, quot_fits, ints, to_z-of_z}
use Rattle.std.proofs.lemmas.List.{ext_get_or, get_or-map, length-map}
use Rattle.nd_roi.proofs.sample.divide_each.Goals as goal

pub loop-k-preserved : goal.loop-k-preserved
loop-k-preserved c =
    let i = c.loop-k.k in
    let old : ℤ = get_or c.args.sums.now i (pos 0) in
    let fits : FitsSigned w64 old = search rules in
    let fits2 : FitsSigned w64 c.from-scale.result = search rules in
    let fits3 : FitsSigned w32 c.low_word.result = search rules in
    let here : to_z w32 (of_z w32 c.low_word.result) ≡ int_wrap w32 (int_div old (to_z w64 (of_z w64 c.from-scale.result))) =
    to_z-of_z w32 c.low_word.result fits3 ∙ c.low_word.ensures
    ∙ ap (int_wrap w32) (quot_is w64 old c.from-scale.result fits fits2
    (quot_fits w64 old c.from-scale.result fits (rw c.from-scale.ensures (omega (arith, ints))))
    ∙ ap (int_div old) (sym (to_z-of_z w64 c.from-scale.result fits2))) in
    below_more _ _
    (λ k h. let ne : k ≢ i = omega arith in rw get_or-set_other (c.loop-k.invariant k h))
    (let lt : i < length c.loop-k.quotients = omega arith in rw get_or-set_same here)

pub returns : goal.returns
returns c =
    let fits : FitsSigned w64 c.from-scale.result = search rules in
    let long : length c.loop-k.quotients ≡ length (map (λ sum. int_wrap w32 (int_div sum (pos c.args.scale))) c.args.sums.now) =
    simp length-map (omega arith) in
    ext_get_or (pos 0) _ _ long
    (λ i h. c.loop-k.invariant i (omega arith)
    ∙ ap (λ n. int_wrap w32 (int_div (get_or c.args.sums.now i (pos 0)) n)) (to_z-of_z w64 c.from-scale.result fits ∙ c.from-scale.ensures)
    ∙ sym (get_or-map (λ sum. int_wrap w32 (int_div sum (pos c.args.scale))) c.args.sums.now i (pos 0) (pos 0) (omega arith)))
