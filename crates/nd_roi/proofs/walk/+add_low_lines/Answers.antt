use Rattle.std.proofs.Common.{rules, ◌≡◌, ℕ, ◌+◌, ◌-◌, ◌*◌, ◌≤◌, [], ◌∷◌, get_or, reverse, sum_by, pos, ◌+ℤ◌, ℤ, arith, ap, ◌∙◌, sym}
use Rattle.std.specs.Int.{w32, int_wrap}
use Rattle.nd_roi.specs.Walk.{run, lines_total, sum_below, bin_reach}
use Rattle.std.proofs.lemmas.Int.{SFits-int_wrap}
use Rattle.std.proofs.lemmas.List.{reverse-append}
use Rattle.std.proofs.lemmas.List.Sums.{sum_by-append}
use Rattle.std.proofs.Math.Nat.{mul-le-mul_right}
use Rattle.nd_roi.proofs.Sums.{wraps-none, sums_more}
use Rattle.nd_roi.proofs.walk.+add_low_lines.Goals as goal

pub loop-j-init : goal.loop-j-init
loop-j-init t c = λ k h. wraps-none w32 (get_or c.args.sums.now k (pos 0)) (c.requires.fit k h)

pub loop-j-preserved : goal.loop-j-preserved
loop-j-preserved t c = λ k h.
    let total : ℕ → ℤ = lines_total (reverse c.in-Some.faster.now) (run c.args.kind c.args.input.now c.args.bin) in
    sums_more w32 (λ j. total (c.args.base + k * c.args.bin + j * c.in-Some.axis.now.stride)) c.loop-j.j _ _ _ _
    (c.loop-j.invariant k (omega arith)) (c.add_low_lines.ensures k h) (ap total (omega arith))

pub returns-after-loop-j : goal.returns-after-loop-j
returns-after-loop-j t c = λ k h.
    let total : ℕ → ℤ = lines_total (reverse c.in-Some.faster.now) (run c.args.kind c.args.input.now c.args.bin) in
    let e : reverse c.args.slower.now ≡ c.in-Some.axis.now ∷ reverse c.in-Some.faster.now =
    ap reverse c.in-Some.ensures.cases.0 ∙ reverse-append c.in-Some.faster.now (c.in-Some.axis.now ∷ []) in
    let n : c.loop-j.j ≡ c.in-Some.axis.now.cut.bin = omega arith in
    let p = c.args.base + k * c.args.bin in
    c.loop-j.invariant k h
    ∙ ap (λ n. int_wrap w32 (get_or c.args.sums.now k (pos 0) +ℤ sum_below n (λ j. total (p + j * c.in-Some.axis.now.stride)))) n
    ∙ ap (λ axes. int_wrap w32 (get_or c.args.sums.now k (pos 0) +ℤ lines_total axes (run c.args.kind c.args.input.now c.args.bin) p)) (sym e)

pub add_low_lines-requires : goal.add_low_lines-requires
add_low_lines-requires t c =
    let axis = c.in-Some.axis.now in
    let e =
    ap (sum_by bin_reach) c.in-Some.ensures.cases.0 ∙ sum_by-append bin_reach c.in-Some.faster.now (axis ∷ []) in
    let below : c.loop-j.j ≤ axis.cut.bin - 1 = omega arith in
    let reach = mul-le-mul_right axis.stride below in
    let same = ap (λ n. n * c.args.bin) c.loop-j.auto.sums in
    (search rules, (omega (arith, e, reach, same), λ k h. rw (c.loop-j.invariant k h) (SFits-int_wrap w32 _)))
