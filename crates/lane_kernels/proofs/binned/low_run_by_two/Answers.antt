use Rattle.std.proofs.Common.{rules, ◌+◌, ◌-◌, ◌*◌, ◌/◌, ◌≡◌, ◌+ℤ◌, FitsSigned, Fits, ap, sym, ◌∙◌, arith}
use Rattle.std.specs.Int.{w32, int_wrap}
use Rattle.nd_base.specs.declared.array.SampleType.TheVariants.{UInt16}
use Rattle.lane_kernels.specs.Plain.{run, stored}
use Rattle.lane_kernels.proofs.Twos.{run-two, run-last, kept_more}
use Rattle.lane_kernels.proofs.binned.low_run_by_two.Goals as goal

pub loop-j-preserved : goal.loop-j-preserved
loop-j-preserved c =
    let samples = c.args.samples.now in
    let j = c.loop-j.j in
    let f : Fits w32 c.loop-j.sum-bits = search rules in
    let g : FitsSigned w32 c.sum_of_two-sum.result = search rules in
    let here : j * 2 ≡ 0 + j * 2 = omega arith in
    kept_more c.loop-j.sum-bits (run UInt16 samples (j * 2) 0) c.sum_of_two-sum.result f g c.loop-j.invariant
    ∙ ap (λ z. int_wrap w32 (run UInt16 samples (j * 2) 0 +ℤ z)) (c.sum_of_two-sum.ensures ∙ ap (run UInt16 samples 2) here)
    ∙ ap (int_wrap w32) (sym (run-two UInt16 samples j 0))

pub returns-else-bin-eq0 : goal.returns-else-bin-eq0
returns-else-bin-eq0 c =
    let samples = c.args.samples.now in
    let bin = c.args.bin in
    let all : c.loop-j.j ≡ bin / 2 = omega arith in
    let before = run UInt16 samples (bin / 2 * 2) 0 in
    let f : Fits w32 c.loop-j.sum-bits = search rules in
    let g : FitsSigned w32 c.unsigned_at-last.result = search rules in
    let last : bin - 1 ≡ 0 + bin - 1 = omega arith in
    kept_more c.loop-j.sum-bits before c.unsigned_at-last.result f g (c.loop-j.invariant ∙ ap (λ n. int_wrap w32 (run UInt16 samples (n * 2) 0)) all)
    ∙ ap (λ z. int_wrap w32 (before +ℤ z)) (c.unsigned_at-last.ensures ∙ ap (stored UInt16 samples) last)
    ∙ ap (int_wrap w32) (sym (run-last UInt16 samples bin 0 c.if-bin-eq0.false))
