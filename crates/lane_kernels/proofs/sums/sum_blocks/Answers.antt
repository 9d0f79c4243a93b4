use Rattle.std.proofs.Common.{rules, ◌≡◌, ◌+◌, ◌*◌, ◌/◌, ◌≤◌, length, arith, ap, sym, subst, ◌∙◌, ◌+ℤ◌, ℤ, w32, w64, to_z, of_z, FitsSigned}
use Rattle.std.specs.Prelude.{unsigned_abs}
use Rattle.std.proofs.lemmas.Int.{to_z-of_z}
use Rattle.nd_base.specs.Samples.{width, numbers}
use Rattle.lane_kernels.specs.Plain.{total, run}
use Rattle.lane_kernels.proofs.Narrow.{total-run, block_most, block_fits}
use Rattle.lane_kernels.proofs.sums.sum_blocks.Goals as goal

pub loop-done-preserved : goal.loop-done-preserved
loop-done-preserved c =
    let kind = c.args.kind in
    let bytes = c.args.samples.now in
    let k = c.loop-done.done in
    let m = c.min-size.result in
    let a : ℤ = to_z w64 c.loop-done.sum-bits in
    let b : ℤ = c.sum_block.result in
    let v : ℤ = c.from-sum.result in
    let count : length bytes / c.width.result ≡ length bytes / width kind = ap (λ w. length bytes / w) c.width.ensures in
    let within : k + m ≤ length bytes / width kind = omega (arith, count, c.min-size.ensures, c.loop-done-test.true) in
    let fb : FitsSigned w32 b = search rules in
    let same : v ≡ b = simp to_z-of_z at c.from-sum.ensures in
    let small : unsigned_abs v ≤ m * 65535 = subst (λ z. unsigned_abs z ≤ m * 65535) (sym same) c.sum_block.ensures.bound in
    let is : v ≡ run kind bytes m k = same ∙ c.sum_block.ensures.value in
    let fv : FitsSigned w64 v = search rules in
    let fs : FitsSigned w64 (a +ℤ v) = block_fits a v k m c.loop-done.invariant.bound small (omega (arith, within, c.requires.few)) in
    let stored : to_z w64 (of_z w64 (a +ℤ to_z w64 (of_z w64 v))) ≡ a +ℤ v = ap (λ z. to_z w64 (of_z w64 (a +ℤ z))) (to_z-of_z w64 v fv)
    ∙ to_z-of_z w64 (a +ℤ v) fs in
    record {
      done = within;
      sum = stored ∙ ap (λ z. z +ℤ v) c.loop-done.invariant.sum ∙ ap (λ z. total (numbers kind k bytes) +ℤ z) is ∙ sym (total-run kind k m bytes);
      bound = subst (λ z. unsigned_abs z ≤ (k + m) * 65535) (sym stored) (block_most a v k m c.loop-done.invariant.bound small);
    }
