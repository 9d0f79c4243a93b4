use Rattle.std.proofs.Common.{rules, ◌≡◌, ◌+◌, ◌*◌, ◌/◌, ◌%◌, ◌≤◌, ℕ, ℤ, List, length, drop, map, of_z, to_z, w64, ap, sym, subst, ◌∙◌, arith, FitsSigned, ◌+ℤ◌}
use Rattle.std.specs.Simd.Lanes.{fold_l}
use Rattle.std.proofs.Math.IntN.{+ℤ_assoc}
use Rattle.std.proofs.lemmas.Int.{to_z-of_z}
use Rattle.nd_base.specs.declared.array.SampleType.{SampleType}
use Rattle.nd_base.specs.Samples.{width, numbers, samples_of}
use Rattle.nd_base.specs.SampleLaws.{AreBytes}
use Rattle.lane_kernels.specs.Plain.{total}
use Rattle.lane_kernels.proofs.Rows.{bytes_behind}
use Rattle.lane_kernels.proofs.Slices.{slice_behind}
use Rattle.lane_kernels.proofs.Summed.{IsSummed, summed_wide, summed_both, summed, total-row, total-behind, total_fits, whole_sum}
use Rattle.lane_kernels.proofs.sums.wide_sum.Goals as goal

pub loop-k-preserved : goal.loop-k-preserved
loop-k-preserved c =
    let kind = c.args.kind in
    let bytes = c.args.samples.now in
    let k : ℕ = c.loop-k.k * 8 in
    let small : (at : ℕ) → AreBytes (drop at bytes) = λ at. bytes_behind at bytes c.type_inv.samples in
    let one = c.wide_row.result in
    let two = c.wide_row-in-loop-k.result in
    let s = total (numbers kind 4 (drop (k * width kind) bytes)) in
    let t = total (numbers kind 4 (drop ((k + 4) * width kind) bytes)) in
    let a = summed_wide kind 4 (drop (k * width kind) bytes) (small (k * width kind)) one c.wide_row.ensures in
    let b = summed_wide kind 4 (drop ((k + 4) * width kind) bytes) (small ((k + 4) * width kind)) two c.wide_row-in-loop-k.ensures in
    let next : k + 4 + 4 ≡ (c.loop-k.k + 1) * 8 = omega arith in
    let all : total (numbers kind k bytes) +ℤ (s +ℤ t) ≡ total (numbers kind ((c.loop-k.k + 1) * 8) bytes) =
    sym (+ℤ_assoc (total (numbers kind k bytes)) s t) ∙ ap (λ z. z +ℤ t) (sym (total-row kind k 4 bytes)) ∙ sym (total-row kind (k + 4) 4 bytes)
    ∙ ap (λ n. total (numbers kind n bytes)) next in
    subst (IsSummed w64 4 _) all
    (summed_both w64 4 c.loop-k.sums _ (total (numbers kind k bytes)) (s +ℤ t) c.loop-k.invariant (summed_both w64 4 (map (of_z w64) one) (map (of_z w64) two) s t a b))

-- the lanes and the samples behind them
both : (kind : SampleType) (n at : ℕ) (bytes bs : List ℕ) (rest : ℤ) → width kind ≡ 4 → n ≤ length bytes / width kind → length bytes / width kind ≤ 67108864
    → at ≡ n * 4 → AreBytes bytes → IsSummed w64 4 bs (total (numbers kind n bytes)) → rest ≡ total (samples_of kind (drop at bytes))
    → to_z w64 (fold_l (λ a b. (a + b) % 18446744073709551616) 0 bs) +ℤ rest ≡ total (samples_of kind bytes)
both kind n at bytes bs rest wide within few is small p e =
    let there : at ≡ n * width kind = is ∙ ap (λ w. n * w) (sym wide) in
    ap (λ z. z +ℤ rest) (summed w64 4 bs (total (numbers kind n bytes)) p (total_fits kind n bytes (omega (arith, within, few)) small))
    ∙ ap (λ z. total (numbers kind n bytes) +ℤ z) (e ∙ ap (λ at. total (samples_of kind (drop at bytes))) there) ∙ sym (total-behind kind n bytes within)

pub overflow_add-result : goal.overflow_add-result
overflow_add-result c =
    let kind = c.args.kind in
    let bytes = c.args.samples.now in
    let n : ℕ = c.loop-k.k * 8 in
    let v : ℤ = c.sum_each.result in
    let fv : FitsSigned w64 v = search rules in
    let wide = ap (λ w. length bytes / w) c.requires.wide in
    let small = bytes_behind 0 bytes c.type_inv.samples in
    let is : length bytes / 32 * 32 ≡ n * 4 = omega arith in
    let e = ap (λ z. to_z w64 (fold_l (λ a b. (a + b) % 18446744073709551616) 0 c.loop-k.sums) +ℤ z) (to_z-of_z w64 v fv)
    ∙ both kind n (length bytes / 32 * 32) bytes c.loop-k.sums v c.requires.wide (omega (arith, wide)) c.requires.few is small c.loop-k.invariant
    (c.sum_each.ensures ∙ ap (λ l. total (samples_of kind l)) (slice_behind (length bytes / 32 * 32) bytes)) in
    subst (FitsSigned w64) (sym e) (total_fits kind (length bytes / width kind) bytes c.requires.few small)

pub returns : goal.returns
returns c =
    let kind = c.args.kind in
    let bytes = c.args.samples.now in
    let n : ℕ = c.loop-k.k * 8 in
    let v : ℤ = c.sum_each.result in
    let fv : FitsSigned w64 v = search rules in
    let wide = ap (λ w. length bytes / w) c.requires.wide in
    let small = bytes_behind 0 bytes c.type_inv.samples in
    let is : length bytes / 32 * 32 ≡ n * 4 = omega arith in
    let e = both kind n (length bytes / 32 * 32) bytes c.loop-k.sums v c.requires.wide (omega (arith, wide)) c.requires.few is small c.loop-k.invariant
    (c.sum_each.ensures ∙ ap (λ l. total (samples_of kind l)) (slice_behind (length bytes / 32 * 32) bytes)) in
    whole_sum _ v (total (samples_of kind bytes)) fv (total_fits kind (length bytes / width kind) bytes c.requires.few small) e
