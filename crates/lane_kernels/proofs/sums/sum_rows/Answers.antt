use Rattle.std.proofs.Common.{◌≡◌, ◌+◌, ◌*◌, ℕ, drop, map, of_z, w32, ap, sym, subst, ◌∙◌, arith, FitsSigned}
use Rattle.std.proofs.lemmas.Int.{fits_signed_from_abs}
use Rattle.nd_base.specs.Samples.{width, number, numbers}
use Rattle.nd_base.specs.SampleLaws.{number-IsSample}
use Rattle.lane_kernels.specs.Plain.{total}
use Rattle.lane_kernels.proofs.Narrow.{narrow}
use Rattle.lane_kernels.proofs.Rows.{bytes_behind}
use Rattle.lane_kernels.proofs.Summed.{IsSummed, summed_none, summed_narrow, summed_both, summed, total-row, total_most}
use Rattle.lane_kernels.proofs.sums.sum_rows.Goals as goal

pub loop-k-init : goal.loop-k-init
loop-k-init c = summed_none w32 8

pub loop-k-preserved : goal.loop-k-preserved
loop-k-preserved c =
    let kind = c.args.kind in
    let bytes = c.args.samples.now in
    let k : ℕ = c.loop-k.k * 8 in
    let behind = drop (k * width kind) bytes in
    let row = c.narrow_row-sums.result in
    let here = summed_narrow kind 8 behind (bytes_behind (k * width kind) bytes c.type_inv.samples) row c.requires.narrow c.narrow_row-sums.ensures in
    let next : k + 8 ≡ (c.loop-k.k + 1) * 8 = omega arith in
    subst (IsSummed w32 8 _) (sym (total-row kind k 8 bytes) ∙ ap (λ n. total (numbers kind n bytes)) next)
    (summed_both w32 8 c.loop-k.sums (map (of_z w32) row) (total (numbers kind k bytes)) (total (numbers kind 8 behind)) c.loop-k.invariant here)

pub returns : goal.returns
returns c =
    let kind = c.args.kind in
    let bytes = c.args.samples.now in
    let n : ℕ = c.loop-k.k * 8 in
    let all : c.loop-k.k ≡ c.args.rows = omega arith in
    let most = total_most 65535 kind (λ b s. narrow kind (number kind b) (number-IsSample kind b s) c.requires.narrow) n bytes (bytes_behind 0 bytes c.type_inv.samples) in
    let fits : FitsSigned w32 (total (numbers kind n bytes)) = fits_signed_from_abs w32 (total (numbers kind n bytes)) (omega (arith, most, all, c.requires.few)) in
    summed w32 8 c.loop-k.sums (total (numbers kind n bytes)) c.loop-k.invariant fits ∙ ap (λ k. total (numbers kind (k * 8) bytes)) all
