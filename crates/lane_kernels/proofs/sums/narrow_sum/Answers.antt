use Rattle.std.proofs.Common.{rules, ◌≡◌, ◌+◌, ◌*◌, ◌/◌, ◌≤◌, ℕ, ℤ, List, length, drop, to_z, w32, w64, ap, sym, subst, ◌∙◌, arith, FitsSigned, ◌+ℤ◌}
use Rattle.std.proofs.lemmas.Int.{to_z-of_z}
use Rattle.nd_base.specs.declared.array.SampleType.{SampleType}
use Rattle.nd_base.specs.Samples.{width, numbers, samples_of}
use Rattle.lane_kernels.specs.Plain.{total}
use Rattle.lane_kernels.proofs.Rows.{bytes_behind}
use Rattle.lane_kernels.proofs.Slices.{slice_behind}
use Rattle.lane_kernels.proofs.Summed.{total-row, total-behind, total_fits, whole_sum}
use Rattle.lane_kernels.proofs.sums.narrow_sum.Goals as goal

-- a block more
more : (kind : SampleType) (k m n w : ℕ) (bytes : List ℕ) (sum block : ℤ) → w ≡ width kind → k + m ≡ n → sum ≡ total (numbers kind k bytes)
    → block ≡ total (numbers kind m (drop (k * w) bytes)) → sum +ℤ block ≡ total (numbers kind n bytes)
more kind k m n w bytes sum block is next e f =
    ap (λ z. z +ℤ block) e ∙ ap (λ z. total (numbers kind k bytes) +ℤ z) (f ∙ ap (λ w. total (numbers kind m (drop (k * w) bytes))) is)
    ∙ sym (total-row kind k m bytes) ∙ ap (λ n. total (numbers kind n bytes)) next

-- the blocks and the samples behind them
whole : (kind : SampleType) (k w : ℕ) (bytes : List ℕ) (sum rest : ℤ) → w ≡ width kind → k ≤ length bytes / width kind → sum ≡ total (numbers kind k bytes)
    → rest ≡ total (samples_of kind (drop (k * w) bytes)) → sum +ℤ rest ≡ total (samples_of kind bytes)
whole kind k w bytes sum rest is within e f =
    ap (λ z. z +ℤ rest) e ∙ ap (λ z. total (numbers kind k bytes) +ℤ z) (f ∙ ap (λ w. total (samples_of kind (drop (k * w) bytes))) is)
    ∙ sym (total-behind kind k bytes within)

pub overflow_add-sum : goal.overflow_add-sum
overflow_add-sum c =
    let kind = c.args.kind in
    let bytes = c.args.samples.now in
    let w = c.width-width.result in
    let n : ℕ = (c.loop-done.done + c.min-size.result) * 8 in
    let count : length bytes / w ≡ length bytes / width kind = ap (λ w. length bytes / w) c.width-width.ensures in
    let b : ℤ = c.sum_rows.result in
    let v : ℤ = c.from-sum.result in
    let fb : FitsSigned w32 b = search rules in
    let fv : FitsSigned w64 v = search rules in
    let is : v ≡ total (numbers kind (c.min-size.result * 8) (drop (c.loop-done.done * 8 * w) bytes)) = simp to_z-of_z at c.from-sum.ensures ∙ c.sum_rows.ensures
    ∙ ap (λ l. total (numbers kind (c.min-size.result * 8) l)) (slice_behind (c.loop-done.done * 8 * w) bytes) in
    let all = more kind (c.loop-done.done * 8) (c.min-size.result * 8) n w bytes (to_z w64 c.loop-done.sum-bits) v c.width-width.ensures (omega arith)
    c.loop-done.invariant.sum is in
    let fits = total_fits kind n bytes (omega (arith, count, c.min-size.ensures, c.loop-done-test.true, c.requires.few)) (bytes_behind 0 bytes c.type_inv.samples) in
    subst (FitsSigned w64) (sym (ap (λ z. to_z w64 c.loop-done.sum-bits +ℤ z) (to_z-of_z w64 v fv) ∙ all)) fits

pub loop-done-preserved : goal.loop-done-preserved
loop-done-preserved c =
    let kind = c.args.kind in
    let bytes = c.args.samples.now in
    let w = c.width-width.result in
    let n : ℕ = (c.loop-done.done + c.min-size.result) * 8 in
    let count : length bytes / w ≡ length bytes / width kind = ap (λ w. length bytes / w) c.width-width.ensures in
    let within : n ≤ length bytes / width kind = omega (arith, count, c.min-size.ensures, c.loop-done-test.true) in
    let b : ℤ = c.sum_rows.result in
    let v : ℤ = c.from-sum.result in
    let fb : FitsSigned w32 b = search rules in
    let fv : FitsSigned w64 v = search rules in
    let is : v ≡ total (numbers kind (c.min-size.result * 8) (drop (c.loop-done.done * 8 * w) bytes)) = simp to_z-of_z at c.from-sum.ensures ∙ c.sum_rows.ensures
    ∙ ap (λ l. total (numbers kind (c.min-size.result * 8) l)) (slice_behind (c.loop-done.done * 8 * w) bytes) in
    let all = more kind (c.loop-done.done * 8) (c.min-size.result * 8) n w bytes (to_z w64 c.loop-done.sum-bits) v c.width-width.ensures (omega arith)
    c.loop-done.invariant.sum is in
    let fits = total_fits kind n bytes (omega (arith, within, c.requires.few)) (bytes_behind 0 bytes c.type_inv.samples) in
    record {
      done = within;
      sum = whole_sum (to_z w64 c.loop-done.sum-bits) v (total (numbers kind n bytes)) fv fits all;
    }

pub overflow_add-result : goal.overflow_add-result
overflow_add-result c =
    let kind = c.args.kind in
    let bytes = c.args.samples.now in
    let w = c.width-width.result in
    let k : ℕ = c.loop-done.done * 8 in
    let v : ℤ = c.sum_each.result in
    let fv : FitsSigned w64 v = search rules in
    let all = whole kind k w bytes (to_z w64 c.loop-done.sum-bits) v c.width-width.ensures c.loop-done.invariant.done c.loop-done.invariant.sum
    (c.sum_each.ensures ∙ ap (λ l. total (samples_of kind l)) (slice_behind (k * w) bytes)) in
    subst (FitsSigned w64) (sym (ap (λ z. to_z w64 c.loop-done.sum-bits +ℤ z) (to_z-of_z w64 v fv) ∙ all))
    (total_fits kind (length bytes / width kind) bytes c.requires.few (bytes_behind 0 bytes c.type_inv.samples))

pub returns : goal.returns
returns c =
    let kind = c.args.kind in
    let bytes = c.args.samples.now in
    let w = c.width-width.result in
    let k : ℕ = c.loop-done.done * 8 in
    let v : ℤ = c.sum_each.result in
    let fv : FitsSigned w64 v = search rules in
    let all = whole kind k w bytes (to_z w64 c.loop-done.sum-bits) v c.width-width.ensures c.loop-done.invariant.done c.loop-done.invariant.sum
    (c.sum_each.ensures ∙ ap (λ l. total (samples_of kind l)) (slice_behind (k * w) bytes)) in
    whole_sum (to_z w64 c.loop-done.sum-bits) v (total (samples_of kind bytes)) fv
    (total_fits kind (length bytes / width kind) bytes c.requires.few (bytes_behind 0 bytes c.type_inv.samples)) all
