use Rattle.std.proofs.Common.{◌≡◌, ◌+◌, ◌*◌, ◌/◌, ◌≤◌, ℕ, List, length, drop, ap, sym, ◌∙◌, arith}
use Rattle.nd_base.specs.declared.array.SampleType.{SampleType}
use Rattle.nd_base.specs.Samples.{width, number, numbers, samples_of}
use Rattle.nd_base.specs.SampleLaws.{AreBytes, number-IsSample}
use Rattle.lane_kernels.specs.Plain.{squares}
use Rattle.lane_kernels.proofs.Narrow.{byte}
use Rattle.lane_kernels.proofs.Rows.{bytes_behind}
use Rattle.lane_kernels.proofs.Slices.{slice_behind}
use Rattle.lane_kernels.proofs.Summed.{squares-row, squares-behind, squares_most}
use Rattle.lane_kernels.proofs.sums.byte_squares.Goals as goal

most : (kind : SampleType) (n : ℕ) (bytes : List ℕ) → width kind ≡ 1 → AreBytes bytes → squares (numbers kind n bytes) ≤ n * 65025
most kind n bytes one small = squares_most 255 kind (λ b s. byte kind (number kind b) (number-IsSample kind b s) one) n bytes small

-- a block more
more : (kind : SampleType) (k m at : ℕ) (bytes : List ℕ) (sum block : ℕ) → width kind ≡ 1 → at ≡ k → sum ≡ squares (numbers kind k bytes)
    → block ≡ squares (numbers kind m (drop at bytes)) → sum + block ≡ squares (numbers kind (k + m) bytes)
more kind k m at bytes sum block one is e f =
    let there : at ≡ k * width kind = is ∙ (let k1 : k ≡ k * 1 = omega arith in k1) ∙ ap (λ w. k * w) (sym one) in
    let row = squares-row kind k m bytes in
    let same = ap (λ at. squares (numbers kind m (drop at bytes))) there in
    omega (arith, row, same, e, f)

pub overflow_add-sum : goal.overflow_add-sum
overflow_add-sum c =
    let kind = c.args.kind in
    let bytes = c.args.samples.now in
    let all = more kind (c.loop-done.done * 16) (c.min-size.result * 16) (c.loop-done.done * 16) bytes c.loop-done.sum c.from-sum.result c.requires.byte (omega arith)
    c.loop-done.invariant.sum (c.from-sum.ensures ∙ c.square_rows.ensures
    ∙ ap (λ l. squares (numbers kind (c.min-size.result * 16) l)) (slice_behind (c.loop-done.done * 16) bytes)) in
    let few = most kind (c.loop-done.done * 16 + c.min-size.result * 16) bytes c.requires.byte (bytes_behind 0 bytes c.type_inv.samples) in
    let count = ap (λ w. length bytes / w) c.requires.byte in
    record { fits = omega (arith, all, few, count, c.requires.few, c.min-size.ensures, c.loop-done-test.true) }

pub loop-done-preserved : goal.loop-done-preserved
loop-done-preserved c =
    let kind = c.args.kind in
    let bytes = c.args.samples.now in
    let all = more kind (c.loop-done.done * 16) (c.min-size.result * 16) (c.loop-done.done * 16) bytes c.loop-done.sum c.from-sum.result c.requires.byte (omega arith)
    c.loop-done.invariant.sum (c.from-sum.ensures ∙ c.square_rows.ensures
    ∙ ap (λ l. squares (numbers kind (c.min-size.result * 16) l)) (slice_behind (c.loop-done.done * 16) bytes)) in
    let next : c.loop-done.done * 16 + c.min-size.result * 16 ≡ (c.loop-done.done + c.min-size.result) * 16 = omega arith in
    record {
      done = omega (arith, c.min-size.ensures, c.loop-done-test.true);
      sum = all ∙ ap (λ n. squares (numbers kind n bytes)) next;
    }

-- the blocks and the samples behind them
whole : (kind : SampleType) (k : ℕ) (bytes : List ℕ) (sum rest : ℕ) → width kind ≡ 1 → k ≤ length bytes → sum ≡ squares (numbers kind k bytes)
    → rest ≡ squares (samples_of kind (drop k bytes)) → sum + rest ≡ squares (samples_of kind bytes)
whole kind k bytes sum rest one within e f =
    let there : k ≡ k * width kind = (let k1 : k ≡ k * 1 = omega arith in k1) ∙ ap (λ w. k * w) (sym one) in
    let count = ap (λ w. length bytes / w) one in
    let all = squares-behind kind k bytes (omega (arith, within, count)) in
    let same = ap (λ at. squares (samples_of kind (drop at bytes))) there in
    omega (arith, all, same, e, f)

pub overflow_add-result : goal.overflow_add-result
overflow_add-result c =
    let kind = c.args.kind in
    let bytes = c.args.samples.now in
    let all = whole kind (c.loop-done.done * 16) bytes c.loop-done.sum c.narrow_squares.result c.requires.byte c.loop-done.invariant.done c.loop-done.invariant.sum
    (c.narrow_squares.ensures ∙ ap (λ l. squares (samples_of kind l)) (slice_behind (c.loop-done.done * 16) bytes)) in
    let few = most kind (length bytes / width kind) bytes c.requires.byte (bytes_behind 0 bytes c.type_inv.samples) in
    record { fits = omega (arith, all, few, c.requires.few) }

pub returns : goal.returns
returns c =
    let kind = c.args.kind in
    let bytes = c.args.samples.now in
    whole kind (c.loop-done.done * 16) bytes c.loop-done.sum c.narrow_squares.result c.requires.byte c.loop-done.invariant.done c.loop-done.invariant.sum
    (c.narrow_squares.ensures ∙ ap (λ l. squares (samples_of kind l)) (slice_behind (c.loop-done.done * 16) bytes))
