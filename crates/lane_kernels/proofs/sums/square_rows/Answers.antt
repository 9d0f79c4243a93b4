use Rattle.std.proofs.Common.{◌≡◌, ◌+◌, ◌*◌, ◌%◌, ◌^◌, ◌<◌, ◌≤◌, ℕ, List, drop, map, pos, of_z, to_z, w32, ap, subst, ◌∙◌, arith, ◌+ℤ◌}
use Rattle.std.specs.Prelude.{unsigned_abs}
use Rattle.std.specs.Simd.Lanes.{fold_l}
use Rattle.std.proofs.lemmas.Int.{fits_signed_from_abs}
use Rattle.nd_base.specs.declared.array.SampleType.{SampleType}
use Rattle.nd_base.specs.declared.array.SampleType.TheVariants.{UInt16}
use Rattle.nd_base.specs.Samples.{width, number, numbers}
use Rattle.nd_base.specs.SampleLaws.{AreBytes, number-IsSample}
use Rattle.lane_kernels.specs.Plain.{squares}
use Rattle.lane_kernels.proofs.Narrow.{byte}
use Rattle.lane_kernels.proofs.Rows.{bytes_behind}
use Rattle.lane_kernels.proofs.Summed.{IsSummed, summed_squares, summed_both, summed, squares-row, squares_most}
use Rattle.lane_kernels.proofs.sums.square_rows.Goals as goal

-- the sum of so few squares
few_squares : (kind : SampleType) (n : ℕ) (bytes bs : List ℕ) → width kind ≡ 1 → n ≤ 8192 → AreBytes bytes → IsSummed w32 8 bs (pos (squares (numbers kind n bytes)))
    → (squares (numbers kind n bytes) < 2 ^ 31) × (to_z w32 (fold_l (λ a b. (a + b) % 4294967296) 0 bs) ≡ pos (squares (numbers kind n bytes)))
few_squares kind n bytes bs one few small p =
    let most = squares_most 255 kind (λ b s. byte kind (number kind b) (number-IsSample kind b s) one) n bytes small in
    let low : squares (numbers kind n bytes) < 2 ^ 31 = omega (arith, most, few) in
    (low, summed w32 8 bs (pos (squares (numbers kind n bytes))) p (fits_signed_from_abs w32 (pos (squares (numbers kind n bytes))) low))

pub loop-k-preserved : goal.loop-k-preserved
loop-k-preserved c =
    let kind = c.args.kind in
    let bytes = c.args.samples.now in
    let k : ℕ = c.loop-k.k * 16 in
    let small : (at : ℕ) → AreBytes (drop at bytes) = λ at. bytes_behind at bytes c.type_inv.samples in
    let few : width kind ≤ 2 = omega (arith, c.requires.byte) in
    let other : kind ≡ UInt16 → ⊥ = λ e. (let two = ap width e in omega (arith, c.requires.byte, two)) in
    let one = c.square_row.result in
    let two = c.square_row-in-loop-k.result in
    let a = summed_squares kind 8 (drop (k * width kind) bytes) (small (k * width kind)) one few other c.square_row.ensures in
    let b = summed_squares kind 8 (drop ((k + 8) * width kind) bytes) (small ((k + 8) * width kind)) two few other c.square_row-in-loop-k.ensures in
    let s = squares (numbers kind 8 (drop (k * width kind) bytes)) in
    let t = squares (numbers kind 8 (drop ((k + 8) * width kind) bytes)) in
    let first = squares-row kind k 8 bytes in
    let second = squares-row kind (k + 8) 8 bytes in
    let next : k + 8 + 8 ≡ (c.loop-k.k + 1) * 16 = omega arith in
    let last = ap (λ n. squares (numbers kind n bytes)) next in
    let all : squares (numbers kind k bytes) + (s + t) ≡ squares (numbers kind ((c.loop-k.k + 1) * 16) bytes) = omega (arith, first, second, last) in
    subst (IsSummed w32 8 _) (ap pos all)
    (summed_both w32 8 c.loop-k.sums _ (pos (squares (numbers kind k bytes))) (pos s +ℤ pos t) c.loop-k.invariant
    (summed_both w32 8 (map (of_z w32) one) (map (of_z w32) two) (pos s) (pos t) a b))

pub overflow_cast-result : goal.overflow_cast-result
overflow_cast-result c =
    let value = few_squares c.args.kind (c.loop-k.k * 16) c.args.samples.now c.loop-k.sums c.requires.byte (omega arith) (bytes_behind 0 c.args.samples.now c.type_inv.samples)
    c.loop-k.invariant in
    rw value.1 (tt, record { fits = omega (arith, value.0) })

pub returns : goal.returns
returns c =
    let all : c.loop-k.k ≡ c.args.rows = omega arith in
    let value = few_squares c.args.kind (c.loop-k.k * 16) c.args.samples.now c.loop-k.sums c.requires.byte (omega arith) (bytes_behind 0 c.args.samples.now c.type_inv.samples)
    c.loop-k.invariant in
    ap unsigned_abs value.1 ∙ ap (λ k. squares (numbers c.args.kind (k * 16) c.args.samples.now)) all
