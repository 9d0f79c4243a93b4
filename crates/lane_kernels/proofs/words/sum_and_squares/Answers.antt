use Rattle.std.proofs.Common.{◌≡◌, ℕ, ◌+◌, ◌*◌, ◌/◌, ◌≤◌, ℤ, pos, ◌+ℤ◌, length, w64, to_z, of_z, ap, sym, subst, ◌∙◌, arith}
use Rattle.std.specs.Prelude.{unsigned_abs}
use Rattle.std.proofs.lemmas.Int.{to_z_pos}
use Rattle.nd_base.specs.Samples.{width, numbers}
use Rattle.nd_base.specs.declared.array.SampleType.TheVariants.{UInt16}
use Rattle.lane_kernels.specs.Plain.{total, squares, stored}
use Rattle.lane_kernels.proofs.Narrow.{narrow_stored}
use Rattle.lane_kernels.proofs.Samples.{total-more, squares-more, sum_stored}
use Rattle.lane_kernels.proofs.Squares.{narrow_squared}
use Rattle.lane_kernels.proofs.words.sum_and_squares.Goals as goal

pub overflow_add-squares : goal.overflow_add-squares
overflow_add-squares c =
    let few : width UInt16 ≤ 2 = omega arith in
    let last = narrow_squared UInt16 c.args.samples.now (length c.args.samples.now / 4 * 2) c.type_inv.samples few in
    record { fits = omega (arith, last, c.sample_square-square.ensures, c.word_blocks-sum.ensures.small_squares, c.requires.few) }

pub returns-clause-sum : goal.returns-clause-sum
returns-clause-sum c =
    let bytes = c.args.samples.now in
    let n : ℕ = length bytes / 4 * 2 in
    let a = c.word_blocks-sum.result.0 in
    let v : ℤ = c.sample_at-last.result in
    let few : width UInt16 ≤ 2 = omega arith in
    let small : unsigned_abs (stored UInt16 bytes n) ≤ 65535 = narrow_stored UInt16 bytes n c.type_inv.samples few in
    let is : v ≡ stored UInt16 bytes n = c.sample_at-last.ensures.value in
    let last : unsigned_abs v ≤ 65535 = subst (λ z. unsigned_abs z ≤ 65535) (sym is) small in
    let all : n + 1 ≡ length bytes / width UInt16 = omega (arith, c.requires.whole, c.if-samples-eq0.false) in
    let most = c.word_blocks-sum.ensures.small in
    ap (λ z. to_z w64 (of_z w64 (z +ℤ to_z w64 (of_z w64 v)))) (to_z_pos w64 a (omega (arith, most, c.requires.few)))
    ∙ sum_stored (pos a) v (length bytes / 4) (omega (arith, most)) (omega (arith, last)) (omega (arith, c.requires.few))
    ∙ ap (λ z. z +ℤ v) c.word_blocks-sum.ensures.sum ∙ ap (λ z. total (numbers UInt16 n bytes) +ℤ z) is
    ∙ sym (total-more UInt16 n bytes) ∙ ap (λ k. total (numbers UInt16 k bytes)) all

pub returns-clause-squares : goal.returns-clause-squares
returns-clause-squares c =
    let bytes = c.args.samples.now in
    let n : ℕ = length bytes / 4 * 2 in
    let all : n + 1 ≡ length bytes / width UInt16 = omega (arith, c.requires.whole, c.if-samples-eq0.false) in
    c.from-2.ensures ∙ ap (λ k. k + c.sample_square-square.result) c.word_blocks-sum.ensures.squares
    ∙ ap (λ k. squares (numbers UInt16 n bytes) + k) c.sample_square-square.ensures
    ∙ sym (squares-more UInt16 n bytes) ∙ ap (λ k. squares (numbers UInt16 k bytes)) all
