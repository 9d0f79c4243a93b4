use Rattle.std.proofs.Common.{◌≡◌, ℕ, ◌+◌, ◌*◌, pos, ◌+ℤ◌, ap, sym, ◌∙◌, arith}
use Rattle.nd_base.specs.Samples.{numbers}
use Rattle.nd_base.specs.declared.array.SampleType.TheVariants.{UInt16}
use Rattle.lane_kernels.specs.Plain.{total, squares}
use Rattle.lane_kernels.proofs.Narrow.{total-run, squares-run}
use Rattle.lane_kernels.proofs.words.word_blocks.Goals as goal

pub loop-done-preserved : goal.loop-done-preserved
loop-done-preserved c =
    let bytes = c.args.samples.now in
    let k : ℕ = c.loop-done.done * 2 in
    let m : ℕ = c.min-size.result * 2 in
    let both : k + m ≡ (c.loop-done.done + c.min-size.result) * 2 = omega arith in
    let more = c.word_block-more.ensures in
    record {
      done = omega (arith, c.min-size.ensures, c.loop-done-test.true);
      sum = ap (λ z. z +ℤ pos c.from-sum.result) c.loop-done.invariant.sum
          ∙ ap (λ z. total (numbers UInt16 k bytes) +ℤ z) (ap pos c.from-sum.ensures ∙ more.sum)
          ∙ sym (total-run UInt16 k m bytes) ∙ ap (λ n. total (numbers UInt16 n bytes)) both;
      squares = ap (λ n. n + c.word_block-more.result.1) c.loop-done.invariant.squares
          ∙ ap (λ n. squares (numbers UInt16 k bytes) + n) more.squares
          ∙ sym (squares-run UInt16 k m bytes) ∙ ap (λ n. squares (numbers UInt16 n bytes)) both;
      small = omega (arith, c.from-sum.ensures, more.small, c.loop-done.invariant.small);
      small_squares = omega (arith, more.small_squares, c.loop-done.invariant.small_squares);
    }
