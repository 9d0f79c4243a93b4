use Rattle.std.proofs.Common.{◌≡◌, ℕ, ◌+◌, ◌*◌, ◌/◌, ◌%◌, ◌≤◌, pos, ◌+ℤ◌, length, drop, take, ap, sym, ◌∙◌, arith}
use Rattle.std.specs.Int.{w32, from_be_bytes}
use Rattle.std.specs.Prelude.{unsigned_abs}
use Rattle.nd_base.specs.declared.array.SampleType.TheVariants.{UInt16}
use Rattle.lane_kernels.specs.Plain.{run, square_run, stored}
use Rattle.lane_kernels.proofs.Twos.{parts_of_word, two_of_word, run-two, square_run-two}
use Rattle.lane_kernels.proofs.words.word_block.Goals as goal

pub loop-k-preserved : goal.loop-k-preserved
loop-k-preserved c =
    let samples = c.args.samples.now in
    let fit = c.type_inv.samples in
    let k = c.loop-k.k in
    let q : ℕ = c.args.place * 2 in
    let p : ℕ = (c.args.place + k) * 2 in
    let word = c.word_at-word.result in
    let there : p ≡ q + k * 2 = omega arith in
    let next : p + 1 ≡ q + (k * 2 + 1) = omega arith in
    let four : (c.args.place + k) * 4 ≡ p * 2 = omega arith in
    let is : word ≡ from_be_bytes w32 (take 4 (drop (p * 2) samples)) =
    c.word_at-word.ensures ∙ ap (λ n. from_be_bytes w32 (take 4 (drop n samples))) four in
    let within : p * 2 + 4 ≤ length samples = omega (arith, c.requires.within, c.loop-k-test.true) in
    let parts = parts_of_word samples p fit word is within in
    let high : word / 65536 ≡ unsigned_abs (stored UInt16 samples (q + k * 2)) = parts.0 ∙ ap (λ n. unsigned_abs (stored UInt16 samples n)) there in
    let low : word % 65536 ≡ unsigned_abs (stored UInt16 samples (q + (k * 2 + 1))) = parts.1 ∙ ap (λ n. unsigned_abs (stored UInt16 samples n)) next in
    let squares = square_run-two UInt16 samples k q
    ∙ ap (λ n. square_run UInt16 samples (k * 2) q + n * n + unsigned_abs (stored UInt16 samples (q + (k * 2 + 1)))
    * unsigned_abs (stored UInt16 samples (q + (k * 2 + 1)))) (sym high)
    ∙ ap (λ n. square_run UInt16 samples (k * 2) q + word / 65536 * (word / 65536) + n * n) (sym low) in
    record {
      sum = ap (λ z. z +ℤ pos (word / 65536 + word % 65536)) c.loop-k.invariant.sum
          ∙ ap (λ z. run UInt16 samples (k * 2) q +ℤ z) (two_of_word samples p fit word is within ∙ ap (run UInt16 samples 2) there)
          ∙ sym (run-two UInt16 samples k q);
      squares = omega (arith, squares, c.loop-k.invariant.squares, c.squares_around-around.ensures.value);
      few = omega (arith, c.word_at-word.type_inv, c.loop-k.invariant.few);
      low = omega (arith, c.loop-k.invariant.low);
      high = omega (arith, c.loop-k.invariant.high, c.squares_around-around.ensures.bound);
    }
