use Rattle.std.proofs.Common.{rules, ◌≡◌, ◌+◌, ◌/◌, ◌%◌, pos, ◌+ℤ◌, FitsSigned, w32, to_z, of_z, arith, ap, ◌∙◌}
use Rattle.std.specs.Int.{w16}
use Rattle.std.specs.Int.Bits.{bit_xor}
use Rattle.std.specs.Int.Signed.{shr_z}
use Rattle.std.proofs.lemmas.Int.{to_z-of_z}
use Rattle.lane_kernels.proofs.Middles.{flip, middle_high, middle_low, middle_stored}
use Rattle.lane_kernels.proofs.words.above_middle.Goals as goal

pub returns-clause-high : goal.returns-clause-high
returns-clause-high c =
    let word = c.args.word in
    let f : FitsSigned w32 c.cast_signed.result = search rules in
    let is : to_z w32 (of_z w32 c.cast_signed.result) ≡ to_z w32 ((bit_xor word 32768 + 2147483648) % 4294967296) =
    to_z-of_z w32 c.cast_signed.result f ∙ c.cast_signed.ensures in
    middle_stored (shr_z (to_z w32 (of_z w32 c.cast_signed.result)) 65536) (word / 65536)
    (ap (λ z. shr_z z 65536 +ℤ pos 32768) is ∙ middle_high word (bit_xor word 32768) (omega arith) (flip word)) (omega arith)

pub returns-clause-low : goal.returns-clause-low
returns-clause-low c =
    let word = c.args.word in
    let f : FitsSigned w16 c.cast_signed-low.result = search rules in
    middle_stored c.from.result (word % 65536)
    (ap (λ z. z +ℤ pos 32768) (c.from.ensures ∙ to_z-of_z w16 c.cast_signed-low.result f ∙ c.cast_signed-low.ensures)
    ∙ middle_low word (bit_xor word 32768) (flip word)) (omega arith)
