use Rattle.std.proofs.Common.{rules, ◌%◌, ap, ◌∙◌, w32, w64, to_z, of_z, FitsSigned}
use Rattle.std.proofs.lemmas.Int.{to_z-of_z}
use Rattle.lane_kernels.proofs.Wraps.{wraps-low}
use Rattle.lane_kernels.proofs.sample.low_word.Goals as goal

pub returns : goal.returns
returns c =
    let number = c.args.number in
    let fits : FitsSigned w64 number = search rules in
    let fits2 : FitsSigned w32 c.cast_signed.result = search rules in
    let bits = c.cast_unsigned-bits.ensures ∙ ap (of_z w64) (to_z-of_z w64 number fits) in
    to_z-of_z w32 c.cast_signed.result fits2 ∙ c.cast_signed.ensures ∙ ap (λ n. to_z w32 (n % 4294967296)) bits ∙ wraps-low number fits
