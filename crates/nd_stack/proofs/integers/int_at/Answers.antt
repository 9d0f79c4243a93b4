use Rattle.std.proofs.Common.{◌≡◌, ◌≤◌, ◌+◌, ◌-◌, ◌*◌, ◌/◌, length, take, drop, Some, ap, sym, ◌∙◌, arith, rules, FitsSigned, w32}
use Rattle.std.proofs.lemmas.Int.{to_z-of_z}
use Rattle.std.proofs.lemmas.Nat.{le-div}
use Rattle.nd_base.specs.declared.array.SampleType.TheVariants.{Int32}
use Rattle.nd_base.specs.Samples.{number}
use Rattle.nd_base.specs.SampleLaws.{slice_get-numbers}
use Rattle.nd_stack.proofs.integers.int_at.Goals as goal

pub returns : goal.returns
returns c =
    let bytes = c.args.bytes.now in
    let i = c.args.i in
    let fits : FitsSigned w32 c.int_of.result = search rules in
    let within : i + 1 ≤ length bytes / 4 = le-div (i + 1) (length bytes) 4 (omega arith) (omega (arith, c.requires)) in
    let size : i * 4 + 4 - i * 4 ≡ 4 = omega arith in
    let found = slice_get-numbers Int32 (length bytes / 4) i bytes (omega (arith, within)) in
    rw (to_z-of_z w32 c.int_of.result fits) (found ∙ ap Some (sym (c.int_of.ensures ∙ ap (λ n. number Int32 (take n (drop (i * 4) bytes))) size)))
