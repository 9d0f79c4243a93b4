use Rattle.std.proofs.Common.{◌≡◌, ◌*◌, ◌-◌, ◌≤◌, ℕ, length, take, drop, get_or, pos, ◌+ℤ◌, arith, ap, ◌∙◌}
use Rattle.std.proofs.Math.Nat.{mul-le-mul_right, add-mul, div-mul-le_self}
use Rattle.std.proofs.lemmas.List.{length-drop, length-take-le, take_all}
use Rattle.std.proofs.lemmas.Nat.{le-div}
use Rattle.std.specs.Int.{w64, int_wrap}
use Rattle.nd_base.specs.Samples.{width}
use Rattle.nd_base.specs.SampleLaws.{width-positive}
use Rattle.nd_roi.specs.Walk.{run}
use Rattle.nd_roi.proofs.Runs.{run-drop}
use Rattle.nd_roi.proofs.sample.add_line.Goals as goal

pub add_binned-requires-clause-within : goal.add_binned-requires-clause-within
add_binned-requires-clause-within c =
    let w = width c.args.kind in
    let input = c.args.input.now in
    let from : ℕ = c.args.place * c.width.result in
    let m : ℕ = length c.args.sums.now * c.args.bin in
    let same : from ≡ c.args.place * w = ap (λ n. c.args.place * n) c.width.ensures in
    let all = length-drop from input in
    let long : length (take (length input - from) (drop from input)) ≡ length input - from =
    length-take-le (length input - from) (drop from input) (omega (arith, all)) in
    let a = mul-le-mul_right w c.requires.within in
    let b = div-mul-le_self (length input) w in
    let d = add-mul c.args.place m w in
    let enough : m * w ≤ length input - from = omega (arith, a, b, d, same) in
    let fits : m * w ≤ length (take (length input - from) (drop from input)) = omega (arith, long, enough) in
    le-div m (length (take (length input - from) (drop from input))) w (width-positive c.args.kind) fits

pub returns : goal.returns
returns c = λ k h.
    let kind = c.args.kind in
    let input = c.args.input.now in
    let bin = c.args.bin in
    let from : ℕ = c.args.place * c.width.result in
    let all = length-drop from input in
    let rest : take (length input - from) (drop from input) ≡ drop from input = take_all (length input - from) (drop from input) (omega (arith, all)) in
    c.add_binned.ensures k h
    ∙ ap (λ bytes. int_wrap w64 (get_or c.args.sums.now k (pos 0) +ℤ run kind bytes bin (k * bin)))
    (rest ∙ ap (λ n. drop (c.args.place * n) input) c.width.ensures)
    ∙ ap (λ z. int_wrap w64 (get_or c.args.sums.now k (pos 0) +ℤ z)) (run-drop kind input c.args.place bin (k * bin))
