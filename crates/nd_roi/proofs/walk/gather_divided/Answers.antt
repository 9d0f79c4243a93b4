use Rattle.std.proofs.Common.{◌≡◌, ◌∙◌, ap, map, pos, ℕ, ℤ, length, reverse, arith}
use Rattle.std.specs.Int.{w32, int_wrap}
use Rattle.std.specs.Int.RustNames.{int_div}
use Rattle.std.specs.List.{range_with_len}
use Rattle.std.proofs.lemmas.Simd.{map-map}
use Rattle.std.proofs.lemmas.List.{length-map}
use Rattle.nd_roi.specs.Walk.{line_total}
use Rattle.nd_roi.proofs.walk.gather_divided.Goals as goal

pub returns : goal.returns
returns c =
    let job = c.args.job.now in
    let quotient : ℤ → ℤ = λ sum. int_wrap w32 (int_div sum (pos job.scale)) in
    let total : ℕ → ℤ = line_total job.kind c.args.input.now job.line (reverse job.slower.now) c.args.base in
    let each = ap length c.divide_each.ensures in
    let long = length-map c.gather.new.sums quotient in
    let some : length c.gather.new.sums ≡ length c.args.quotients.now = omega (arith, each, long, c.divide_each.auto.quotients) in
    c.divide_each.ensures ∙ ap (map quotient) c.gather.ensures ∙ map-map quotient total (range_with_len c.args.done _)
    ∙ ap (λ n. map (λ out. quotient (total out)) (range_with_len c.args.done n)) (omega (arith, some, c.gather.auto.sums))
