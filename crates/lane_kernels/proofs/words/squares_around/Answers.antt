use Rattle.std.proofs.Common.{rules, ◌/◌, ◌%◌, FitsSigned, w32, arith}
use Rattle.std.proofs.lemmas.Int.{to_z-of_z}
use Rattle.lane_kernels.proofs.Middles.{middle_square}
use Rattle.lane_kernels.proofs.words.squares_around.Goals as goal

pub returns-clause-value : goal.returns-clause-value
returns-clause-value c =
    let f : FitsSigned w32 c.above_middle-high.result.0 = search rules in
    let g : FitsSigned w32 c.above_middle-high.result.1 = search rules in
    let high = middle_square c.above_middle-high.result.0 (c.args.word / 65536) c.above_middle-high.ensures.high in
    let low = middle_square c.above_middle-high.result.1 (c.args.word % 65536) c.above_middle-high.ensures.low in
    let one = simp to_z-of_z at c.near_square.ensures.value in
    let two = simp to_z-of_z at c.near_square-2.ensures.value in
    omega (arith, high, low, one, two)
