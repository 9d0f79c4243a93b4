use Rattle.std.proofs.Common.{rules, w64, FitsSigned, get_or, ℤ, pos, arith}
use Rattle.std.specs.Prelude.{◌-ℤ◌}
use Rattle.nd_series.specs.Kept.{part_at}
use Rattle.nd_series.proofs.Totals.{left_room, one_changed}
use Rattle.nd_series.proofs.Wides.{wide_difference, fits_difference}
use Rattle.nd_series.proofs.series.take_totals.Goals as goal

pub overflow_sub-sums : goal.overflow_sub-sums
overflow_sub-sums c =
    let k = c.loop-k.k in
    let total = (part_at k c.args.parts.now).total in
    let fits : FitsSigned w64 total = search rules in
    let room = left_room (λ sum total. sum -ℤ total) c.args.parts.now c.args.sums.now c.loop-k.sums k c.loop-k.invariant c.requires.room in
    fits_difference (get_or c.loop-k.sums k (pos 0)) total c.from.result room fits c.from.ensures

pub loop-k-preserved : goal.loop-k-preserved
loop-k-preserved c =
    let k = c.loop-k.k in
    let total = (part_at k c.args.parts.now).total in
    let fits : FitsSigned w64 total = search rules in
    let take : ℤ → ℤ → ℤ = λ sum total. sum -ℤ total in
    let room = left_room take c.args.parts.now c.args.sums.now c.loop-k.sums k c.loop-k.invariant c.requires.room in
    one_changed take c.args.parts.now c.args.sums.now c.loop-k.sums k _ (omega arith)
    (wide_difference (get_or c.loop-k.sums k (pos 0)) total c.from.result room fits c.from.ensures) c.loop-k.invariant
