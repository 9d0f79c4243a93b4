use Rattle.std.proofs.Common.{rules, w64, FitsSigned, get_or, ℤ, pos, ◌+ℤ◌, arith, below_more}
use Rattle.nd_series.specs.Kept.{part_at}
use Rattle.nd_series.proofs.Totals.{left_room, one_changed}
use Rattle.nd_series.proofs.Wides.{abs_most, wide_sum, fits_sum}
use Rattle.nd_series.proofs.series.add_totals.Goals as goal

pub overflow_add-sums : goal.overflow_add-sums
overflow_add-sums c =
    let k = c.loop-k.k in
    let total = (part_at k c.args.parts.now).total in
    let fits : FitsSigned w64 total = search rules in
    let room = left_room (λ sum total. sum +ℤ total) c.args.parts.now c.args.sums.now c.loop-k.sums k c.loop-k.invariant.totals c.requires.room in
    fits_sum (get_or c.loop-k.sums k (pos 0)) total c.from.result room fits c.from.ensures

pub loop-k-preserved : goal.loop-k-preserved
loop-k-preserved c =
    let k = c.loop-k.k in
    let total = (part_at k c.args.parts.now).total in
    let fits : FitsSigned w64 total = search rules in
    let totals = c.loop-k.invariant.totals in
    let add : ℤ → ℤ → ℤ = λ sum total. sum +ℤ total in
    let room = left_room add c.args.parts.now c.args.sums.now c.loop-k.sums k totals c.requires.room in
    record {
      totals = one_changed add c.args.parts.now c.args.sums.now c.loop-k.sums k _ (omega arith)
          (wide_sum (get_or c.loop-k.sums k (pos 0)) total c.from.result room fits c.from.ensures) totals;
      small = below_more _ _ c.loop-k.invariant.small (abs_most total fits);
    }
