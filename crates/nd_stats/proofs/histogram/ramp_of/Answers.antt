use Rattle.std.proofs.Common.{rules, ◌≡◌, ◌+◌, ◌*◌, ◌-◌, ◌/◌, ◌<◌, ◌≤◌, ◌^◌, ap, ◌∙◌, refl, arith, w64, FitsSigned}
use Rattle.std.specs.Prelude.{unsigned_abs, ◌-ℤ◌}
use Rattle.std.proofs.lemmas.Int.{to_z-of_z}
use Rattle.nd_stats.proofs.Bins.{range_positive}
use Rattle.nd_stats.proofs.Ramps.{half_step, ramp_bins, ramp_fits, step_fits}
use Rattle.nd_stats.proofs.histogram.ramp_of.Goals as goal

pub overflow_mul-result-2 : goal.overflow_mul-result-2
overflow_mul-result-2 c =
    let rule = c.args.rule.now in
    let fl : FitsSigned w64 c.args.rule.now.hist_lo = search rules in
    let fh : FitsSigned w64 c.args.rule.now.hist_hi = search rules in
    let is : c.distance-range.result ≡ unsigned_abs (rule.hist_hi -ℤ rule.hist_lo) = simp to_z-of_z at c.distance-range.ensures in
    let some = range_positive rule.hist_lo rule.hist_hi (c.requires.rule.ordered c.requires.some) in
    let range = c.distance-range.result in
    let fits = step_fits range c.from.result (half_step range) (omega (arith, is, some))
    (omega (arith, c.from.ensures, c.requires.rule.hist_size)) refl in
    omega (arith, fits)

pub returns-clause-ramp : goal.returns-clause-ramp
returns-clause-ramp c =
    let rule = c.args.rule.now in
    let fl : FitsSigned w64 c.args.rule.now.hist_lo = search rules in
    let fh : FitsSigned w64 c.args.rule.now.hist_hi = search rules in
    let range = c.distance-range.result in
    let last = c.from.result in
    let is : range ≡ unsigned_abs (rule.hist_hi -ℤ rule.hist_lo) = simp to_z-of_z at c.distance-range.ensures in
    let some = range_positive rule.hist_lo rule.hist_hi (c.requires.rule.ordered c.requires.some) in
    let short : range < 2 ^ 21 = omega (arith, c.if-range-ge-LONG.false) in
    let few : last ≤ 1023 = omega (arith, c.from.ensures, c.requires.rule.hist_size) in
    record {
      bins = λ above within. ramp_bins above range last _ (omega (arith, is, some)) short (omega (arith, is, within)) few refl
          ∙ ap (λ l. (2 * above * l + range) / (2 * range)) c.from.ensures
          ∙ ap (λ r. (2 * above * (rule.hist_size - 1) + r) / (2 * r)) is;
      fits = λ above within. ramp_fits above range last _ short (omega (arith, is, within)) few refl;
    }
