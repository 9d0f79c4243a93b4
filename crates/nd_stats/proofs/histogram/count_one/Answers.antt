use Rattle.std.proofs.Common.{rules, ◌≡◌, ◌<◌, ◌^◌, ap, sym, ◌∙◌, refl, pos, arith, w64, FitsSigned}
use Rattle.std.specs.Prelude.{unsigned_abs, ◌-ℤ◌, ◌≤ℤ◌, true, int_lt}
use Rattle.std.proofs.lemmas.Int.{to_z-of_z}
use Rattle.nd_stats.specs.Measured.{bin_at}
use Rattle.nd_stats.specs.Tallies.{added_at}
use Rattle.nd_stats.proofs.Bins.{ordered, range_most, in_range, beyond_range, not_above, some_histogram, bins_inside, bins_beyond}
use Rattle.nd_stats.proofs.histogram.count_one.Goals as goal

pub returns-then-from_low-scale-clause-bins : goal.returns-then-from_low-scale-clause-bins
returns-then-from_low-scale-clause-bins c =
    let rule = c.args.rule.now in
    let v = c.args.value in
    let fv : FitsSigned w64 c.args.value = search rules in
    let fl : FitsSigned w64 c.args.rule.now.hist_lo = search rules in
    let ends = ordered rule c.requires.rule c.requires.some in
    let most = range_most rule.hist_lo rule.hist_hi c.requires.rule.hist_lo.0 c.requires.rule.hist_hi.1 ends in
    let near : c.above_low-from_low.result < 2 ^ 40 = omega (arith, c.if-from_low-scale.true, c.requires.scale.range, most) in
    let from : rule.hist_lo ≤ℤ v = simp to_z-of_z at (c.above_low-from_low.ensures.from near) in
    let distance = simp to_z-of_z at c.above_low-from_low.ensures.distance in
    let is : c.above_low-from_low.result ≡ unsigned_abs (v -ℤ rule.hist_lo) = distance from in
    let to = in_range rule.hist_lo v rule.hist_hi ends from (omega (arith, is, c.if-from_low-scale.true, c.requires.scale.range)) in
    c.add_at.ensures ∙ ap (λ b. added_at c.args.counts.now b (pos 1)) (c.bin_above.ensures.bin ∙ ap (λ n. bin_at rule n) is)
    ∙ sym (bins_inside rule v c.args.counts.now c.requires.some from to)

pub returns-else-value-scale : goal.returns-else-value-scale
returns-else-value-scale c =
    let rule = c.args.rule.now in
    let v = c.args.value in
    let fv : FitsSigned w64 c.args.value = search rules in
    let fl : FitsSigned w64 c.args.rule.now.hist_lo = search rules in
    let from : rule.hist_lo ≤ℤ v = search rules in
    let distance = simp to_z-of_z at c.above_low-from_low.ensures.distance in
    let is : c.above_low-from_low.result ≡ unsigned_abs (v -ℤ rule.hist_lo) = distance from in
    let ends = ordered rule c.requires.rule c.requires.some in
    let over : int_lt rule.hist_hi v ≡ true =
    beyond_range rule.hist_lo v rule.hist_hi ends from (omega (arith, is, c.if-from_low-scale.false, c.requires.scale.range)) in
    record {
      below = rw (not_above rule.hist_lo v from) (search rules);
      bins = sym (bins_beyond rule v c.args.counts.now over);
      above = rw (some_histogram rule c.requires.some) (rw over refl);
    }
