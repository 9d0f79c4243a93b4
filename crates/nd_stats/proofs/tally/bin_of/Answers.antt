use Rattle.std.proofs.Common.{arith, rules, w64, FitsSigned}
use Rattle.std.proofs.lemmas.Int.{to_z-of_z}
use Rattle.nd_stats.proofs.Bins.{within_range, range_most, range_positive, ordered_ends}
use Rattle.nd_stats.proofs.tally.bin_of.Goals as goal

pub bin_at-requires : goal.bin_at-requires
bin_at-requires c =
    let rule = c.args.rule.now in
    let fv : FitsSigned w64 c.args.value = search rules in
    let flo : FitsSigned w64 c.args.rule.now.hist_lo = search rules in
    let fhi : FitsSigned w64 c.args.rule.now.hist_hi = search rules in
    let above = simp to_z-of_z at c.distance-above.ensures in
    let range = simp to_z-of_z at c.distance-range.ensures in
    let most = range_most rule.hist_lo rule.hist_hi c.requires.rule.hist_lo.0 c.requires.rule.hist_hi.1 (ordered_ends _ _ _ c.requires.from c.requires.to) in
    let within = within_range rule.hist_lo c.args.value rule.hist_hi c.requires.from c.requires.to in
    let positive = range_positive rule.hist_lo rule.hist_hi (c.requires.rule.ordered c.requires.some) in
    record {
      within = omega (arith, within, above, range);
      some = omega (arith, positive, range);
      few = omega (arith, most, range);
      size = omega (arith, c.requires.some);
      bins = c.requires.rule.hist_size;
    }
