use Rattle.std.proofs.Common.{◌<◌, subst, sym}
use Rattle.nd_stats.proofs.Bins.{bin_at_below}
use Rattle.nd_stats.proofs.histogram.bin_above.Goals as goal

pub returns-in-Some-clause-below : goal.returns-in-Some-clause-below
returns-in-Some-clause-below c =
    let rule = c.args.rule.now in
    subst (λ n. n < rule.hist_size) (sym c.ramp_bin.ensures) (bin_at_below rule c.args.above c.requires.rule c.requires.some c.requires.within)

pub returns-in-None-clause-below : goal.returns-in-None-clause-below
returns-in-None-clause-below c =
    let rule = c.args.rule.now in
    subst (λ n. n < rule.hist_size) (sym c.scaled_bin.ensures) (bin_at_below rule c.args.above c.requires.rule c.requires.some c.requires.within)
