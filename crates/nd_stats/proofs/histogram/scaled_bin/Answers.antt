use Rattle.std.proofs.Common.{◌+◌, ◌*◌, ◌-◌, ◌/◌, ap, ◌∙◌, arith}
use Rattle.nd_stats.proofs.Bins.{ordered, range_most, bin_product}
use Rattle.nd_stats.proofs.histogram.scaled_bin.Goals as goal

pub overflow_mul-above-2 : goal.overflow_mul-above-2
overflow_mul-above-2 c =
    let rule = c.args.rule.now in
    let most = range_most rule.hist_lo rule.hist_hi c.requires.rule.hist_lo.0 c.requires.rule.hist_hi.1 (ordered rule c.requires.rule c.requires.some) in
    let p = bin_product c.args.above c.args.scale.last (omega (arith, c.requires.within, most))
    (omega (arith, c.requires.scale.last, c.requires.rule.hist_size)) in
    omega (arith, p)

pub overflow_add-above : goal.overflow_add-above
overflow_add-above c =
    let rule = c.args.rule.now in
    let most = range_most rule.hist_lo rule.hist_hi c.requires.rule.hist_lo.0 c.requires.rule.hist_hi.1 (ordered rule c.requires.rule c.requires.some) in
    let p = bin_product c.args.above c.args.scale.last (omega (arith, c.requires.within, most))
    (omega (arith, c.requires.scale.last, c.requires.rule.hist_size)) in
    omega (arith, p, most, c.requires.scale.range)

pub quotient-requires-clause-small : goal.quotient-requires-clause-small
quotient-requires-clause-small c =
    let rule = c.args.rule.now in
    let most = range_most rule.hist_lo rule.hist_hi c.requires.rule.hist_lo.0 c.requires.rule.hist_hi.1 (ordered rule c.requires.rule c.requires.some) in
    let p = bin_product c.args.above c.args.scale.last (omega (arith, c.requires.within, most))
    (omega (arith, c.requires.scale.last, c.requires.rule.hist_size)) in
    omega (arith, p, most, c.requires.scale.range)

pub returns : goal.returns
returns c =
    let rule = c.args.rule.now in
    let a = c.args.above in
    let last = c.args.scale.last in
    let range = c.args.scale.range in
    c.quotient.ensures ∙ ap (λ d. (2 * a * last + range) / d) c.requires.scale.by ∙ ap (λ l. (2 * a * l + range) / (2 * range)) c.requires.scale.last
    ∙ ap (λ r. (2 * a * (rule.hist_size - 1) + r) / (2 * r)) c.requires.scale.range
