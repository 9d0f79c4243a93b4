use Rattle.std.proofs.lemmas.Int.{to_z-of_z}
use Rattle.std.proofs.Common.{rules, w64, FitsSigned, ◌≡◌, ◌/◌, length, arith, ap}
use Rattle.nd_base.specs.Samples.{width}
use Rattle.nd_stats.proofs.Counts.{can_count, counted_next}
use Rattle.nd_stats.proofs.histogram.count_each.Goals as goal

pub count_one-ends-requires-clause-rooms : goal.count_one-ends-requires-clause-rooms
count_one-ends-requires-clause-rooms c =
    let count : length c.args.samples.now / c.width.result ≡ length c.args.samples.now / width c.args.kind =
    ap (λ w. length c.args.samples.now / w) c.width.ensures in
    can_count c.args.rule.now c.args.kind c.args.from c.loop-k.k c.args.samples.now c.loop-k.ends c.loop-k.counts c.loop-k.invariant (omega (arith, count))

pub loop-k-preserved : goal.loop-k-preserved
loop-k-preserved c =
    let rule = c.args.rule.now in
    let fv : FitsSigned w64 c.sample_at.result = search rules in
    let flo : FitsSigned w64 c.args.rule.now.hist_lo = search rules in
    let fhi : FitsSigned w64 c.args.rule.now.hist_hi = search rules in
    counted_next rule c.args.kind c.args.from c.loop-k.k c.args.samples.now c.sample_at.result c.loop-k.ends c.count_one-ends.result c.loop-k.counts
    c.count_one-ends.new.counts c.requires.rule c.sample_at.ensures.value c.loop-k.invariant
    (simp to_z-of_z at c.count_one-ends.ensures.below) (simp to_z-of_z at c.count_one-ends.ensures.bins) (simp to_z-of_z at c.count_one-ends.ensures.above)
