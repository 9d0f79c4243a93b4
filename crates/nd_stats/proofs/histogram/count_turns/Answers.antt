use Rattle.std.proofs.lemmas.Int.{to_z-of_z}
use Rattle.std.proofs.Common.{rules, w64, FitsSigned, ◌≡◌, ◌+◌, ◌/◌, length, arith, ap, sym, subst, ◌∙◌}
use Rattle.nd_base.specs.Samples.{width, numbers}
use Rattle.lane_kernels.specs.Plain.{stored}
use Rattle.nd_stats.specs.Samples.{placed}
use Rattle.nd_stats.specs.Running.{IsCounted}
use Rattle.nd_stats.proofs.Counts.{can_count, counted_next}
use Rattle.nd_stats.proofs.histogram.count_turns.Goals as goal

pub count_one-one-requires-clause-rooms : goal.count_one-one-requires-clause-rooms
count_one-one-requires-clause-rooms c =
    let turns : length c.args.first.now / c.width.result ≡ length c.args.first.now / width c.args.kind =
    ap (λ w. length c.args.first.now / w) c.width.ensures in
    can_count c.args.rule.now c.args.kind c.args.from c.loop-k.k c.args.first.now c.loop-k.one c.loop-k.counts c.loop-k.invariant.0
    (omega (arith, turns, c.loop-k-test.true, c.requires.few))

pub count_one-two-requires-clause-rooms : goal.count_one-two-requires-clause-rooms
count_one-two-requires-clause-rooms c =
    let turns : length c.args.first.now / c.width.result ≡ length c.args.first.now / width c.args.kind =
    ap (λ w. length c.args.first.now / w) c.width.ensures in
    can_count c.args.rule.now c.args.kind (c.args.from + length c.args.first.now / width c.args.kind) c.loop-k.k c.args.second.now c.loop-k.two c.loop-k.more
    c.loop-k.invariant.1 (omega (arith, turns, c.loop-k-test.true, c.requires.few))

pub loop-k-preserved : goal.loop-k-preserved
loop-k-preserved c =
    let rule = c.args.rule.now in
    let fv : FitsSigned w64 c.sample_at.result = search rules in
    let fw : FitsSigned w64 c.sample_at-in-loop-k.result = search rules in
    let flo : FitsSigned w64 c.args.rule.now.hist_lo = search rules in
    let fhi : FitsSigned w64 c.args.rule.now.hist_hi = search rules in (
      counted_next rule c.args.kind c.args.from c.loop-k.k c.args.first.now c.sample_at.result c.loop-k.one c.count_one-one.result c.loop-k.counts
          c.count_one-one.new.counts c.requires.rule c.sample_at.ensures.value c.loop-k.invariant.0
          (simp to_z-of_z at c.count_one-one.ensures.below) (simp to_z-of_z at c.count_one-one.ensures.bins) (simp to_z-of_z at c.count_one-one.ensures.above),
      counted_next rule c.args.kind (c.args.from + length c.args.first.now / width c.args.kind) c.loop-k.k c.args.second.now c.sample_at-in-loop-k.result
          c.loop-k.two c.count_one-two.result c.loop-k.more c.count_one-two.new.counts c.requires.rule c.sample_at-in-loop-k.ensures.value c.loop-k.invariant.1
          (simp to_z-of_z at c.count_one-two.ensures.below) (simp to_z-of_z at c.count_one-two.ensures.bins) (simp to_z-of_z at c.count_one-two.ensures.above),
    )

pub count_one-two-requires-then-turns-second-clause-rooms : goal.count_one-two-requires-then-turns-second-clause-rooms
count_one-two-requires-then-turns-second-clause-rooms c =
    let turns : length c.args.first.now / c.width.result ≡ length c.args.first.now / width c.args.kind =
    ap (λ w. length c.args.first.now / w) c.width.ensures in
    can_count c.args.rule.now c.args.kind (c.args.from + length c.args.first.now / width c.args.kind) c.loop-k.k c.args.second.now c.loop-k.two c.loop-k.more
    c.loop-k.invariant.1 (omega (arith, turns, c.loop-k.auto.k-end, c.requires.few))

pub returns-then-turns-second-clause-second : goal.returns-then-turns-second-clause-second
returns-then-turns-second-clause-second c =
    let rule = c.args.rule.now in
    let kind = c.args.kind in
    let second = c.args.second.now in
    let later = c.args.from + length c.args.first.now / width kind in
    let two = c.count_one-two-then-turns-second in
    let fv : FitsSigned w64 c.sample_at-last.result = search rules in
    let flo : FitsSigned w64 c.args.rule.now.hist_lo = search rules in
    let fhi : FitsSigned w64 c.args.rule.now.hist_hi = search rules in
    let turns : length c.args.first.now / c.width.result ≡ length c.args.first.now / width kind =
    ap (λ w. length c.args.first.now / w) c.width.ensures in
    let others : length second / c.width-2.result ≡ length second / width kind = ap (λ w. length second / w) c.width-2.ensures in
    let all : c.loop-k.k ≡ length c.args.first.now / c.width.result = omega (arith, c.loop-k-test.false, c.loop-k.auto.k-end) in
    let end : c.loop-k.k + 1 ≡ length second / width kind = omega (arith, all, turns, others, c.if-turns-second.true, c.requires.one_more) in
    let value = c.sample_at-last.ensures.value ∙ ap (stored kind second) (sym all) in
    subst (λ n. IsCounted rule (placed later (numbers kind n second)) two.result two.new.counts) end
    (counted_next rule kind later c.loop-k.k second c.sample_at-last.result c.loop-k.two two.result c.loop-k.more two.new.counts c.requires.rule value
    c.loop-k.invariant.1 (simp to_z-of_z at two.ensures.below) (simp to_z-of_z at two.ensures.bins) (simp to_z-of_z at two.ensures.above))
