use Rattle.std.proofs.Common.{arith}
use Rattle.journal_check.proofs.Alike.{alike-more, alike-apart, alike-end}
use Rattle.journal_check.proofs.step.count_alike.Goals as goal

pub loop-count-preserved : goal.loop-count-preserved
loop-count-preserved c =
    alike-more c.args.made.now c.args.entries.now c.loop-count.count _ _ (omega (arith, c.loop-count-test.true, c.min-most.ensures))
    (omega (arith, c.loop-count-test.true, c.min-most.ensures)) c.loop-count.invariant.2 (c.is_same.ensures.same c.if-is_same.true)

pub returns-else-is_same : goal.returns-else-is_same
returns-else-is_same c =
    alike-apart c.args.made.now c.args.entries.now c.loop-count.count _ _ (omega (arith, c.loop-count-test.true, c.min-most.ensures))
    (omega (arith, c.loop-count-test.true, c.min-most.ensures)) c.loop-count.invariant.2 (c.is_same.ensures.differ c.if-is_same.false)

pub returns-after-loop-count : goal.returns-after-loop-count
returns-after-loop-count c =
    alike-end c.args.made.now c.args.entries.now c.loop-count.count c.loop-count.invariant.0 c.loop-count.invariant.1 c.loop-count.invariant.2
    (omega (arith, c.loop-count-test.false, c.min-most.ensures))
