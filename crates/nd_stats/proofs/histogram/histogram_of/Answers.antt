use Rattle.std.proofs.Common.{◌/◌, ◌≤◌, length, pos, refl, ◌∙◌, arith}
use Rattle.std.proofs.lemmas.List.{take-replicate}
use Rattle.nd_base.specs.Samples.{width, numbers}
use Rattle.nd_stats.specs.Samples.{placed}
use Rattle.nd_stats.proofs.Pieces.{table-replicate}
use Rattle.nd_stats.proofs.Totals.{no_histogram}
use Rattle.nd_stats.proofs.histogram.histogram_of.Goals as goal

pub returns-then-rule-eq0 : goal.returns-then-rule-eq0
returns-then-rule-eq0 c =
    let kind = c.args.kind in
    no_histogram c.args.rule.now
    (placed c.args.from (numbers kind (length c.args.samples.now / width kind) c.args.samples.now)) c.args.blank c.if-rule-eq0.true c.requires.blank

pub count_all-ends-requires-else-samples-width-lt-MANY-clause-blank_more : goal.count_all-ends-requires-else-samples-width-lt-MANY-clause-blank_more
count_all-ends-requires-else-samples-width-lt-MANY-clause-blank_more c some =
    let fits : c.args.rule.now.hist_size ≤ 1024 = omega (arith, c.requires.rule.hist_size) in
    record {
      below = refl;
      bins = take-replicate c.args.rule.now.hist_size 1024 (pos 0) fits ∙ table-replicate 0 c.args.rule.now.hist_size;
      above = refl;
    }
